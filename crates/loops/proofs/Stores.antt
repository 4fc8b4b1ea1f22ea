-- What a store of a word does to rows of bits: the law of `insert`, the steps of `join_row`, the law of `clear_row`, and what an array of zeros holds.
-- Assumes nothing.
use Prim.Native.Nat.{ℕ, ◌+◌, ◌*◌, ◌-◌, ◌≤◌, ◌<◌, ◌/◌, ◌%◌, ◌^◌, zero-le}
use native.Mathlib.Omega.{arith}
use mathlib.Core.Path.{◌≡◌, refl, sym, ◌∙◌, ap}
use mathlib.Core.Logic.{⊎_elim}
use mathlib.Core.Bool.{Bool, true, false, not, ◌||◌, ◌&&◌, or-false, and-true, and-false}
use mathlib.Core.List.{List}
use lib.ListN.{length, get_or, set, take, drop, length-take, length-drop, length-set, replicate, length-replicate, get_or-replicate, get_or-eq_default}
use lib.Seq.{get_or-set_same, get_or-set_other}
use lib.Dec.{eqb, ltb}
use Rattle.std.proofs.lemmas.List.{places}
use borrow.Rule.Slice.PartMut.{put_mid}
use lib.Bits.{bit_or}
use borrow.Author.Tests.{eq-eqb, ne_eqb, ltb-true, ltb-false}
use Rattle.demands.proofs.Sets.{split}
use Rattle.loops.specs.Rows.{bit, has, Connected, Joined, Emptied}
use Rattle.loops.proofs.Bits.{bit_zero, bit_of_or, bit_pow}
use Rattle.loops.proofs.Rows.{same_or}

-- a word is stored: every other stays
module _ (ws : List ℕ) (at w : ℕ) (within : at < length ws) where
  -- the bits of a word
  has_same : (x y : ℕ) → 8 * x + y / 64 ≡ at → has (set ws at w) x y ≡ bit w (y % 64)
  unfolding has
  has_same x y e = ap (λ (k : ℕ). bit (get_or (set ws at w) k 0) (y % 64)) e ∙ ap (λ (v : ℕ). bit v (y % 64)) (get_or-set_same ws at w 0 within)

  has_other : (x y : ℕ) → (8 * x + y / 64 ≡ at → ⊥) → has (set ws at w) x y ≡ has ws x y
  unfolding has
  has_other x y n = ap (λ (v : ℕ). bit v (y % 64)) (get_or-set_other ws at (8 * x + y / 64) w 0 n)

-- a bit is set
pub connected : (ws : List ℕ) (a b : ℕ) → 8 * a + 8 ≤ length ws → b < 512
    → Connected ws a b (set ws (8 * a + b / 64) (bit_or (get_or ws (8 * a + b / 64) 0) (2 ^ (b % 64))))
unfolding has
connected ws a b long hb =
    record { edges = λ x y hy. ⊎_elim (λ e. same_word x y hy e) (λ n. other_word x y hy n) (same_or (8 * x + y / 64) at) }
  where
    at : ℕ
    at = 8 * a + b / 64

    w : ℕ
    w = bit_or (get_or ws at 0) (2 ^ (b % 64))

    within : at < length ws
    within = omega arith

    same_word : (x y : ℕ) → y < 512 → 8 * x + y / 64 ≡ at → has (set ws at w) x y ≡ (has ws x y || (eqb x a && eqb y b))
    same_word x y hy e =
        let row_a : x ≡ a = omega arith in
        let here : eqb (y % 64) (b % 64) ≡ eqb y b =
        ⊎_elim
        (λ (q : y ≡ b). eq-eqb (y % 64) (b % 64) (ap (λ (z : ℕ). z % 64) q) ∙ sym (eq-eqb y b q))
        (λ (n : y ≡ b → ⊥). ne_eqb (y % 64) (b % 64) (λ q. n (omega arith)) ∙ sym (ne_eqb y b n))
        (same_or y b) in
        has_same ws at w within x y e
        ∙ bit_of_or (get_or ws at 0) (2 ^ (b % 64)) (y % 64)
        ∙ ap (λ (t : Bool). bit (get_or ws at 0) (y % 64) || t) (bit_pow (b % 64) (y % 64) ∙ here ∙ ap (λ (t : Bool). t && eqb y b) (sym (eq-eqb x a row_a)))
        ∙ ap (λ (k : ℕ). bit (get_or ws k 0) (y % 64) || (eqb x a && eqb y b)) (sym e)

    neither : (x y : ℕ) → y < 512 → (8 * x + y / 64 ≡ at → ⊥) → (eqb x a && eqb y b) ≡ false
    neither x y hy n =
        ⊎_elim
        (λ (q : x ≡ a). ap (λ (t : Bool). eqb x a && t) (ne_eqb y b (λ r. n (omega arith))) ∙ and-false (eqb x a))
        (λ (m : x ≡ a → ⊥). ap (λ (t : Bool). t && eqb y b) (ne_eqb x a m))
        (same_or x a)

    other_word : (x y : ℕ) → y < 512 → (8 * x + y / 64 ≡ at → ⊥) → has (set ws at w) x y ≡ (has ws x y || (eqb x a && eqb y b))
    other_word x y hy n = has_other ws at w within x y n ∙ sym (or-false (has ws x y)) ∙ ap (λ (t : Bool). has ws x y || t) (sym (neither x y hy n))

-- what the loop of `join_row` keeps: i words of the set are in row a
pub record Joining (ws : List ℕ) (a : ℕ) (more ws' : List ℕ) (i : ℕ) : Type 0 where
  pub upto : i ≤ 8
  pub long : length ws' ≡ length ws
  pub joined : (y : ℕ) → y < 64 * i → has ws' a y ≡ (has ws a y || has more 0 y)
  pub kept : (x y : ℕ) → y < 512 → (x ≡ a → 64 * i ≤ y) → has ws' x y ≡ has ws x y

pub joining_start : (ws : List ℕ) (a : ℕ) (more : List ℕ) → Joining ws a more ws 0
joining_start ws a more = record { upto = zero-le; long = refl; joined = λ y h. absurd (omega arith); kept = λ x y h k. refl }

-- the bits of a word of the row and of the set's word
word_or : (ws more : List ℕ) (a i y : ℕ) → y / 64 ≡ i → bit (bit_or (get_or ws (8 * a + i) 0) (get_or more i 0)) (y % 64) ≡ (has ws a y || has more 0 y)
unfolding has
word_or ws more a i y e =
    bit_of_or (get_or ws (8 * a + i) 0) (get_or more i 0) (y % 64)
    ∙ ap (λ (k : ℕ). bit (get_or ws (8 * a + k) 0) (y % 64) || bit (get_or more i 0) (y % 64)) (sym e)
    ∙ ap (λ (k : ℕ). has ws a y || bit (get_or more k 0) (y % 64)) (let q : i ≡ 8 * 0 + y / 64 = omega arith in q)

pub joining_more : {ws : List ℕ} {a : ℕ} {more ws' : List ℕ} {i : ℕ} → 8 * a + 8 ≤ length ws → i < 8 → Joining ws a more ws' i
    → Joining ws a more (set ws' (8 * a + i) (bit_or (get_or ws' (8 * a + i) 0) (get_or more i 0))) (i + 1)
joining_more {ws} {a} {more} {ws'} {i} long h c =
    let at : ℕ = 8 * a + i in
    let w : ℕ = bit_or (get_or ws' at 0) (get_or more i 0) in
    let within : at < length ws' = omega (arith, c.long) in
    record {
      upto = omega arith;
      long = length-set ws' at w ∙ c.long;
      joined = λ y b.
          ⊎_elim
          (λ (e : y / 64 ≡ i).
          has_same ws' at w within a y (omega arith) ∙ word_or ws' more a i y e ∙ ap (λ (t : Bool). t || has more 0 y) (c.kept a y (omega arith) (λ _. omega arith)))
          (λ (n : y / 64 ≡ i → ⊥). has_other ws' at w within a y (λ e. n (omega arith)) ∙ c.joined y (omega arith))
          (same_or (y / 64) i);
      kept = λ x y b k. has_other ws' at w within x y (λ e. let q : x ≡ a = omega arith in omega (arith, k q)) ∙ c.kept x y b (λ q. omega (arith, k q));
    }

pub joining_done : {ws : List ℕ} {a : ℕ} {more ws' : List ℕ} {i : ℕ} → 8 ≤ i → Joining ws a more ws' i → Joined ws a more ws'
joining_done {ws} {a} {more} {ws'} h c =
    record {
      edges = λ x y b.
          ⊎_elim
          (λ (e : x ≡ a).
          ap (λ (z : ℕ). has ws' z y) e
          ∙ c.joined y (omega arith)
          ∙ sym (ap (λ (z : ℕ). has ws z y || (eqb x a && has more 0 y)) e ∙ ap (λ (t : Bool). has ws a y || (t && has more 0 y)) (eq-eqb x a e)))
          (λ (n : x ≡ a → ⊥). c.kept x y b (λ e. absurd (n e)) ∙ sym (ap (λ (t : Bool). has ws x y || (t && has more 0 y)) (ne_eqb x a n) ∙ or-false (has ws x y)))
          (same_or x a);
    }

-- eight words are 0
module _ (ws zs : List ℕ) (i k : ℕ) (long : i + 8 ≤ length ws) (e : zs ≡ replicate (i + 8 - i) 0) where
  zeroed : i ≤ k → k < i + 8 → get_or (put_mid i (i + 8 - i) ws zs) k 0 ≡ 0
  zeroed l h = grind (arith, places)

  unzeroed : (i ≤ k → k < i + 8 → ⊥) → get_or (put_mid i (i + 8 - i) ws zs) k 0 ≡ get_or ws k 0
  unzeroed n = ⊎_elim (λ (t : ltb k i ≡ true). let l : k < i = ltb-true k i t in grind (arith, places)) (λ (t : ltb k i ≡ false). let l : i + 8 ≤ k = omega (arith, n, ltb-false k i t) in grind (arith, places)) (split (ltb k i))

-- the eight words of a row are 0
pub emptied : {ws zs : List ℕ} (a : ℕ) → 8 * a + 8 ≤ length ws → zs ≡ replicate (length (take (8 * a + 8 - 8 * a) (drop (8 * a) ws))) 0 → Emptied ws a (put_mid (8 * a) (8 * a + 8 - 8 * a) ws zs)
unfolding has
emptied {ws} {zs} a long q =
    let n : length (take (8 * a + 8 - 8 * a) (drop (8 * a) ws)) ≡ 8 * a + 8 - 8 * a = omega (arith, length-take {A = ℕ}, length-drop {A = ℕ}) in
    let e : zs ≡ replicate (8 * a + 8 - 8 * a) 0 = rw n at q in
    record {
      edges = λ x y h.
          let k : ℕ = 8 * x + y / 64 in
          ⊎_elim
          (λ (q : x ≡ a).
          ap (λ (v : ℕ). bit v (y % 64)) (zeroed ws zs (8 * a) k long e (omega arith) (omega arith)) ∙ bit_zero (y % 64)
          ∙ sym (ap (λ (t : Bool). bit (get_or ws k 0) (y % 64) && not t) (eq-eqb x a q) ∙ and-false (bit (get_or ws k 0) (y % 64))))
          (λ (n : x ≡ a → ⊥).
          ap (λ (v : ℕ). bit v (y % 64)) (unzeroed ws zs (8 * a) k long e (omega arith))
          ∙ sym (ap (λ (t : Bool). bit (get_or ws k 0) (y % 64) && not t) (ne_eqb x a n) ∙ and-true (bit (get_or ws k 0) (y % 64))))
          (same_or x a);
    }

-- an array of zeros has empty rows, for a caller to start from
pub zeros_empty : (n x y : ℕ) → has (replicate n 0) x y ≡ false
unfolding has
zeros_empty n x y =
    ap (λ (v : ℕ). bit v (y % 64)) (⊎_elim (λ (e : ltb k n ≡ true). get_or-replicate n k 0 0 (ltb-true k n e)) (λ (e : ltb k n ≡ false). get_or-eq_default (replicate n 0) 0 (omega (arith, length-replicate {A = ℕ} n 0, ltb-false k n e))) (split (ltb k n)))
    ∙ bit_zero (y % 64)
  where
    k : ℕ
    k = 8 * x + y / 64
