-- Rows of bits: their members, what is left of a row from a name on, and what comes next in it.
-- Assumes nothing.
use Prim.Native.Nat.{ℕ, zero, suc, ◌+◌, ◌*◌, ◌-◌, ◌≤◌, ◌<◌, ◌/◌, ◌%◌, ◌^◌}
use native.Mathlib.Omega.{arith}
use native.Mathlib.Nat.{le_refl, le_trans, lt_of_le_of_lt}
use mathlib.Core.Path.{◌≡◌, refl, sym, ◌∙◌, ap, subst}
use mathlib.Core.Logic.{◌⊎◌, inl, inr, ⊎_elim}
use mathlib.Core.Bool.{Bool, true, false}
use mathlib.Core.List.{List, [], ◌∷◌, Memᴰ}
use lib.ListN.{length, get_or, take, drop}
use lib.Seq.{get_or-take}
use lib.Dec.{eqb}
use lib.Count.{count_trailing_zeros}
use lib.Pow.{shr_le}
use borrow.Author.Tests.{eqb-true, eqb-false}
use Rattle.demands.specs.Reading.{Each}
use Rattle.demands.proofs.Sets.{split}
use Rattle.std.proofs.lemmas.List.{places}
use Rattle.std.specs.Prelude.{Option, None, Some}
use Rattle.loops.specs.declared.RowNames.{RowNames}
use Rattle.loops.specs.Rows.{bit, has, passing, row_from, First, Gives}
use Rattle.loops.proofs.Bits.{bit_zero, bit_shr, bit_below, zeros_below, one_above}

-- two numbers are the same, or not
pub same_or : (x y : ℕ) → (x ≡ y) ⊎ (x ≡ y → ⊥)
same_or x y = ⊎_elim (λ e. inl (eqb-true x y e)) (λ e. inr (eqb-false x y e)) (split (eqb x y))

-- the first number passes, or not
module _ (p : ℕ → Bool) (k j : ℕ) where
  pub passing_pass : p j ≡ true → passing p (suc k) j ≡ j ∷ passing p k (j + 1)
  unfolding passing
  passing_pass e = rw (e, passing)

  pub passing_miss : p j ≡ false → passing p (suc k) j ≡ passing p k (j + 1)
  unfolding passing
  passing_miss e = rw (e, passing)

-- what holds of all that pass holds of each of the list
pub passing_each : (p : ℕ → Bool) (P : ℕ → Type 0) (k j : ℕ) → ((b : ℕ) → j ≤ b → b < j + k → p b ≡ true → P b) → Each P (passing p k j)
unfolding passing
passing_each p P zero j h = tt
passing_each p P (suc k) j h =
    let rest : Each P (passing p k (j + 1)) = passing_each p P k (j + 1) (λ b l u. h b (omega arith) (omega arith)) in
    ⊎_elim (λ (e : p j ≡ true). rw (passing_pass p k j e) (h j (le_refl j) (omega arith) e, rest)) (λ (e : p j ≡ false). rw (passing_miss p k j e) rest) (split (p j))

-- all that pass are in it
pub passing_in : (p : ℕ → Bool) (k j b : ℕ) → j ≤ b → b < j + k → p b ≡ true → Memᴰ b (passing p k j)
passing_in p zero j b l u e = absurd (omega arith)
passing_in p (suc k) j b l u e =
    let later : (j ≡ b → ⊥) → Memᴰ b (passing p k (j + 1)) = λ n. passing_in p k (j + 1) b (omega (arith, n)) (omega arith) e in
    ⊎_elim
    (λ (q : b ≡ j). rw (passing_pass p k j (subst (λ (x : ℕ). p x ≡ true) q e)) (mathlib.Core.List.Memᴰ.head q))
    (λ (n : b ≡ j → ⊥).
    ⊎_elim
    (λ (t : p j ≡ true). rw (passing_pass p k j t) (mathlib.Core.List.Memᴰ.tail (later (λ q. n (sym q)))))
    (λ (t : p j ≡ false). rw (passing_miss p k j t) (later (λ q. n (sym q))))
    (split (p j)))
    (same_or b j)

module _ (ws : List ℕ) (a : ℕ) where
  -- the row from a name on that it has
  pub row_hit : (j : ℕ) → j < 512 → has ws a j ≡ true → row_from ws a j ≡ j ∷ row_from ws a (j + 1)
  unfolding row_from
  row_hit j h e = let s : 512 - j ≡ suc (512 - (j + 1)) = omega arith in ap (λ (k : ℕ). passing (has ws a) k j) s ∙ passing_pass (has ws a) (512 - (j + 1)) j e

  row_miss : (j : ℕ) → j < 512 → has ws a j ≡ false → row_from ws a j ≡ row_from ws a (j + 1)
  unfolding row_from
  row_miss j h e = let s : 512 - j ≡ suc (512 - (j + 1)) = omega arith in ap (λ (k : ℕ). passing (has ws a) k j) s ∙ passing_miss (has ws a) (512 - (j + 1)) j e

  pub row_end : (j : ℕ) → 512 ≤ j → row_from ws a j ≡ []
  unfolding row_from passing
  row_end j h = let z : 512 - j ≡ 0 = omega arith in ap (λ (k : ℕ). passing (has ws a) k j) z

  -- names that it does not have
  row_skip : (t j : ℕ) → j + t ≤ 512 → ((i : ℕ) → i < t → has ws a (j + i) ≡ false) → row_from ws a j ≡ row_from ws a (j + t)
  row_skip zero j h n = ap (row_from ws a) (let e : j ≡ j + 0 = omega arith in e)
  row_skip (suc t) j h n =
      row_miss j (omega arith) (subst (λ (x : ℕ). has ws a x ≡ false) (let e : j + 0 ≡ j = omega arith in e) (n 0 (omega arith)))
      ∙ row_skip t (j + 1) (omega arith) (λ i b. subst (λ (x : ℕ). has ws a x ≡ false) (let e : j + suc i ≡ j + 1 + i = omega arith in e) (n (suc i) (omega arith)))
      ∙ ap (row_from ws a) (let e : j + 1 + t ≡ j + suc t = omega arith in e)

-- the word k of a row, from the name at place s in it on
module _ (ws : List ℕ) (k s : ℕ) where
  v : ℕ
  v = get_or ws k 0 / 2 ^ s

  in_word : (i : ℕ) → s + i < 64 → has ws 0 (64 * k + s + i) ≡ bit v i
  unfolding has v
  in_word i h =
      let word : 8 * 0 + (64 * k + s + i) / 64 ≡ k = omega arith in
      let place : (64 * k + s + i) % 64 ≡ s + i = omega arith in
      ap (λ (x : ℕ). bit (get_or ws x 0) ((64 * k + s + i) % 64)) word ∙ ap (bit (get_or ws k 0)) place ∙ sym (bit_shr (get_or ws k 0) s i)

  module _ (h : k < 8) (b : s < 64) where
    -- it is 0
    pub next_word : get_or ws k 0 / 2 ^ s ≡ 0 → row_from ws 0 (64 * k + s) ≡ row_from ws 0 (64 * (k + 1) + 0)
    unfolding v
    next_word z =
        row_skip ws 0 (64 - s) (64 * k + s) (omega arith) (λ i l. in_word i (omega arith) ∙ ap (λ (x : ℕ). bit x i) z ∙ bit_zero i)
        ∙ ap (row_from ws 0) (let e : 64 * k + s + (64 - s) ≡ 64 * (k + 1) + 0 = omega arith in e)

    -- it is not 0
    module _ (n : get_or ws k 0 / 2 ^ s ≡ 0 → ⊥) (small : get_or ws k 0 < 2 ^ 64) where
      t : ℕ
      t = count_trailing_zeros 64 v

      v_small : v < 2 ^ 64
      unfolding v
      v_small = lt_of_le_of_lt (shr_le (get_or ws k 0) s) small

      set_there : bit v t ≡ true
      unfolding v t
      set_there = one_above v n v_small

      within : s + t < 64
      unfolding v
      within = bit_below 64 (get_or ws k 0) (s + t) small (sym (bit_shr (get_or ws k 0) s t) ∙ set_there)

      pub first_bit : First ws 0 (64 * k + s) (64 * k + s + count_trailing_zeros 64 (get_or ws k 0 / 2 ^ s))
      unfolding v t
      first_bit =
          let w : s + t < 64 = within in
          record {
            name = omega arith;
            after = omega arith;
            rest = row_skip ws 0 t (64 * k + s) (omega arith) (λ i l. in_word i (omega arith) ∙ zeros_below v n v_small i l);
            there = in_word t w ∙ set_there;
          }

-- the first name behind names that the row does not have
pub first_behind : {ws : List ℕ} {a i j r : ℕ} → i ≤ j → row_from ws a i ≡ row_from ws a j → First ws a j r → First ws a i r
first_behind h e n = record { name = n.name; after = le_trans h n.after; rest = e ∙ n.rest; there = n.there }

-- the names from the first on
pub first_names : {ws : List ℕ} {a j b : ℕ} → First ws a j b → row_from ws a j ≡ b ∷ row_from ws a (b + 1)
first_names {ws} {a} {j} {b} n = n.rest ∙ row_hit ws a b n.name n.there

-- two tests that agree pass the same numbers
pub passing_same : (p q : ℕ → Bool) (k j : ℕ) → ((b : ℕ) → j ≤ b → b < j + k → p b ≡ q b) → passing p k j ≡ passing q k j
unfolding passing
passing_same p q zero j h = refl
passing_same p q (suc k) j h =
    let rest : passing p k (j + 1) ≡ passing q k (j + 1) = passing_same p q k (j + 1) (λ b l u. h b (omega arith) (omega arith)) in
    let first : p j ≡ q j = h j (le_refl j) (omega arith) in
    ⊎_elim
    (λ (e : q j ≡ true). passing_pass p k j (first ∙ e) ∙ ap (λ (l : List ℕ). j ∷ l) rest ∙ sym (passing_pass q k j e))
    (λ (e : q j ≡ false). passing_miss p k j (first ∙ e) ∙ rest ∙ sym (passing_miss q k j e))
    (split (q j))

-- the iterator i is over row a of ws
pub record Over (ws : List ℕ) (a : ℕ) (i : RowNames) : Type 0 where
  pub has : (b : ℕ) → b < 512 → has i.row.now 0 b ≡ has ws a b

-- over the words of a set, the first eight of a list, or those of a row of a graph
pub over_set : {ws : List ℕ} {i : RowNames} → i.row.now ≡ ws → Over ws 0 i
over_set e = record { has = λ b h. rw e refl }

pub over_front : {ws : List ℕ} {i : RowNames} → i.row.now ≡ take 8 ws → Over ws 0 i
unfolding has
over_front {ws} e = record { has = λ b h. rw e (ap (λ (v : ℕ). bit v (b % 64)) (get_or-take 8 ws (8 * 0 + b / 64) 0 (omega arith))) }

pub over_row : {ws : List ℕ} {a : ℕ} {i : RowNames} → a < 512 → length ws ≡ 4096 → i.row.now ≡ take 8 (drop (8 * a) ws) → Over ws a i
unfolding has
over_row {ws} {a} ha long e = record { has = λ b h. rw e (ap (λ (v : ℕ). bit v (b % 64)) (grind (arith, places))) }

pub over_next : {ws : List ℕ} {a : ℕ} {i j : RowNames} {r : Option ℕ} → Over ws a i → Gives i r j → Over ws a j
over_next {ws} {a} o n = record { has = rw n.row o.has }

module _ {ws : List ℕ} {a : ℕ} {i : RowNames} (o : Over ws a i) where
  -- what is left of its row is what is left of row a
  over_rest : (j : ℕ) → row_from i.row.now 0 j ≡ row_from ws a j
  unfolding row_from
  over_rest j = passing_same (has i.row.now 0) (has ws a) (512 - j) j (λ b l u. o.has b (omega arith))

  -- what it gave is the row's first name from where it stood
  pub over_name : {b : ℕ} {j : RowNames} → Gives i (Some b) j → First ws a i.from b
  over_name {b} n =
      let f : First i.row.now 0 i.from b = n.name in
      record { name = f.name; after = f.after; rest = sym (over_rest i.from) ∙ f.rest ∙ over_rest b; there = sym (o.has b f.name) ∙ f.there }

  -- or there is none from there on
  pub over_end : {j : RowNames} → Gives i None j → row_from ws a i.from ≡ []
  over_end n = sym (over_rest i.from) ∙ n.name
