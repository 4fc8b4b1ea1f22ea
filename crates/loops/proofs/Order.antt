-- Number order and byte order: a list of texts in byte order is given by its members, so that the texts of a row, whose numbers go by that
-- order, are the definition's set of names. Assumes nothing.
use Prim.Native.Nat.{Ordering}
use Prim.Native.Nat.{ℕ, zero, suc, ◌+◌, ◌≤◌, ◌<◌, zero-le}
use native.Mathlib.Omega.{arith}
use mathlib.Core.Path.{◌≡◌, refl, sym, ◌∙◌, ap₂, subst}
use mathlib.Core.Logic.{⊎_elim}
use mathlib.Core.Bool.{Bool, true, false}
use mathlib.Core.List.{List, [], ◌∷◌, map, Memᴰ}
use lib.Dec.{eqb, ltb}
use borrow.Author.Tests.{eqb-true, eqb-false, ltb-true, ltb-false}
use Rattle.lustre.specs.Name.{Name, order, ◌is◌, ◌among◌, set_of}
use Rattle.demands.proofs.Sets.{split, mustnt, mem_in, in_mem}
use Rattle.demands.proofs.Eaches.{each_member}
use Rattle.demands.proofs.Orders.{order_trans, not_before_itself, is_test, Rising, set_in, in_set, set_rising}
use Rattle.loops.specs.Rows.{passing}
use Rattle.loops.proofs.Rows.{passing_each, passing_in, passing_pass, passing_miss}

-- two lists in byte order with the same members are the same
pub rising_same : (l m : List Name) → Rising l → Rising m → ((x : Name) → Memᴰ x l → Memᴰ x m) → ((x : Name) → Memᴰ x m → Memᴰ x l) → l ≡ m
unfolding Rising
rising_same [] [] r s forth back = refl
rising_same [] (b ∷ m) r s forth back = absurd (mathlib.Core.List.Memᴰ.not-nil (back b (mathlib.Core.List.Memᴰ.head refl)))
rising_same (a ∷ l) [] r s forth back = absurd (mathlib.Core.List.Memᴰ.not-nil (forth a (mathlib.Core.List.Memᴰ.head refl)))
rising_same (a ∷ l) (b ∷ m) r s forth back =
    let first : a ≡ b =
    ⊎_elim
    (λ (e : a ≡ b). e)
    (λ (i : Memᴰ a m).
    ⊎_elim (λ (e : b ≡ a). sym e) (λ (j : Memᴰ b l). absurd (not_before_itself a (order_trans a b a (r.0 b j) (s.0 a i)))) (mathlib.Core.List.Memᴰ.cases_cons (back b (mathlib.Core.List.Memᴰ.head refl))))
    (mathlib.Core.List.Memᴰ.cases_cons (forth a (mathlib.Core.List.Memᴰ.head refl))) in
    let forth' : (x : Name) → Memᴰ x l → Memᴰ x m =
    λ x i. ⊎_elim (λ (e : x ≡ b). absurd (not_before_itself a (subst (λ (y : Name). order a y ≡ Ordering.lt) (e ∙ sym first) (r.0 x i)))) (λ j. j) (mathlib.Core.List.Memᴰ.cases_cons (forth x (mathlib.Core.List.Memᴰ.tail i))) in
    let back' : (x : Name) → Memᴰ x m → Memᴰ x l =
    λ x i. ⊎_elim (λ (e : x ≡ a). absurd (not_before_itself b (subst (λ (y : Name). order b y ≡ Ordering.lt) (e ∙ first) (s.0 x i)))) (λ j. j) (mathlib.Core.List.Memᴰ.cases_cons (back x (mathlib.Core.List.Memᴰ.tail i))) in
    ap₂ ◌∷◌ first (rising_same l m r.1 s.1 forth' back')

-- numbers below `names`, which go by the byte order of their texts
module _ (names : ℕ) (text : ℕ → Name) (increasing : (i j : ℕ) → i < j → j < names → order (text i) (text j) ≡ Ordering.lt) where
  differ : (x y : ℕ) → x < names → y < names → (x ≡ y → ⊥) → text x ≡ text y → ⊥
  differ x y hx hy n t =
      ⊎_elim
      (λ (l : ltb x y ≡ true). not_before_itself (text x) (subst (λ (z : Name). order (text x) z ≡ Ordering.lt) (sym t) (increasing x y (ltb-true x y l) hy)))
      (λ (l : ltb x y ≡ false). not_before_itself (text y) (subst (λ (z : Name). order (text y) z ≡ Ordering.lt) t (increasing y x (omega (arith, ltb-false x y l)) hx)))
      (split (ltb x y))

  -- two numbers are one exactly if their texts are
  pub texts_apart : (x y : ℕ) → x < names → y < names → (text x is text y) ≡ eqb x y
  texts_apart x y hx hy =
      ⊎_elim
      (λ (e : eqb x y ≡ true). subst (λ (z : ℕ). (text x is text z) ≡ true) (eqb-true x y e) (is_test.self (text x)) ∙ sym e)
      (λ (e : eqb x y ≡ false). mustnt (text x is text y) (λ t. differ x y hx hy (eqb-false x y e) (is_test.same (text x) (text y) t)) ∙ sym e)
      (split (eqb x y))

-- the texts of those that pass a test
module _ (names : ℕ) (text : ℕ → Name) (increasing : (i j : ℕ) → i < j → j < names → order (text i) (text j) ≡ Ordering.lt) (p : ℕ → Bool) where
  texts_rising : (k j : ℕ) → ((b : ℕ) → b < j + k → p b ≡ true → b < names) → Rising (map text (passing p k j))
  unfolding passing Rising
  texts_rising zero j within = tt
  texts_rising (suc k) j within =
      let rest : Rising (map text (passing p k (j + 1))) = texts_rising k (j + 1) (λ b l. within b (omega arith)) in
      ⊎_elim (λ (e : p j ≡ true). rw (passing_pass p k j e) (λ x m. later x m, rest)) (λ (e : p j ≡ false). rw (passing_miss p k j e) rest) (split (p j))
    where
      later : (x : Name) → Memᴰ x (map text (passing p k (j + 1))) → order (text j) x ≡ Ordering.lt
      later x m =
          let r = mathlib.Core.List.Memᴰ.of_map text (passing p k (j + 1)) m in
          let h = each_member (λ (b : ℕ). (j < b) × (b < names)) (passing p k (j + 1)) r.0 r.1 (passing_each p (λ (b : ℕ). (j < b) × (b < names)) k (j + 1) (λ b l u q. (omega arith, within b (omega arith) q))) in
          subst (λ (y : Name). order (text j) y ≡ Ordering.lt) r.2 (increasing j r.0 h.0 h.1)

  -- they are the set of a list of names that each have a number
  pub set_texts : (l : List Name) → ((b : ℕ) → b < 512 → p b ≡ true → b < names) → ((b : ℕ) → b < names → p b ≡ (text b among l)) → names ≤ 512
      → ((x : Name) → Memᴰ x l → (n : ℕ) × (n < names) × (text n ≡ x)) → set_of l ≡ map text (passing p 512 0)
  set_texts l within agree few numbered =
      rising_same
      (set_of l)
      (map text (passing p 512 0))
      (set_rising l)
      (texts_rising 512 0 within)
      (λ x m.
      let i : Memᴰ x l = set_in x l m in
      let n = numbered x i in
      let q : p n.0 ≡ true = agree n.0 n.1 ∙ in_mem ◌is◌ is_test (subst (λ (y : Name). Memᴰ y l) (sym n.2) i) in
      subst (λ (y : Name). Memᴰ y (map text (passing p 512 0))) n.2 (mathlib.Core.List.Memᴰ.map text (passing_in p 512 0 n.0 zero-le (omega (arith, n.1)) q)))
      (λ x m.
      let r = mathlib.Core.List.Memᴰ.of_map text (passing p 512 0) m in
      let h = each_member (λ (b : ℕ). (b < 512) × (p b ≡ true)) (passing p 512 0) r.0 r.1 (passing_each p (λ (b : ℕ). (b < 512) × (p b ≡ true)) 512 0 (λ b l u q. (u, q))) in
      in_set x l (subst (λ (y : Name). Memᴰ y l) r.2 (mem_in ◌is◌ is_test (text r.0) l (sym (agree r.0 (within r.0 h.0 h.1)) ∙ h.1))))
