-- Types that are basic once resolved, by their kinds. Assumes nothing.
use Prim.Native.Nat.{ℕ, ◌<◌}
use native.Mathlib.Omega.{arith}
use mathlib.Core.Path.{◌≡◌, refl, sym, ap, ◌∙◌}
use mathlib.Core.Bool.{Bool, true, false, ◌&&◌, and-true, and-false, and_self}
use lib.Dec.{eqb, leb}
use borrow.Author.Tests.{eq-eqb, ne_eqb, eqb-true, leb-true}
use Rattle.std.specs.Prelude as code
use Rattle.std.specs.Prelude.{Some, None}
use Rattle.std.specs.Option.{option_eq}
use Rattle.lustre.specs.Types.{Ty, basic, Array, Named, Tuple, within, is_bool, same_type}
use Rattle.types.specs.Scope.{kind_of}
use Rattle.types.proofs.Truths.{never, outside, and_both}
use Rattle.rules.specs.Classes.{between, one_of}

-- a class of kinds below a tuple's holds the types whose kind is in it
pub within_kind : (low high : ℕ) → high < 34 → (t : Ty) → within low high t ≡ between low high (kind_of t)
unfolding within kind_of
within_kind low high g (basic k) = refl
within_kind low high g (Array n t) = refl
within_kind low high g (Named x) = refl
within_kind low high g (Tuple n) = sym (outside low 34 high g)

-- the code's `==` of two kinds
pub same_kinds : (j k : code.Option ℕ) → option_eq eqb j k ≡ true → j ≡ k
same_kinds None None e = refl
same_kinds None (Some k) e = absurd (never e)
same_kinds (Some j) None e = absurd (never e)
same_kinds (Some j) (Some k) e = ap Some (eqb-true j k e)

pub other_kinds : (j k : code.Option ℕ) → option_eq eqb j k ≡ false → j ≡ k → ⊥
other_kinds None k e h = never (sym (rw (← h) at e))
other_kinds (Some j) k e h = never (sym (rw (← h) at e) ∙ eq-eqb j j refl)

-- two types of a class are one type where they are of one kind
module _ (low high : ℕ) (g : high < 34) where
  pub one_kind : (s t : Ty) → kind_of s ≡ kind_of t → one_of low high s t ≡ between low high (kind_of s)
  unfolding within kind_of same_type
  one_kind (basic a) (basic b) e = let i : a ≡ b = cc in rw (← i, eq-eqb a a refl) (and-true (leb low a && leb a high && (leb low a && leb a high)) ∙ and_self (leb low a && leb a high))
  one_kind (basic a) (Array n t) e = cc
  one_kind (basic a) (Named x) e = cc
  one_kind (basic a) (Tuple n) e = let i : a ≡ 34 = cc in rw i (and-false (leb low 34 && leb 34 high && false) ∙ sym (outside low 34 high g))
  one_kind (Array n s) t e = refl
  one_kind (Named x) t e = refl
  one_kind (Tuple n) t e = sym (outside low 34 high g)

  pub other_kind : (s t : Ty) → (kind_of s ≡ kind_of t → ⊥) → one_of low high s t ≡ false
  unfolding within kind_of same_type
  other_kind (basic a) (basic b) e = rw (ne_eqb a b (λ i. e (cc))) (and-false (leb low a && leb a high && (leb low b && leb b high)))
  other_kind (basic a) (Array n t) e = and-false (leb low a && leb a high && false)
  other_kind (basic a) (Named x) e = and-false (leb low a && leb a high && false)
  other_kind (basic a) (Tuple n) e = and-false (leb low a && leb a high && false)
  other_kind (Array n s) t e = refl
  other_kind (Named x) t e = refl
  other_kind (Tuple n) t e = refl

-- two Bools are one type
pub both_bool : (s t : Ty) → one_of 20 20 s t ≡ (is_bool s && is_bool t)
unfolding within same_type
both_bool (basic a) (basic b) = go (leb 20 a && leb a 20) refl (leb 20 b && leb b 20) refl
  where
    is_20 : (k : ℕ) → (leb 20 k && leb k 20) ≡ true → k ≡ 20
    is_20 k e = omega (arith, leb-true 20 k (and_both _ _ e).0, leb-true k 20 (and_both _ _ e).1)

    go : (p : Bool) → (leb 20 a && leb a 20) ≡ p → (q : Bool) → (leb 20 b && leb b 20) ≡ q → (p && q && same_type (basic a) (basic b)) ≡ (p && q)
    go true e true f = eq-eqb a b (is_20 a e ∙ sym (is_20 b f))
    go true e false f = refl
    go false e q f = refl
both_bool (basic a) (Array n t) = and-false (leb 20 a && leb a 20 && false) ∙ sym (and-false (leb 20 a && leb a 20))
both_bool (basic a) (Named x) = and-false (leb 20 a && leb a 20 && false) ∙ sym (and-false (leb 20 a && leb a 20))
both_bool (basic a) (Tuple n) = and-false (leb 20 a && leb a 20 && false) ∙ sym (and-false (leb 20 a && leb a 20))
both_bool (Array n s) t = refl
both_bool (Named x) t = refl
both_bool (Tuple n) t = refl
