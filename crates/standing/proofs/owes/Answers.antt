-- `standing::owes` meets its contract: where an arm takes several kinds, one test tells it of each of them.
-- Assumes nothing.
use Prim.Native.Nat.{ℕ, ◌≤◌, ◌<◌}
use mathlib.Core.Path.{◌≡◌, refl}
use mathlib.Core.Bool.{Bool, true, ◌||◌}
use native.Mathlib.Omega.{arith}
use lib.Dec.{eqb, ltb}
use lib.ListN.{get_or}
use borrow.Author.Tests.{eqb-true, ne_eqb, le-ltb}
use Rattle.standing.specs.Owed.{owed, by_word, owes}
use Rattle.standing.proofs.Below.{up_to, below}
use Rattle.standing.proofs.owes.Goals as goal

-- the kinds from a to b, but for x and y, all have the entry n
abbrev all : (a b x y n : ℕ) → ℕ → Bool
all a b x y n k = ltb k a || (eqb k x || (eqb k y || eqb (get_or owed k 0) n))

entry : (a b x y n k : ℕ) → up_to (all a b x y n) b ≡ true → a ≤ k → k < b → (k ≡ x → ⊥) → (k ≡ y → ⊥) → get_or owed k 0 ≡ n
entry a b x y n k t l h f g = eqb-true _ _ (rw (le-ltb k a l, ne_eqb k x f, ne_eqb k y g) at (below (all a b x y n) b t k h))

same_for : (a b x y n k w : ℕ) → up_to (all a b x y n) b ≡ true → a ≤ k → k < b → (k ≡ x → ⊥) → (k ≡ y → ⊥) → (n ≡ by_word → ⊥) → n ≡ owes k w
unfolding owes
same_for a b x y n k w t l h f g u = let e = entry a b x y n k t l h f g in rw (e, ne_eqb n by_word u)

pub returns-in-47-to-66 : goal.returns-in-47-to-66
unfolding owed
returns-in-47-to-66 c = same_for 47 67 0 0 2 _ _ refl (omega arith) (omega arith) (λ e. omega arith) (λ e. omega arith) (λ e. omega (arith, e))

pub returns-in_default : goal.returns-in_default
unfolding owed
returns-in_default c = same_for 0 45 3 32 0 _ _ refl (omega arith) (omega arith) (λ e. grind (arith, e)) (λ e. grind (arith, e)) (λ e. omega (arith, e))

pub returns-in-77-2 : goal.returns-in-77-2
unfolding owed
returns-in-77-2 c = same_for 77 79 0 0 1 _ _ refl (grind arith) (omega arith) (λ e. grind (arith, e)) (λ e. grind (arith, e)) (λ e. omega (arith, e))

pub returns-in-32-2 : goal.returns-in-32-2
unfolding owed
returns-in-32-2 c = same_for 45 47 0 0 1 _ _ refl (omega arith) (omega arith) (λ e. omega arith) (λ e. omega arith) (λ e. omega (arith, e))

pub returns-in-68-2 : goal.returns-in-68-2
unfolding owed
returns-in-68-2 c = same_for 67 72 67 69 1 _ _ refl (omega arith) (omega arith) (λ e. grind (arith, e)) (λ e. grind (arith, e)) (λ e. omega (arith, e))

pub returns-in-3-2 : goal.returns-in-3-2
unfolding owed owes
returns-in-3-2 c = let e = entry 73 75 0 0 by_word c.args.kind refl (grind arith) (omega arith) (λ e. omega arith) (λ e. omega arith) in rw e
