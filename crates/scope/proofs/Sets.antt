-- Sets of names step by step.
-- Assumes nothing.
use Prim.Native.Nat.{ℕ, ◌<◌}
use mathlib.Core.Path.{◌≡◌, refl, sym, ◌∙◌, ap}
use mathlib.Core.Logic.{⊎_elim}
use mathlib.Core.Bool.{Bool, true, false, ◌||◌, or-true, or-false}
use mathlib.Core.List.{List, [], ◌∷◌, ◌++◌}
use borrow.Author.Tests.{eq-eqb, ne_eqb}
use Rattle.lustre.specs.Name.{Name, ◌is◌, ◌among◌, mem}
use Rattle.demands.proofs.Sets.{split, mustnt, mem_eq, mem_ne, mem_self}
use Rattle.demands.proofs.Orders.{is_test}
use Rattle.loops.specs.Rows.{has, Connected}
use Rattle.loops.proofs.Rows.{same_or}
use Rattle.types.specs.Value.{Naming, Injective}
use Rattle.scope.specs.Sets.{Holds}

-- no name
pub holds_none : (text : Naming) {set : List ℕ} → ((n : ℕ) → has set 0 n ≡ false) → Holds text [] set
unfolding mem
holds_none text h = record { each = λ n b. h n }

-- one name more
pub holds_add : {text : Naming} {xs : List Name} {set set' : List ℕ} {w : ℕ} → Injective text → w < 512 → Connected set 0 w set' → Holds text xs set → Holds text (text w ∷ xs) set'
holds_add {text} {xs} {set} {set'} {w} inj b c h = record {
  each = λ n b.
      c.edges 0 n b
      ∙ ⊎_elim
      (λ (e : n ≡ w). rw (eq-eqb n w e) (or-true (has set 0 n)) ∙ sym (ap (λ (m : ℕ). text m among (text w ∷ xs)) e ∙ mem_self ◌is◌ is_test (text w) xs))
      (λ (e : n ≡ w → ⊥). rw (ne_eqb n w e) (or-false (has set 0 n)) ∙ h.each n b ∙ sym (mem_ne ◌is◌ (text n) (text w) xs (mustnt (text n is text w) (λ q. e (inj n w (is_test.same (text n) (text w) q))))))
      (same_or n w);
}

-- another list with the same names
pub holds_same : {text : Naming} {xs ys : List Name} {set : List ℕ} → ((x : Name) → (x among xs) ≡ (x among ys)) → Holds text xs set → Holds text ys set
holds_same {text} same h = record { each = λ n b. h.each n b ∙ same (text n) }

-- a name of two lists
pub among_append : (x : Name) (xs ys : List Name) → (x among (xs ++ ys)) ≡ (x among xs || x among ys)
unfolding mem
among_append x [] ys = refl
among_append x (z ∷ xs) ys =
    ⊎_elim
    (λ (e : (x is z) ≡ true). mem_eq ◌is◌ x z (xs ++ ys) e ∙ sym (ap (λ (b : Bool). b || x among ys) (mem_eq ◌is◌ x z xs e)))
    (λ (e : (x is z) ≡ false). mem_ne ◌is◌ x z (xs ++ ys) e ∙ among_append x xs ys ∙ sym (ap (λ (b : Bool). b || x among ys) (mem_ne ◌is◌ x z xs e)))
    (split (x is z))
