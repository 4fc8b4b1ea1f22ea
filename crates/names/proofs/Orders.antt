-- The library's `<` and `==` on bytes, as the order of names and its equality.
-- Assumes nothing.
use Rattle.std.proofs.Common.{◌≡◌, ℕ, ◌<◌, Bool, true, false, eqb, List, [], ◌∷◌, Some, Ordering, Less, Equal, Greater, refl, sym, ◌∙◌}
use mathlib.Core.Bool.{◌||◌}
use Prim.Native.Nat.{Ordering as Order}
use Rattle.std.proofs.Math.Option.{some}
use Rattle.std.specs.List.{list_any}
use Rattle.std.specs.Ordering.{is_lt, is_some_and, nat_cmp, MatchOrdering}
use Rattle.std.specs.Cmp.Lexicographic.{pointwise, slice_partial_cmp}
use Rattle.std.proofs.lemmas.Cmp.{same_from_slice_cmp_tested, ranked}
use Rattle.std.proofs.lemmas.Slice.Eq.{bytes_eq-Decides}
use Rattle.std.proofs.lemmas.Bool.Decides.{same_from_decides}
use Rattle.demands.proofs.Orders.{compare_is, is_test}
use Rattle.lustre.specs.Name.{order, ◌is◌, mem, ◌among◌}
use Rattle.lustre.specs.Names.{above, barred}

firsts : (x y : ℕ) (xs ys : List ℕ) (o : Ordering) → MatchOrdering o (x < y) (x ≡ y) (y < x) → MatchOrdering o (above (some (x ∷ xs)) (y ∷ ys) ≡ true) (above (some (x ∷ xs)) (y ∷ ys) ≡ above (some xs) ys) (above (some (x ∷ xs)) (y ∷ ys) ≡ false)
unfolding above order
firsts x y xs ys Less h = rw (compare_is x y Order.lt h, above, order)
firsts x y xs ys Equal h = rw (compare_is x y Order.eq h, above, order)
firsts x y xs ys Greater h = rw (compare_is x y Order.gt h, above, order)

-- what `<` says
pub above_by_lt : (a b : List ℕ) (r : Bool) → r ≡ is_some_and is_lt (slice_partial_cmp (λ x y. Some (nat_cmp x y)) a b) → r ≡ above (some a) b
unfolding above order
above_by_lt = same_from_slice_cmp_tested nat_cmp is_lt (λ a b. above (some a) b) refl (λ _ _. refl) (λ _ _. refl) (λ x y xs ys o e. firsts x y xs ys o (ranked x y o e))

is_by_eq : (a b : List ℕ) → pointwise eqb b a ≡ a is b
is_by_eq a b = same_from_decides _ _ (bytes_eq-Decides b a) (λ e. sym (is_test.same a b e), λ e. rw e (is_test.self a))

among_by_any : (a : List ℕ) (bs : List (List ℕ)) → list_any (λ b. pointwise eqb b a) bs ≡ a among bs
unfolding mem
among_by_any a [] = refl
among_by_any a (b ∷ bs) = rw (is_by_eq a b, among_by_any a bs) (go (a is b))
  where
    go : (t : Bool) → (t || (a among bs)) ≡ (elim t [ true ↦ true | false ↦ a among bs ])
    go true = refl
    go false = refl

-- what `contains` says of the barred names
pub barred_by_contains : (a : List ℕ) (r : Bool) → r ≡ list_any (λ b. pointwise eqb b a) barred → r ≡ a among barred
barred_by_contains a r e = e ∙ among_by_any a barred
