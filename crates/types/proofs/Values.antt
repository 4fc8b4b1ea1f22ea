-- Laws of types by value. Assumes nothing.
use Rattle.std.specs.Prelude.{if◌then◌else◌}
use Prim.Native.Nat.{ℕ, zero, suc, ◌+◌, ◌≤◌, ◌<◌, ◌-◌}
use mathlib.Core.Path.{◌≡◌, refl, ap, ap₂, sym, ◌∙◌}
use mathlib.Core.Bool.{Bool, true, false, ◌&&◌}
use mathlib.Core.List.{List}
use mathlib.Core.Option.{none, some}
use native.Mathlib.Omega.{arith}
use native.Mathlib.Numerals.{add-one}
use native.Mathlib.Nat.{pos_of_ne-zero}
use lib.Dec.{eqb, leb}
use lib.ListN.{length, get_or, set, take}
use lib.Seq.{get_or-set_same, get_or-set_other}
use Rattle.std.proofs.lemmas.List.{get_or-take, take_more_same}
use borrow.Author.Tests.{eq-eqb, ne_eqb, eqb-true, eqb-false}
use Rattle.lustre.specs.Name.{◌is◌}
use Rattle.lustre.specs.Types.{Ty, basic, Array, Named, Tuple, same_type, within, members, levels}
use Rattle.types.specs.Value.{Naming, Injective, bottom, up, asTy}
use Rattle.types.specs.declared.Typ.{Typ}
use Rattle.types.proofs.Truths.{never, not_so, and_both, outside}
use Rattle.demands.proofs.Orders.{is_test}

-- ---- one length more, one length less

-- a store past the lengths in use changes nothing
up_set : (l : List ℕ) (k i n : ℕ) (t : Ty) → k ≤ i → up (set l i n) k t ≡ up l k t
unfolding up
up_set l zero i n t h = refl
up_set l (suc k) i n t h =
    ap₂ Array (get_or-set_other l i k n 0 (omega arith)) (up_set l k i n t (omega arith))

pub up_push : (l : List ℕ) (k n : ℕ) (t : Ty) → k < length l → up (set l k n) (k + 1) t ≡ Array n (up l k t)
unfolding up
up_push l k n t h = rw (add-one k) (ap₂ Array (get_or-set_same l k n 0 h) (up_set l k k n t (omega arith)))

pub up_pop : (l : List ℕ) (k : ℕ) (t : Ty) → 0 < k → up l k t ≡ Array (get_or l (k - 1) 0) (up l (k - 1) t)
unfolding up
up_pop l zero t h = absurd (omega arith)
up_pop l (suc k) t h = ap (λ (j : ℕ). Array (get_or l j 0) (up l j t)) (omega arith)

-- lists that agree on their first k elements agree at each of them
agree : (l l' : List ℕ) (k : ℕ) → take k l ≡ take k l' → (i : ℕ) → i < k → get_or l i 0 ≡ get_or l' i 0
agree l l' k e i h = sym (get_or-take k l i 0 h) ∙ ap (λ (x : List ℕ). get_or x i 0) e ∙ get_or-take k l' i 0 h

-- one more of t's lengths around u
pub up_around : (l t u : List ℕ) (m i : ℕ) (s : Ty) → m + i < length l → up l (m + i) s ≡ up t i (up u m s) →
    up (set l (m + i) (get_or t i 0)) (m + (i + 1)) s ≡ up t (i + 1) (up u m s)
unfolding up
up_around l t u m i s h e =
    let q : m + (i + 1) ≡ m + i + 1 = omega arith in
    rw q (up_push l (m + i) (get_or t i 0) s h ∙ rw (add-one i) (ap (Array (get_or t i 0)) e))

-- ---- the views of a type by value

pub bottom_basic : (ρ : Naming) (k n : ℕ) → (k ≡ 33 → ⊥) → (k ≡ 34 → ⊥) → bottom ρ k n ≡ basic k
unfolding bottom
bottom_basic ρ k n h g = rw (ne_eqb k 33 h, ne_eqb k 34 g)

pub bottom_name : (ρ : Naming) (k n : ℕ) → k ≡ 33 → bottom ρ k n ≡ Named (ρ n)
unfolding bottom
bottom_name ρ k n h = rw (eq-eqb k 33 h)

-- what holds of a name, a tuple and a basic type holds of a bottom
pub bottom_cases : (P : Ty → Type 0) (ρ : Naming) (k n : ℕ) → (k ≡ 33 → P (Named (ρ n))) → (k ≡ 34 → P (Tuple n)) → ((k ≡ 33 → ⊥) → (k ≡ 34 → ⊥) → P (basic k)) → P (bottom ρ k n)
unfolding bottom
bottom_cases P ρ k n x y z = go (eqb k 33) refl (eqb k 34) refl
  where
    go : (p : Bool) → eqb k 33 ≡ p → (q : Bool) → eqb k 34 ≡ q → P (if◌then◌else◌ p (Named (ρ n)) (if◌then◌else◌ q (Tuple n) (basic k)))
    go true e q f = x (eqb-true k 33 e)
    go false e true f = y (eqb-true k 34 f)
    go false e false f = z (eqb-false k 33 e) (eqb-false k 34 f)

module _ (ρ : Naming) (t : Typ) where
  pub view_flat : t.levels ≡ 0 → asTy ρ t ≡ bottom ρ t.base t.name
  unfolding asTy up
  view_flat e = rw e

  pub view_array : (t.levels ≡ 0 → ⊥) → asTy ρ t ≡ Array (get_or t.lengths (t.levels - 1) 0) (up t.lengths (t.levels - 1) (bottom ρ t.base t.name))
  unfolding asTy
  view_array h = up_pop t.lengths t.levels _ (pos_of_ne-zero h)

-- the levels of the tree are one more than the lengths
levels_up : (ρ : Naming) (l : List ℕ) (k a n : ℕ) → levels (up l k (bottom ρ a n)) ≡ k + 1
unfolding levels up
levels_up ρ l zero a n = bottom_cases (λ t. levels t ≡ 1) ρ a n (λ e. refl) (λ e. refl) (λ h g. refl)
levels_up ρ l (suc k) a n = omega (arith, levels_up ρ l k a n)

pub levels_as : (ρ : Naming) (t : Typ) → levels (asTy ρ t) ≡ t.levels + 1
unfolding asTy
levels_as ρ t = levels_up ρ t.lengths t.levels t.base t.name

-- ---- the classes of basic types

module _ (low high : ℕ) (ρ : Naming) (t : Typ) where
  pub class_array : (t.levels ≡ 0 → ⊥) → within low high (asTy ρ t) ≡ false
  unfolding within
  class_array h = rw (view_array ρ t h)

  pub class_flat : t.levels ≡ 0 → high < 33 → within low high (asTy ρ t) ≡ (leb low t.base && leb t.base high)
  unfolding within
  class_flat z h =
      rw (view_flat ρ t z)
      (bottom_cases (λ s. within low high s ≡ (leb low t.base && leb t.base high)) ρ t.base t.name (λ e. rw e (sym (outside low 33 high h))) (λ e. rw e (sym (outside low 34 high (omega arith)))) (λ x y. refl))

-- ---- tuples

module _ (ρ : Naming) (t : Typ) where
  pub members_array : (t.levels ≡ 0 → ⊥) → members (asTy ρ t) ≡ none
  unfolding members
  members_array h = rw (view_array ρ t h)

  pub members_flat : t.levels ≡ 0 → members (asTy ρ t) ≡ (if eqb t.base 34 then some t.name else none)
  unfolding members
  members_flat z = rw (view_flat ρ t z) (bottom_cases (λ s. members s ≡ (if eqb t.base 34 then some t.name else none)) ρ t.base t.name (λ e. rw e) (λ e. rw e) (λ h g. rw (ne_eqb t.base 34 g)))

-- ---- equality

and_second : (a : Bool) {b : Bool} → b ≡ false → (a && b) ≡ false
and_second true e = e
and_second false e = refl

pub type_self : (t : Ty) → same_type t t ≡ true
unfolding same_type
type_self (basic b) = eq-eqb b b refl
type_self (Array n t) = rw (eq-eqb n n refl) (type_self t)
type_self (Named x) = is_test.self x
type_self (Tuple n) = eq-eqb n n refl

pub type_same : (s t : Ty) → same_type s t ≡ true → s ≡ t
unfolding same_type
type_same (basic a) (basic b) e = ap basic (eqb-true a b e)
type_same (basic a) (Array m t) e = absurd (never e)
type_same (basic a) (Named y) e = absurd (never e)
type_same (basic a) (Tuple j) e = absurd (never e)
type_same (Array n s) (basic b) e = absurd (never e)
type_same (Array n s) (Array m t) e =
    let q = and_both (eqb n m) (same_type s t) e in
    ap₂ Array (eqb-true n m q.0) (type_same s t q.1)
type_same (Array n s) (Named y) e = absurd (never e)
type_same (Array n s) (Tuple j) e = absurd (never e)
type_same (Named x) (basic b) e = absurd (never e)
type_same (Named x) (Array m t) e = absurd (never e)
type_same (Named x) (Named y) e = ap Named (is_test.same x y e)
type_same (Named x) (Tuple j) e = absurd (never e)
type_same (Tuple i) (basic b) e = absurd (never e)
type_same (Tuple i) (Array m t) e = absurd (never e)
type_same (Tuple i) (Named y) e = absurd (never e)
type_same (Tuple i) (Tuple j) e = ap Tuple (eqb-true i j e)

-- the bottoms
module _ (ρ : Naming) (a b m n : ℕ) where
  pub bases_differ : (a ≡ b → ⊥) → same_type (bottom ρ a m) (bottom ρ b n) ≡ false
  unfolding same_type
  bases_differ h =
      bottom_cases (λ s. same_type s (bottom ρ b n) ≡ false) ρ a m
      (λ e. bottom_cases (λ t. same_type (Named (ρ m)) t ≡ false) ρ b n (λ f. absurd (h (e ∙ sym f))) (λ f. refl) (λ f g. refl))
      (λ e. bottom_cases (λ t. same_type (Tuple m) t ≡ false) ρ b n (λ f. refl) (λ f. absurd (h (e ∙ sym f))) (λ f g. refl))
      (λ e d. bottom_cases (λ t. same_type (basic a) t ≡ false) ρ b n (λ f. refl) (λ f. refl) (λ f g. ne_eqb a b h))

  pub bases_same : a ≡ b → (a ≡ 33 → ⊥) → (a ≡ 34 → ⊥) → same_type (bottom ρ a m) (bottom ρ b n) ≡ true
  unfolding same_type bottom
  bases_same e h g = rw (← e, ne_eqb a 33 h, ne_eqb a 34 g) (eq-eqb a a refl)

  pub tuples_same : a ≡ 34 → a ≡ b → same_type (bottom ρ a m) (bottom ρ b n) ≡ eqb m n
  unfolding same_type bottom
  tuples_same e f = rw (← f, e)

  pub names_same : Injective ρ → a ≡ 33 → a ≡ b → same_type (bottom ρ a m) (bottom ρ b n) ≡ eqb m n
  unfolding same_type bottom
  names_same inj e f = rw (← f, e) (go (eqb m n) refl)
    where
      go : (p : Bool) → eqb m n ≡ p → (ρ m is ρ n) ≡ p
      go true q = rw (eqb-true m n q) (is_test.self (ρ n))
      go false q = not_so (ρ m is ρ n) (λ s. eqb-false m n q (inj m n (is_test.same (ρ m) (ρ n) s)))

pub ruleset bases = (bases_differ, bases_same, names_same, tuples_same)

-- an array is no bottom
module _ (ρ : Naming) (a m l : ℕ) (t : Ty) where
  bottom_array : same_type (bottom ρ a m) (Array l t) ≡ false
  unfolding same_type
  bottom_array = bottom_cases (λ s. same_type s (Array l t) ≡ false) ρ a m (λ e. refl) (λ e. refl) (λ h g. refl)

  array_bottom : same_type (Array l t) (bottom ρ a m) ≡ false
  unfolding same_type
  array_bottom = bottom_cases (λ s. same_type (Array l t) s ≡ false) ρ a m (λ e. refl) (λ e. refl) (λ h g. refl)

-- the lengths
module _ (ρ : Naming) (l l' : List ℕ) (a b m n : ℕ) where
  levels_differ : (k k' : ℕ) → (k ≡ k' → ⊥) → same_type (up l k (bottom ρ a m)) (up l' k' (bottom ρ b n)) ≡ false
  unfolding same_type up
  levels_differ zero zero h = absurd (h refl)
  levels_differ zero (suc k') h = bottom_array ρ a m (get_or l' k' 0) (up l' k' (bottom ρ b n))
  levels_differ (suc k) zero h = array_bottom ρ b n (get_or l k 0) (up l k (bottom ρ a m))
  levels_differ (suc k) (suc k') h = and_second (eqb (get_or l k 0) (get_or l' k' 0)) (levels_differ k k' (λ e. h (ap suc e)))

module _ (l l' : List ℕ) (s t : Ty) where
  lengths_told : (k : ℕ) → k ≤ length l → k ≤ length l' → up l k s ≡ up l' k t → take k l ≡ take k l'
  unfolding up
  lengths_told zero h h' e = refl
  lengths_told (suc k) h h' e = rw add-one at (take_more_same l l' k 0 (omega arith) (omega arith) (lengths_told k (omega arith) (omega arith) cc) cc)

  lengths_same : (k : ℕ) → ((i : ℕ) → i < k → get_or l i 0 ≡ get_or l' i 0) → same_type (up l k s) (up l' k t) ≡ same_type s t
  unfolding same_type up
  lengths_same zero h = refl
  lengths_same (suc k) h =
      rw (eq-eqb (get_or l k 0) (get_or l' k 0) (h k (omega arith))) (lengths_same k (λ i p. h i (omega arith)))

-- the same of types by value
module _ (ρ : Naming) (a b : Typ) where
  pub types_levels : (a.levels ≡ b.levels → ⊥) → same_type (asTy ρ a) (asTy ρ b) ≡ false
  unfolding asTy
  types_levels h = levels_differ ρ a.lengths b.lengths a.base b.base a.name b.name a.levels b.levels h

  module _ (e : a.levels ≡ b.levels) where
    pub types_lengths : (take a.levels a.lengths ≡ take b.levels b.lengths → ⊥) → a.levels ≤ length a.lengths → a.levels ≤ length b.lengths → same_type (asTy ρ a) (asTy ρ b) ≡ false
    unfolding asTy
    types_lengths d h k = rw (← e) (not_so _ (λ s. (rw (← e) at d) (lengths_told a.lengths b.lengths _ _ a.levels h k (type_same _ _ s))))

    pub types_same : take a.levels a.lengths ≡ take b.levels b.lengths → same_type (asTy ρ a) (asTy ρ b) ≡ same_type (bottom ρ a.base a.name) (bottom ρ b.base b.name)
    unfolding asTy
    types_same t = rw (← e) (lengths_same a.lengths b.lengths _ _ a.levels (agree a.lengths b.lengths a.levels (rw (← e) at t)))
