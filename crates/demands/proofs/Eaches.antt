-- What holds of each element of lists holds of each element of lists made of them, and of what is looked up in them.
-- Assumes nothing.
use Rattle.std.specs.Prelude.{if◌then◌else◌}
use mathlib.Core.Path.{refl, sym, subst}
use mathlib.Core.Bool.{Bool, true, false}
use mathlib.Core.List.{List, [], ◌∷◌, ◌++◌, map, Memᴰ}
use mathlib.Core.Option.{Option, none, some}
use Rattle.lustre.specs.Name.{Name, ◌is◌, ◌or◌, lookup}
use Rattle.demands.specs.Reading.{Each}

-- P holds of the answer, if there is one
abbrev pub IfSome : {X : Type 0} → (X → Type 0) → Option X → Type 0
IfSome P none = Unit {0}
IfSome P (some x) = P x

module _ {X : Type 0} (P : X → Type 0) where
  pub each_append : (xs ys : List X) → Each P xs → Each P ys → Each P (xs ++ ys)
  each_append [] ys h k = k
  each_append (x ∷ xs) ys h k = (h.0, each_append xs ys h.1 k)

  pub each_if : (b : Bool) (xs ys : List X) → Each P xs → Each P ys → Each P (if b then xs else ys)
  each_if true xs ys h k = h
  each_if false xs ys h k = k

  pub each_map : {W : Type 0} (f : W → X) (ws : List W) → Each (λ w. P (f w)) ws → Each P (map f ws)
  each_map f [] h = tt
  each_map f (w ∷ ws) h = (h.0, each_map f ws h.1)

  pub each_all : ((x : X) → P x) → (xs : List X) → Each P xs
  each_all p [] = tt
  each_all p (x ∷ xs) = (p x, each_all p xs)

  pub each_member : (xs : List X) (x : X) → Memᴰ x xs → Each P xs → P x
  each_member [] x m h = elim m [ ]
  each_member (y ∷ xs) x (Memᴰ.head e) h = subst P (sym e) h.0
  each_member (y ∷ xs) x (Memᴰ.tail m) h = each_member xs x m h.1

  -- a list whose elements are all elements of another
  pub each_within : (xs ys : List X) → ((x : X) → Memᴰ x ys → Memᴰ x xs) → Each P xs → Each P ys
  each_within xs [] s h = tt
  each_within xs (y ∷ ys) s h = (each_member xs y (s y (Memᴰ.head refl)) h, each_within xs ys (λ x m. s x (Memᴰ.tail m)) h)

  pub each_weaken : (Q : X → Type 0) → ((x : X) → P x → Q x) → (xs : List X) → Each P xs → Each Q xs
  each_weaken Q w [] h = tt
  each_weaken Q w (x ∷ xs) h = (w x h.0, each_weaken Q w xs h.1)

  some_or : (o p : Option X) → IfSome P o → IfSome P p → IfSome P (o or p)
  some_or none p h k = k
  some_or (some x) p h k = h

  pub each_lookup : (a : Name) (es : List (Name × X)) → Each (λ (e : Name × X). P e.1) es → IfSome P (lookup a es)
  unfolding lookup
  each_lookup a [] h = tt
  each_lookup a (e ∷ es) h = some_or (lookup a es) _ (each_lookup a es h.1) (own (a is e.0))
    where
      own : (b : Bool) → IfSome P (if b then some e.1 else none)
      own true = h.0
      own false = tt
