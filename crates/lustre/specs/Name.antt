-- Names are texts, lists of bytes, compared byte by byte as the Rust compares strings. Tables are lists of pairs in order of declaration.
-- Assumes nothing: these are definitions.
use Prim.Native.Nat.{ℕ, compare, Ordering}
use Rattle.std.specs.Prelude.{Bool, true, false, List, [], ◌∷◌, if◌then◌else◌}
use Rattle.std.proofs.Math.Option.{Option, none, some}
use Rattle.std.proofs.Math.Dec.{compare_is_eq}

abbrev pub Name : Type 0
Name = List ℕ

-- byte order, Rust's `Ord` of `str`: the first byte that differs decides, and a proper beginning comes first
unfoldable mutual
  pub order : Name → Name → Ordering
  order [] [] = Ordering.eq
  order [] (y ∷ ys) = Ordering.lt
  order (x ∷ xs) [] = Ordering.gt
  order (x ∷ xs) (y ∷ ys) = elim (compare x y) [ Ordering.lt ↦ Ordering.lt | Ordering.eq ↦ order xs ys | Ordering.gt ↦ Ordering.gt ]

-- two names are the same text
infix 40 ◌is◌
unfoldable pub ◌is◌ : Name → Name → Bool
a is b = compare_is_eq (order a b)

-- a is one of a list, by a test of equality
unfoldable pub mem : {A : Type 0} → (A → A → Bool) → A → List A → Bool
mem eq a [] = false
mem eq a (b ∷ bs) = elim (eq a b) [ true ↦ true | false ↦ mem eq a bs ]

infix 40 ◌among◌
abbrev pub ◌among◌ : Name → List Name → Bool
a among bs = mem ◌is◌ a bs

-- a set of names is a list in byte order without repetition (`BTreeSet`)
unfoldable pub into_set : Name → List Name → List Name
into_set a [] = a ∷ []
into_set a (b ∷ bs) = elim (order a b) [ Ordering.lt ↦ a ∷ b ∷ bs | Ordering.eq ↦ b ∷ bs | Ordering.gt ↦ b ∷ into_set a bs ]

unfoldable pub set_of : List Name → List Name
set_of [] = []
set_of (a ∷ as') = into_set a (set_of as')

infixr 30 ◌or◌
abbrev pub ◌or◌ : {A : Type 0} → Option A → Option A → Option A
some v or o = some v
none or o = o

-- of equal names the later entry is in force (`HashMap::insert`)
unfoldable pub lookup : {A : Type 0} → Name → List (Name × A) → Option A
lookup a [] = none
lookup a (e ∷ es) = lookup a es or (if a is e.0 then some e.1 else none)

-- of equal names the first entry is in force (`iter().find`)
unfoldable pub find : {A : Type 0} → Name → List (Name × A) → Option A
find a [] = none
find a (e ∷ es) = if a is e.0 then some e.1 else find a es
