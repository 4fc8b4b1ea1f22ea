-- The aliases as the code has them: in the first 512 entries of the scope, by name number. An entry is 0 for no alias, else 1 and the
-- number of the record that declares it, which is the place of the type behind that record.
-- Assumes nothing: these are definitions.
use Rattle.std.specs.Prelude as code
use Rattle.std.specs.Prelude.{ℕ, ◌+◌, ◌≤◌, max, ◌≡◌, Bool, true, false, List, [], eqb, ltb, length, get_or, if◌then◌else◌, Some, None, IfSome}
use Rattle.std.proofs.Math.Option.{Option, none, some}
use Rattle.lustre.specs.Types.{Ty, basic, Array, Named, Tuple}
use Rattle.lustre.specs.Resolve.{Aliases, try_resolve, resolve, compatible}
use Rattle.types.specs.Value.{Naming, Injective, bottom, asTy, maybe}
use Rattle.types.specs.Place.{IsTypeAt, ty_at}
use Rattle.types.specs.declared.Typ.{Typ}
use Rattle.types.specs.declared.aliases.Followed.{Followed}

-- the entry of a name number; no number from 512 on has an alias
unfoldable pub slot : List ℕ → ℕ → ℕ
slot sc n = if ltb n 512 then get_or sc n 0 else 0

-- the type that an entry leads to
unfoldable pub target : Naming → List ℕ → List ℕ → ℕ → Option Ty
target ρ ks ws a = if eqb a 0 then none else some (ty_at ρ ks ws a)

-- the scope says by number what the aliases say by text
abbrev pub Table : Naming → Aliases → List ℕ → List ℕ → List ℕ → Type 0
Table ρ al ks ws sc = (n : ℕ) → al (ρ n) ≡ target ρ ks ws (slot sc n)

-- the scope has room for the aliases, and each entry leads to a type
pub record Targets (ks ws sc : List ℕ) : Type 0 where
  pub room : 512 ≤ length sc
  pub stand : (n : ℕ) → (slot sc n ≡ 0 → ⊥) → IsTypeAt ks ws (slot sc n)

-- what `try_resolve` answers
pub record Tries (ks ws sc : List ℕ) (t : Typ) (r : code.Option Typ) : Type 0 where
  pub few : IfSome r (λ u. u.levels ≤ 64)
  pub is : (ρ : Naming) (al : Aliases) → Table ρ al ks ws sc → maybe ρ r ≡ try_resolve al 65 [] (asTy ρ t)

-- what `resolve` answers
pub record Resolves (ks ws sc : List ℕ) (t r : Typ) : Type 0 where
  pub few : r.levels ≤ max 64 t.levels
  pub is : (ρ : Naming) (al : Aliases) → Table ρ al ks ws sc → asTy ρ r ≡ resolve al (asTy ρ t)

-- the number of arrays around what is no array, and that
unfoldable pub arrays : Ty → ℕ
arrays (basic k) = 0
arrays (Array n t) = arrays t + 1
arrays (Named x) = 0
arrays (Tuple n) = 0

unfoldable pub inside : Ty → Ty
inside (basic k) = basic k
inside (Array n t) = inside t
inside (Named x) = Named x
inside (Tuple n) = Tuple n

-- both of a type that there may be
unfoldable pub shape : Option Ty → Option (ℕ × Ty)
shape none = none
shape (some t) = some (arrays t, inside t)

-- so many arrays around a base, where there is one
abbrev pub shaped : Naming → code.Option Followed → Option (ℕ × Ty)
shaped ρ None = none
shaped ρ (Some f) = some (f.levels, bottom ρ f.base f.name)

-- what `follow` answers: what name number n resolves to, but for its lengths
pub record Follows (ks ws sc : List ℕ) (n : ℕ) (r : code.Option Followed) : Type 0 where
  pub is : (ρ : Naming) (al : Aliases) → Table ρ al ks ws sc → shape (try_resolve al 65 [] (Named (ρ n))) ≡ shaped ρ r

-- the kind of a basic type, 34 for a tuple, none for an array and a name
unfoldable pub kind_of : Ty → code.Option ℕ
kind_of (basic k) = Some k
kind_of (Array n t) = None
kind_of (Named x) = None
kind_of (Tuple n) = Some 34

-- what `basic_kind` answers
pub record KindOf (ks ws sc : List ℕ) (t : Typ) (r : code.Option ℕ) : Type 0 where
  pub is : (ρ : Naming) (al : Aliases) → Table ρ al ks ws sc → r ≡ kind_of (resolve al (asTy ρ t))

-- what `compatible` answers
abbrev pub Compares : (ks ws sc : List ℕ) (a b : Typ) (r : Bool) → Type 0
Compares ks ws sc a b r = (ρ : Naming) → Injective ρ → (al : Aliases) → Table ρ al ks ws sc → r ≡ compatible al (asTy ρ a) (asTy ρ b)

-- whether there is a type
abbrev pub is_some : Option Ty → Bool
is_some none = false
is_some (some t) = true

-- what `resolves` answers: E0008 where it is false
abbrev pub NameResolves : (ks ws sc : List ℕ) (n : ℕ) (r : Bool) → Type 0
NameResolves ks ws sc n r = (ρ : Naming) (al : Aliases) → Table ρ al ks ws sc → r ≡ is_some (try_resolve al 65 [] (Named (ρ n)))
