-- Literals as the code has them: a number as a word, a type by its kind.
-- Assumes nothing: these are definitions.
use Rattle.std.specs.Prelude as code
use Rattle.std.specs.Prelude.{ℕ, ◌≡◌, Bool, true, false, List, ℤ, neg_ℤ, Some, None}
use Rattle.std.proofs.Math.Option.{Option, none, some}
use Rattle.std.specs.Int.{w64}
use Rattle.std.proofs.Common.{to_z}
use Rattle.lustre.specs.Types.{Ty, basic}
use Rattle.lustre.specs.Resolve.{Aliases, resolve}
use Rattle.types.specs.Value.{Naming, maybe}
use Rattle.types.specs.Scope.{Table, kind_of}
use Rattle.types.specs.declared.Typ.{Typ}

-- the number of a literal's word, under a minus or not
abbrev pub number_of : Bool → ℕ → ℤ
number_of true w = neg_ℤ (to_z w64 w)
number_of false w = to_z w64 w

-- the hint as the definition has it
abbrev pub asHint : Naming → code.Option Typ → Option Ty
asHint ρ h = maybe ρ h

-- the basic type of a kind
abbrev pub basic_of : code.Option ℕ → Option Ty
basic_of None = none
basic_of (Some k) = some (basic k)

-- r is the kind of o, if there is one
pub record KindIs (o : Option Ty) (r : code.Option ℕ) : Type 0 where
  pub is : basic_of r ≡ o
  pub no_name : r ≡ Some 33 → ⊥
  pub no_tuple : r ≡ Some 34 → ⊥

-- the kind of the basic type that a hint is once resolved
abbrev pub hint_kind : Aliases → Option Ty → code.Option ℕ
hint_kind al none = None
hint_kind al (some h) = kind_of (resolve al h)

-- what `hinted_kind` answers
pub record HintKind (ks ws sc : List ℕ) (h : code.Option Typ) (r : code.Option ℕ) : Type 0 where
  pub is : (ρ : Naming) (al : Aliases) → Table ρ al ks ws sc → r ≡ hint_kind al (asHint ρ h)

-- what the functions on literals answer: the kind of what f gives under the hint h
pub record Hinted (ks ws sc : List ℕ) (h : code.Option Typ) (f : Aliases → Option Ty → Option Ty) (r : code.Option ℕ) : Type 0 where
  pub type : (ρ : Naming) (al : Aliases) → Table ρ al ks ws sc → KindIs (f al (asHint ρ h)) r
