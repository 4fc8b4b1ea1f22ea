-- What a type by value stands for: the tree of types that a `Typ` is, where the names' numbers have texts.
-- Assumes nothing: these are definitions.
use Rattle.std.specs.Prelude as code
use Rattle.std.specs.Prelude.{ℕ, zero, suc, ◌+◌, ◌-◌, ◌<◌, ◌≡◌, Bool, true, List, eqb, get_or, if◌then◌else◌, Some, None}
use Rattle.std.proofs.Math.Option.{Option, none, some}
use Rattle.lustre.specs.Name.{Name}
use Rattle.lustre.specs.Types.{Ty, basic, Array, Named, Tuple, members}
use Rattle.types.specs.declared.Typ.{Typ}

-- the text of each name number
abbrev pub Naming : Type 0
Naming = ℕ → Name

-- different numbers have different texts
abbrev pub Injective : Naming → Type 0
Injective ρ = (m n : ℕ) → ρ m ≡ ρ n → m ≡ n

-- base kind k with number n: kind 33 is the name of that number, 34 a tuple of so many members, any other a basic type
unfoldable pub bottom : Naming → ℕ → ℕ → Ty
bottom ρ k n = if eqb k 33 then Named (ρ n) else if eqb k 34 then Tuple n else basic k

-- arrays of the first k of the lengths l around t, length number k - 1 outermost
unfoldable pub up : List ℕ → ℕ → Ty → Ty
up l zero t = t
up l (suc k) t = Array (get_or l k 0) (up l k t)

-- the tree of a type by value
unfoldable pub asTy : Naming → Typ → Ty
asTy ρ t = up t.lengths t.levels (bottom ρ t.base t.name)

-- an optional value of the code as the definitions have it
abbrev pub given : {A : Type 0} → code.Option A → Option A
given None = none
given (Some x) = some x

-- a type that there may be
abbrev pub maybe : Naming → code.Option Typ → Option Ty
maybe ρ None = none
maybe ρ (Some t) = some (asTy ρ t)

-- the length of an array type
abbrev pub outer : Typ → ℕ
outer t = get_or t.lengths (t.levels - 1) 0

-- r is base kind k with name number n and no lengths
pub record Bottom (k n : ℕ) (r : Typ) : Type 0 where
  pub base : r.base ≡ k
  pub name : r.name ≡ n
  pub flat : r.levels ≡ 0
  pub is : (ρ : Naming) → asTy ρ r ≡ bottom ρ k n

-- t is an array of n of e
pub record ArrayOf (n : ℕ) (e t : Typ) : Type 0 where
  pub base : t.base ≡ e.base
  pub name : t.name ≡ e.name
  pub levels : t.levels ≡ e.levels + 1
  pub is : (ρ : Naming) → asTy ρ t ≡ Array n (asTy ρ e)

-- what `members` answers
abbrev pub Members : Typ → code.Option ℕ → Type 0
Members t r = (ρ : Naming) → members (asTy ρ t) ≡ given r

-- what `same_basic` answers: if true, a and b are one type, whatever the names' texts
abbrev pub SameBasic : Typ → Typ → Bool → Type 0
SameBasic a b r = r ≡ true → (ρ : Naming) → asTy ρ a ≡ asTy ρ b

-- r has the lengths of t around those of u, and the bottom of u
pub record Around (t u r : Typ) : Type 0 where
  pub base : r.base ≡ u.base
  pub name : r.name ≡ u.name
  pub levels : r.levels ≡ u.levels + t.levels
  pub is : (s : Ty) → up r.lengths r.levels s ≡ up t.lengths t.levels (up u.lengths u.levels s)
