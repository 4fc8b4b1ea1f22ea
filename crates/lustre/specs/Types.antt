-- The types, `ol_ir/types.rs`. A basic type is its record kind, 20 to 31 in the order of `Type`. Inference has two sorts more, of
-- values that no record's type describes: a tuple of so many members (several outputs, or a tuple's items), and no output (35). The
-- Rust spells them as the named types `__tuple__` and `__unit__`, which are barred as names, so no declaration is ever found for them.
-- Assumes nothing: these are definitions.
use Rattle.std.specs.Prelude.{ℕ, ◌+◌, Bool, false, ◌&&◌, eqb, leb, if◌then◌else◌}
use Rattle.std.proofs.Math.Option.{Option, none, some}
use Rattle.lustre.specs.Name.{Name, ◌is◌}

pub data Ty : Type 0 where
  basic : ℕ → Ty
  Array : ℕ → Ty → Ty
  Named : Name → Ty
  Tuple : ℕ → Ty

abbrev pub Boolean : Ty
Boolean = basic 20

abbrev pub Int8 : Ty
Int8 = basic 21

abbrev pub Int16 : Ty
Int16 = basic 22

abbrev pub Int32 : Ty
Int32 = basic 23

abbrev pub Int64 : Ty
Int64 = basic 24

abbrev pub Uint8 : Ty
Uint8 = basic 25

abbrev pub Uint16 : Ty
Uint16 = basic 26

abbrev pub Uint32 : Ty
Uint32 = basic 27

abbrev pub Uint64 : Ty
Uint64 = basic 28

abbrev pub Float32 : Ty
Float32 = basic 29

abbrev pub Float64 : Ty
Float64 = basic 30

abbrev pub Character : Ty
Character = basic 31

abbrev pub unit_type : Ty
unit_type = basic 35

-- the derived equality of `Type`; tuples are equal that have equal numbers of members
unfoldable pub same_type : Ty → Ty → Bool
same_type (basic a) (basic b) = eqb a b
same_type (basic a) (Array m t) = false
same_type (basic a) (Named y) = false
same_type (basic a) (Tuple j) = false
same_type (Array n s) (basic b) = false
same_type (Array n s) (Array m t) = eqb n m && same_type s t
same_type (Array n s) (Named y) = false
same_type (Array n s) (Tuple j) = false
same_type (Named x) (basic b) = false
same_type (Named x) (Array m t) = false
same_type (Named x) (Named y) = x is y
same_type (Named x) (Tuple j) = false
same_type (Tuple i) (basic b) = false
same_type (Tuple i) (Array m t) = false
same_type (Tuple i) (Named y) = false
same_type (Tuple i) (Tuple j) = eqb i j

-- a basic type of the kinds from low to high
unfoldable pub within : ℕ → ℕ → Ty → Bool
within low high (basic k) = leb low k && leb k high
within low high (Array n t) = false
within low high (Named x) = false
within low high (Tuple n) = false

-- `is_numeric`, `is_integer`, `is_float`, `is_bool`
abbrev pub is_numeric : Ty → Bool
is_numeric = within 21 30

abbrev pub is_integer : Ty → Bool
is_integer = within 21 28

abbrev pub is_float : Ty → Bool
is_float = within 29 30

abbrev pub is_bool : Ty → Bool
is_bool = within 20 20

-- the number of members of a tuple
unfoldable pub members : Ty → Option ℕ
members (basic k) = none
members (Array n t) = none
members (Named x) = none
members (Tuple n) = some n

-- sign and width of the integer types
pub data Range : Type 0 where
  signed unsigned : ℕ → Range

unfoldable pub range_of : ℕ → Option Range
range_of k =
    if eqb k 21 then some (signed 8) else
    if eqb k 22 then some (signed 16) else
    if eqb k 23 then some (signed 32) else
    if eqb k 24 then some (signed 64) else
    if eqb k 25 then some (unsigned 8) else
    if eqb k 26 then some (unsigned 16) else
    if eqb k 27 then some (unsigned 32) else
    if eqb k 28 then some (unsigned 64) else none

-- the records of a type, one for each of its levels
unfoldable pub levels : Ty → ℕ
levels (basic b) = 1
levels (Array n t) = 1 + levels t
levels (Named x) = 1
levels (Tuple n) = 1
