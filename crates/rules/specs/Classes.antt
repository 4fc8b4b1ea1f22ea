-- The classes of operators as the code has them.
-- Assumes nothing: these are definitions.
use Rattle.std.specs.Prelude as rust
use Rattle.std.specs.Prelude.{ℕ, Bool, false, ◌&&◌, leb, Some, None}
use Rattle.lustre.specs.Types.{Ty, within, same_type}
use Rattle.lustre.specs.Expr.{OpClass, Logic, Equality, Order, Arithmetic, Bitwise}
use Rattle.rules.specs.declared.Class.{Class}
use Rattle.rules.specs.declared.Class.TheVariants as code

-- a class
abbrev pub class_as : Class → OpClass
class_as code.Logical = Logic
class_as code.Equality = Equality
class_as code.Ordering = Order
class_as code.Arithmetic = Arithmetic
class_as code.Bitwise = Bitwise

-- a kind is from low to high
abbrev pub between : ℕ → ℕ → rust.Option ℕ → Bool
between low high None = false
between low high (Some k) = leb low k && leb k high

-- both are one basic type of the kinds from low to high
abbrev pub one_of : ℕ → ℕ → Ty → Ty → Bool
one_of low high s t = within low high s && within low high t && same_type s t
