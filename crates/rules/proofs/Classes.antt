-- The classes of operators by the operators' kinds.
-- Assumes nothing.
use Rattle.std.specs.Prelude.{if◌then◌else◌}
use Prim.Native.Nat.{ℕ}
use mathlib.Core.Path.{◌≡◌, refl}
use lib.Dec.{leb}
use Rattle.lustre.specs.Expr.{BinOp, OpClass, Logic, Equality, Order, Arithmetic, Bitwise, op_class}
use Rattle.lustre.specs.Expr.{And, Or, Xor, Implies, Eq, Neq, Lt, Le, Gt, Ge, Add, Sub, Mul, Div, Mod, BitAnd, BitOr, BitXor, Shl, Shr}
use Rattle.lustre.specs.Grammar.{op_kind}

-- an operator's class, by the operator's kind
abbrev pub class_at : ℕ → OpClass
class_at k = if leb k 50 then Logic else if leb k 52 then Equality else if leb k 56 then Order else if leb k 61 then Arithmetic else Bitwise

pub class_kind : (o : BinOp) → class_at (op_kind o) ≡ op_class o
unfolding op_class
class_kind And = refl
class_kind Or = refl
class_kind Xor = refl
class_kind Implies = refl
class_kind Eq = refl
class_kind Neq = refl
class_kind Lt = refl
class_kind Le = refl
class_kind Gt = refl
class_kind Ge = refl
class_kind Add = refl
class_kind Sub = refl
class_kind Mul = refl
class_kind Div = refl
class_kind Mod = refl
class_kind BitAnd = refl
class_kind BitOr = refl
class_kind BitXor = refl
class_kind Shl = refl
class_kind Shr = refl
