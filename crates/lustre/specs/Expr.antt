-- The expressions, `ol_ir/expr.rs`, as document 01 records them.
-- Assumes nothing: these are definitions.
use Rattle.std.specs.Prelude.{ℕ, ◌+◌, Bool, true, false, List, [], ◌∷◌, ◌++◌, ℤ}
use Rattle.std.specs.Int.{w64}
use Rattle.std.proofs.Common.{to_z}
use Rattle.lustre.specs.Name.{Name}
use Rattle.lustre.specs.Types.{Ty, levels}

pub data Literal : Type 0 where
  bool int float char : Literal

pub data UnaryOp : Type 0 where
  Not Neg : UnaryOp

pub data BinOp : Type 0 where
  And Or Xor Implies Eq Neq Lt Le Gt Ge Add Sub Mul Div Mod BitAnd BitOr BitXor Shl Shr : BinOp

pub data IterKind : Type 0 where
  Map Fold : IterKind

-- A literal is its kind and its word. `when on c e` is `e when c` or `e when not c`. An iterator has a seed or none.
infixr 67 ◌∷ᵉ◌
mutual
  pub data Expr : Type 0 where
    const : Literal → ℕ → Expr
    var : Name → Expr
    unary : UnaryOp → Expr → Expr
    binary : BinOp → Expr → Expr → Expr
    ite : Expr → Expr → Expr → Expr
    pre : Expr → Expr
    arrow : Expr → Expr → Expr
    call : Name → Exprs → Expr
    field : Name → Expr → Expr
    index : Expr → Expr → Expr
    tuple : Exprs → Expr
    array : Exprs → Expr
    struct : Name → Inits → Expr
    cast : Ty → Expr → Expr
    when : Bool → Name → Expr → Expr
    merge : Name → Expr → Expr → Expr
    iterate : IterKind → Name → Exprs → Expr
    iterate-from : IterKind → Name → Expr → Exprs → Expr

  pub data Exprs : Type 0 where
    []ᵉ : Exprs
    ◌∷ᵉ◌ : Expr → Exprs → Exprs

  pub data Inits : Type 0 where
    []ⁱ : Inits
    init : Name → Expr → Inits → Inits

-- the number of records
unfoldable mutual
  pub size : Expr → ℕ
  size (const l w) = 1
  size (var x) = 1
  size (unary o e) = 1 + size e
  size (binary o l r) = 1 + size l + size r
  size (ite c t e) = 1 + size c + size t + size e
  size (pre e) = 1 + size e
  size (arrow i b) = 1 + size i + size b
  size (call f es) = 2 + sizes es
  size (field x e) = 1 + size e
  size (index b i) = 1 + size b + size i
  size (tuple es) = 1 + sizes es
  size (array es) = 1 + sizes es
  size (struct n is) = 2 + sizesⁱ is
  size (cast t e) = 1 + levels t + size e
  size (when on c e) = 1 + size e
  size (merge c t f) = 1 + size t + size f
  size (iterate k f es) = 2 + sizes es
  size (iterate-from k f s es) = 2 + size s + sizes es

  pub sizes : Exprs → ℕ
  sizes []ᵉ = 0
  sizes (e ∷ᵉ es) = size e + sizes es

  pub sizesⁱ : Inits → ℕ
  sizesⁱ []ⁱ = 0
  sizesⁱ (init x e is) = 1 + size e + sizesⁱ is

-- what `Expr::visit` shows its function: each sub-expression with its step, in record order
unfoldable mutual
  pub visit : ℕ → Expr → List (ℕ × Expr)
  visit at (const l w) = (at, const l w) ∷ []
  visit at (var x) = (at, var x) ∷ []
  visit at (unary o e) = (at, unary o e) ∷ visit (at + 1) e
  visit at (binary o l r) = (at, binary o l r) ∷ visit (at + 1) l ++ visit (at + 1 + size l) r
  visit at (ite c t e) = (at, ite c t e) ∷ visit (at + 1) c ++ visit (at + 1 + size c) t ++ visit (at + 1 + size c + size t) e
  visit at (pre e) = (at, pre e) ∷ visit (at + 1) e
  visit at (arrow i b) = (at, arrow i b) ∷ visit (at + 1) i ++ visit (at + 1 + size i) b
  visit at (call f es) = (at, call f es) ∷ visits (at + 2) es
  visit at (field x e) = (at, field x e) ∷ visit (at + 1) e
  visit at (index b i) = (at, index b i) ∷ visit (at + 1) b ++ visit (at + 1 + size b) i
  visit at (tuple es) = (at, tuple es) ∷ visits (at + 1) es
  visit at (array es) = (at, array es) ∷ visits (at + 1) es
  visit at (struct n is) = (at, struct n is) ∷ visitsⁱ (at + 2) is
  visit at (cast t e) = (at, cast t e) ∷ visit (at + 1 + levels t) e
  visit at (when on c e) = (at, when on c e) ∷ visit (at + 1) e
  visit at (merge c t f) = (at, merge c t f) ∷ visit (at + 1) t ++ visit (at + 1 + size t) f
  visit at (iterate k f es) = (at, iterate k f es) ∷ visits (at + 2) es
  visit at (iterate-from k f s es) = (at, iterate-from k f s es) ∷ visit (at + 1) s ++ visits (at + 2 + size s) es

  pub visits : ℕ → Exprs → List (ℕ × Expr)
  visits at []ᵉ = []
  visits at (e ∷ᵉ es) = visit at e ++ visits (at + size e) es

  pub visitsⁱ : ℕ → Inits → List (ℕ × Expr)
  visitsⁱ at []ⁱ = []
  visitsⁱ at (init x e is) = visit (at + 1) e ++ visitsⁱ (at + 1 + size e) is

-- what the Rust's `matches!` asks of an expression, and whether it is a call
pub data Form : Type 0 where
  integer : ℤ → Form
  temporal iterator : Form
  calling : Name → Form
  other : Form

unfoldable pub literal-form : Literal → ℕ → Form
literal-form bool w = other
literal-form int w = integer (to_z w64 w)
literal-form float w = other
literal-form char w = other

unfoldable pub form : Expr → Form
form (const l w) = literal-form l w
form (var x) = other
form (unary o e) = other
form (binary o l r) = other
form (ite c t e) = other
form (pre e) = temporal
form (arrow i b) = temporal
form (call f es) = calling f
form (field x e) = other
form (index b i) = other
form (tuple es) = other
form (array es) = other
form (struct n is) = other
form (cast t e) = other
form (when on c e) = other
form (merge c t f) = other
form (iterate k f es) = iterator
form (iterate-from k f s es) = iterator

unfoldable pub any-temporal : List (ℕ × Expr) → Bool
any-temporal [] = false
any-temporal (x ∷ xs) = elim (form x.1) [ integer v ↦ any-temporal xs | temporal ↦ true | iterator ↦ any-temporal xs | calling f ↦ any-temporal xs | other ↦ any-temporal xs ]

-- `Expr::contains_temporal`
unfoldable pub contains-temporal : Expr → Bool
contains-temporal e = any-temporal (visit 0 e)

-- the five rows of operators in `infer_expr_type`
pub data OpClass : Type 0 where
  Logic Equality Order Arithmetic Bitwise : OpClass

unfoldable pub op-class : BinOp → OpClass
op-class And = Logic
op-class Or = Logic
op-class Xor = Logic
op-class Implies = Logic
op-class Eq = Equality
op-class Neq = Equality
op-class Lt = Order
op-class Le = Order
op-class Gt = Order
op-class Ge = Order
op-class Add = Arithmetic
op-class Sub = Arithmetic
op-class Mul = Arithmetic
op-class Div = Arithmetic
op-class Mod = Arithmetic
op-class BitAnd = Bitwise
op-class BitOr = Bitwise
op-class BitXor = Bitwise
op-class Shl = Bitwise
op-class Shr = Bitwise
