-- How deep types and expressions are, and what refusal 6 leaves: no type of more than 68 levels, no expression of more than 60.
-- Assumes nothing: these are definitions.
use Rattle.std.specs.Prelude.{ℕ, suc, max, ◌≤◌, List}
use Rattle.lustre.specs.Types.{Ty, levels}
use Rattle.lustre.specs.Expr.{Expr, Exprs, Inits, const, var, unary, binary, ite, pre, arrow, call, field, index, tuple, array, struct, cast, when, merge, iterate, iterate_from, []ᵉ, ◌∷ᵉ◌, []ⁱ, init}
use Rattle.lustre.specs.Project.{Port, Decl, Alias, Record, Enum, Constant, Equation, Node, Package, Project}
use Rattle.demands.specs.Reading.{Each}

-- the levels of an expression, of the deepest of expressions and of the deepest field value
unfoldable mutual
  pub depth : Expr → ℕ
  depth (const l w) = 1
  depth (var x) = 1
  depth (unary o e) = suc (depth e)
  depth (binary o a b) = suc (max (depth a) (depth b))
  depth (ite c a b) = suc (max (depth c) (max (depth a) (depth b)))
  depth (pre e) = suc (depth e)
  depth (arrow a b) = suc (max (depth a) (depth b))
  depth (call f es) = suc (depths es)
  depth (field x e) = suc (depth e)
  depth (index a b) = suc (max (depth a) (depth b))
  depth (tuple es) = suc (depths es)
  depth (array es) = suc (depths es)
  depth (struct x is) = suc (depthsⁱ is)
  depth (cast t e) = suc (depth e)
  depth (when on c e) = suc (depth e)
  depth (merge c a b) = suc (max (depth a) (depth b))
  depth (iterate k f es) = suc (depths es)
  depth (iterate_from k f s es) = suc (max (depth s) (depths es))

  pub depths : Exprs → ℕ
  depths []ᵉ = 0
  depths (e ∷ᵉ es) = max (depth e) (depths es)

  pub depthsⁱ : Inits → ℕ
  depthsⁱ []ⁱ = 0
  depthsⁱ (init x e is) = max (depth e) (depthsⁱ is)

-- a type has at most 68 levels
abbrev pub ShallowType : Ty → Type 0
ShallowType t = levels t ≤ 68

-- the types that an expression casts to are shallow
unfoldable mutual
  pub ShallowCasts : Expr → Type 0
  ShallowCasts (const l w) = Unit {0}
  ShallowCasts (var x) = Unit {0}
  ShallowCasts (unary o e) = ShallowCasts e
  ShallowCasts (binary o a b) = ShallowCasts a × ShallowCasts b
  ShallowCasts (ite c a b) = ShallowCasts c × ShallowCasts a × ShallowCasts b
  ShallowCasts (pre e) = ShallowCasts e
  ShallowCasts (arrow a b) = ShallowCasts a × ShallowCasts b
  ShallowCasts (call f es) = ShallowCastsEach es
  ShallowCasts (field x e) = ShallowCasts e
  ShallowCasts (index a b) = ShallowCasts a × ShallowCasts b
  ShallowCasts (tuple es) = ShallowCastsEach es
  ShallowCasts (array es) = ShallowCastsEach es
  ShallowCasts (struct x is) = ShallowCastsEachⁱ is
  ShallowCasts (cast t e) = ShallowType t × ShallowCasts e
  ShallowCasts (when on c e) = ShallowCasts e
  ShallowCasts (merge c a b) = ShallowCasts a × ShallowCasts b
  ShallowCasts (iterate k f es) = ShallowCastsEach es
  ShallowCasts (iterate_from k f s es) = ShallowCasts s × ShallowCastsEach es

  pub ShallowCastsEach : Exprs → Type 0
  ShallowCastsEach []ᵉ = Unit {0}
  ShallowCastsEach (e ∷ᵉ es) = ShallowCasts e × ShallowCastsEach es

  pub ShallowCastsEachⁱ : Inits → Type 0
  ShallowCastsEachⁱ []ⁱ = Unit {0}
  ShallowCastsEachⁱ (init x e is) = ShallowCasts e × ShallowCastsEachⁱ is

-- an expression has at most 60 levels, and each type that it casts to at most 68
pub record ShallowExpr (e : Expr) : Type 0 where
  pub deep : depth e ≤ 60
  pub casts : ShallowCasts e

-- the same of every type and expression in ports, a declaration, a constant, a node, a package and a project
abbrev pub ShallowPorts : List Port → Type 0
ShallowPorts = Each (λ (p : Port). ShallowType p.1)

unfoldable pub ShallowDecl : Decl → Type 0
ShallowDecl (Alias x t) = ShallowType t
ShallowDecl (Record x fs) = ShallowPorts fs
ShallowDecl (Enum x vs) = Unit {0}

pub record ShallowConstant (c : Constant) : Type 0 where
  pub type : ShallowType c.type
  pub value : ShallowExpr c.value

pub record ShallowNode (n : Node) : Type 0 where
  pub inputs : ShallowPorts n.inputs
  pub outputs : ShallowPorts n.outputs
  pub locals : ShallowPorts n.locals
  pub equations : Each (λ (q : Equation). ShallowExpr q.rhs) n.equations

pub record ShallowPackage (p : Package) : Type 0 where
  pub types : Each ShallowDecl p.types
  pub constants : Each ShallowConstant p.constants
  pub nodes : Each ShallowNode p.nodes

abbrev pub ShallowProject : Project → Type 0
ShallowProject P = Each ShallowPackage P
