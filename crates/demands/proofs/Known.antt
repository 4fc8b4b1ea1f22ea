-- Where the names of lines come from: what it is for every name of a part of a project to satisfy K, and for a note of inference to be fine.
-- Assumes nothing: these are definitions.
use Prim.Native.Nat.{◌≤◌}
use mathlib.Core.Path.{◌≡◌}
use mathlib.Core.List.{List}
use mathlib.Core.Option.{Option, none, some}
use Rattle.lustre.specs.Name.{Name}
use Rattle.lustre.specs.Records.{Rec, WordClass, no_word, a_name, a_count, a_length, a_truth, any_word, a_byte, word_class}
use Rattle.lustre.specs.Types.{Ty, basic, Array, Named, Tuple}
use Rattle.lustre.specs.Expr.{Expr, Exprs, Inits, const, var, unary, binary, ite, pre, arrow, call, field, index, tuple, array, struct, cast, when, merge, iterate, iterate_from, []ᵉ, ◌∷ᵉ◌, []ⁱ, init}
use Rattle.lustre.specs.Project.{Port, Decl, Alias, Record, Enum, Constant, Equation, Node, Package, Project}
use Rattle.lustre.specs.Line.{Note}
use Rattle.lustre.specs.Resolve.{Scope}
use Rattle.demands.specs.Reading.{Each}

module _ (K : Name → Type 0) where
  abbrev pub KnownName : Option Name → Type 0
  KnownName none = Unit {0}
  KnownName (some x) = K x

  unfoldable pub KnownType : Ty → Type 0
  KnownType (basic b) = Unit {0}
  KnownType (Array n t) = KnownType t
  KnownType (Named x) = K x
  KnownType (Tuple n) = Unit {0}

  unfoldable mutual
    pub KnownExpr : Expr → Type 0
    KnownExpr (const l w) = Unit {0}
    KnownExpr (var x) = K x
    KnownExpr (unary o e) = KnownExpr e
    KnownExpr (binary o a b) = KnownExpr a × KnownExpr b
    KnownExpr (ite c a b) = KnownExpr c × KnownExpr a × KnownExpr b
    KnownExpr (pre e) = KnownExpr e
    KnownExpr (arrow a b) = KnownExpr a × KnownExpr b
    KnownExpr (call f es) = K f × KnownExprs es
    KnownExpr (field x e) = K x × KnownExpr e
    KnownExpr (index a b) = KnownExpr a × KnownExpr b
    KnownExpr (tuple es) = KnownExprs es
    KnownExpr (array es) = KnownExprs es
    KnownExpr (struct x is) = K x × KnownInits is
    KnownExpr (cast t e) = KnownType t × KnownExpr e
    KnownExpr (when on c e) = K c × KnownExpr e
    KnownExpr (merge c a b) = K c × KnownExpr a × KnownExpr b
    KnownExpr (iterate k f es) = K f × KnownExprs es
    KnownExpr (iterate_from k f s es) = K f × KnownExpr s × KnownExprs es

    pub KnownExprs : Exprs → Type 0
    KnownExprs []ᵉ = Unit {0}
    KnownExprs (e ∷ᵉ es) = KnownExpr e × KnownExprs es

    pub KnownInits : Inits → Type 0
    KnownInits []ⁱ = Unit {0}
    KnownInits (init x e is) = K x × KnownExpr e × KnownInits is

  abbrev pub KnownPorts : List Port → Type 0
  KnownPorts = Each (λ (p : Port). K p.0 × KnownType p.1)

  unfoldable pub KnownDecl : Decl → Type 0
  KnownDecl (Alias x t) = K x × KnownType t
  KnownDecl (Record x fs) = K x × KnownPorts fs
  KnownDecl (Enum x vs) = K x × Each K vs

  pub record KnownConstant (c : Constant) : Type 0 where
    pub name : K c.name
    pub type : KnownType c.type
    pub value : KnownExpr c.value

  pub record KnownEquation (q : Equation) : Type 0 where
    pub lhs : Each K q.lhs
    pub rhs : KnownExpr q.rhs

  pub record KnownNode (n : Node) : Type 0 where
    pub name : K n.name
    pub inputs : KnownPorts n.inputs
    pub outputs : KnownPorts n.outputs
    pub locals : KnownPorts n.locals
    pub equations : Each KnownEquation n.equations
    pub probes : Each K n.probes

  pub record KnownPackage (p : Package) : Type 0 where
    pub types : Each KnownDecl p.types
    pub constants : Each KnownConstant p.constants
    pub nodes : Each KnownNode p.nodes

  abbrev pub KnownProject : Project → Type 0
  KnownProject P = Each KnownPackage P

  -- what a scope hands out
  pub record KnownScope (Γ : Scope) : Type 0 where
    pub alias : (x : Name) (t : Ty) → Γ.alias x ≡ some t → KnownType t
    pub fields : (x : Name) (fs : List Port) → Γ.fields x ≡ some fs → KnownPorts fs

  -- a note of inference: its code is one of inference's, and its name is known
  pub record Fine (m : Note) : Type 0 where
    pub above : 80 ≤ m.code
    pub known : KnownName m.name

  abbrev pub KnownWord : Option WordClass → Name → Type 0
  KnownWord none t = Unit {0}
  KnownWord (some no_word) t = Unit {0}
  KnownWord (some a_name) t = K t
  KnownWord (some a_count) t = Unit {0}
  KnownWord (some a_length) t = Unit {0}
  KnownWord (some a_truth) t = Unit {0}
  KnownWord (some any_word) t = Unit {0}
  KnownWord (some a_byte) t = Unit {0}

  -- every record whose word is a name has a known one
  abbrev pub KnownRecords : List Rec → Type 0
  KnownRecords = Each (λ (r : Rec). KnownWord (word_class r.kind) r.text)
