-- A project, `ol_ir/node.rs` and document 01's records. `PackageOf N` is a package whose nodes are of the type N, so that a package
-- and the part of it that other nodes see, a heading in place of each node, have one form.
-- Assumes nothing: these are definitions.
use Rattle.std.specs.Prelude.{Bool, true, false, List, [], ◌∷◌, ◌++◌, map}
use Rattle.lustre.specs.Name.{Name}
use Rattle.lustre.specs.Types.{Ty}
use Rattle.lustre.specs.Expr.{Expr}

-- a port, a local or a record's field: its name and its type
abbrev pub Port : Type 0
Port = Name × Ty

-- `TypeBody`
pub data Decl : Type 0 where
  Alias : Name → Ty → Decl
  Record : Name → List Port → Decl
  Enum : Name → List Name → Decl

pub record Constant : Type 0 where
  pub name : Name
  pub type : Ty
  pub value : Expr

pub data NodeKind : Type 0 where
  Function Operator Imported : NodeKind

pub record Equation : Type 0 where
  pub lhs : List Name
  pub rhs : Expr

pub record Node : Type 0 where
  pub name : Name
  pub kind : NodeKind
  pub inputs : List Port
  pub outputs : List Port
  pub locals : List Port
  pub equations : List Equation
  pub probes : List Name

-- what other nodes see of a node
pub record Heading : Type 0 where
  pub name : Name
  pub kind : NodeKind
  pub inputs : List Port
  pub outputs : List Port

pub record PackageOf (N : Type 0) : Type 0 where
  pub name : Name
  pub types : List Decl
  pub constants : List Constant
  pub nodes : List N

abbrev pub Package : Type 0
Package = PackageOf Node

abbrev pub Project : Type 0
Project = List Package

abbrev pub Skeleton : Type 0
Skeleton = List (PackageOf Heading)

unfoldable pub heading : Node → Heading
heading n = record { name = n.name; kind = n.kind; inputs = n.inputs; outputs = n.outputs }

-- a project without its nodes' locals, equations and probes
unfoldable pub skeleton : Project → Skeleton
skeleton [] = []
skeleton (p ∷ ps) = record { name = p.name; types = p.types; constants = p.constants; nodes = map heading p.nodes } ∷ skeleton ps

unfoldable pub all_types : {N : Type 0} → List (PackageOf N) → List Decl
all_types [] = []
all_types (p ∷ ps) = p.types ++ all_types ps

unfoldable pub all-constants : {N : Type 0} → List (PackageOf N) → List Constant
all-constants [] = []
all-constants (p ∷ ps) = p.constants ++ all-constants ps

-- `Project::all_nodes`, package by package
unfoldable pub all-nodes : {N : Type 0} → List (PackageOf N) → List N
all-nodes [] = []
all-nodes (p ∷ ps) = p.nodes ++ all-nodes ps

unfoldable pub decl-name : Decl → Name
decl-name (Alias x t) = x
decl-name (Record x fs) = x
decl-name (Enum x vs) = x

unfoldable pub is-function : NodeKind → Bool
is-function Function = true
is-function Operator = false
is-function Imported = false

unfoldable pub is-operator : NodeKind → Bool
is-operator Function = false
is-operator Operator = true
is-operator Imported = false

unfoldable pub port-names : List Port → List Name
port-names [] = []
port-names (p ∷ ps) = p.0 ∷ port-names ps
