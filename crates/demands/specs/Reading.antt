-- What reading and flattening promise.
-- Assumes nothing: these are statements, proved in proofs/.
use Rattle.std.specs.Prelude.{ℕ, ◌≡◌, true, List, [], ◌∷◌, ◌++◌, eqb}
use Rattle.std.proofs.Math.Option.{Option, none, some}
use Rattle.std.proofs.Math.ListN.{get_elem?}
use Rattle.lustre.specs.Name.{Name, mem}
use Rattle.lustre.specs.Records.{Rec, word_class, spell_as, spell}
use Rattle.lustre.specs.Types.{Ty, basic, Array, Named, Tuple}
use Rattle.lustre.specs.Expr.{Expr, Exprs, Inits, const, var, unary, binary, ite, pre, arrow, call, field, index, tuple, array, struct, cast, when, merge, iterate, iterate_from, []ᵉ, ◌∷ᵉ◌, []ⁱ, init}
use Rattle.lustre.specs.Project.{Port, Decl, Alias, Record, Enum, Constant, Equation, Node, Package, skeleton, all_nodes}
use Rattle.lustre.specs.Grammar.{Sort, Class, one, list, Single, Tree, Got, got, read, flat_part, flat_node, basic_kinds}
use Rattle.lustre.specs.Grammar.{a_project, a_package, a_declaration, a_constant, a_node, a_port, a_name, an_equation, a_type, an_expression, a_field_value}
use Rattle.lustre.specs.Answer.{no_project, project_read}
use Rattle.demands.specs.Parts.{all, shown, node_part}

abbrev pub Each : {X : Type 0} → (X → Type 0) → List X → Type 0
Each P [] = Unit {0}
Each P (x ∷ xs) = P x × Each P xs

-- a type that records can write: tuple and unit, types of inference, have no records
unfoldable pub WritableType : Ty → Type 0
WritableType (basic b) = mem eqb b basic_kinds ≡ true
WritableType (Array n t) = WritableType t
WritableType (Named x) = Unit {0}
WritableType (Tuple n) = ⊥

unfoldable mutual
  pub WritableExpr : Expr → Type 0
  WritableExpr (const l w) = Unit {0}
  WritableExpr (var x) = Unit {0}
  WritableExpr (unary o e) = WritableExpr e
  WritableExpr (binary o a b) = WritableExpr a × WritableExpr b
  WritableExpr (ite c a b) = WritableExpr c × WritableExpr a × WritableExpr b
  WritableExpr (pre e) = WritableExpr e
  WritableExpr (arrow a b) = WritableExpr a × WritableExpr b
  WritableExpr (call f es) = WritableExprs es
  WritableExpr (field x e) = WritableExpr e
  WritableExpr (index a b) = WritableExpr a × WritableExpr b
  WritableExpr (tuple es) = WritableExprs es
  WritableExpr (array es) = WritableExprs es
  WritableExpr (struct x is) = WritableInits is
  WritableExpr (cast t e) = WritableType t × WritableExpr e
  WritableExpr (when on c e) = WritableExpr e
  WritableExpr (merge c a b) = WritableExpr a × WritableExpr b
  WritableExpr (iterate k f es) = WritableExprs es
  WritableExpr (iterate_from k f s es) = WritableExpr s × WritableExprs es

  pub WritableExprs : Exprs → Type 0
  WritableExprs []ᵉ = Unit {0}
  WritableExprs (e ∷ᵉ es) = WritableExpr e × WritableExprs es

  pub WritableInits : Inits → Type 0
  WritableInits []ⁱ = Unit {0}
  WritableInits (init x e is) = WritableExpr e × WritableInits is

abbrev pub WritablePorts : List Port → Type 0
WritablePorts = Each (λ (p : Port). WritableType p.1)

unfoldable pub WritableDecl : Decl → Type 0
WritableDecl (Alias x t) = WritableType t
WritableDecl (Record x fs) = WritablePorts fs
WritableDecl (Enum x vs) = Unit {0}

abbrev pub WritableConstant : Constant → Type 0
WritableConstant c = WritableType c.type × WritableExpr c.value

abbrev pub WritableNode : Node → Type 0
WritableNode n = WritablePorts n.inputs × WritablePorts n.outputs × WritablePorts n.locals × Each (λ (q : Equation). WritableExpr q.rhs) n.equations

abbrev pub WritablePackage : Package → Type 0
WritablePackage p = Each WritableDecl p.types × Each WritableConstant p.constants × Each WritableNode p.nodes

abbrev pub WritableOne : (s : Sort) → Single s → Type 0
WritableOne a_project v = Each WritablePackage v
WritableOne a_package v = WritablePackage v
WritableOne a_declaration v = WritableDecl v
WritableOne a_constant v = WritableConstant v
WritableOne a_node v = WritableNode v
WritableOne a_port v = WritableType v.1
WritableOne a_name v = Unit {0}
WritableOne an_equation v = WritableExpr v.rhs
WritableOne a_type v = WritableType v
WritableOne an_expression v = WritableExpr v
WritableOne a_field_value v = WritableExpr v.value

-- a tree whose types records can write
abbrev pub Writable : (c : Class) → Tree c → Type 0
Writable (one s) v = WritableOne s v
Writable (list s) v = Each (WritableOne s) v

-- records that hold no more than their kinds say, as spelled ones do
abbrev pub Tidy : List Rec → Type 0
Tidy = Each (λ (r : Rec). spell_as (word_class r.kind) r.kind r.number r.text ≡ r)

-- the tree of a class that the records begin with, and the records behind it; or those from the first that can't stand
abbrev pub reads : (c : Class) → List Rec → Got (Tree c)
reads c rs = read (c ∷ []) (λ v. v.0) rs

-- spelled records are tidy
abbrev pub SpelledTidy : Type 0
SpelledTidy = (ρ : ℕ → Name) (ks ws : List ℕ) → Tidy (spell ρ ks ws)

-- reading what was flattened gives the tree and the rest
abbrev pub ReadsBack : Type 0
ReadsBack = (c : Class) (v : Tree c) (k : List Rec) → Writable c v → reads c (flat_part c v k) ≡ got v k

-- what is read flattens to the records read
abbrev pub FlattensBack : Type 0
FlattensBack = (c : Class) (rs : List Rec) (v : Tree c) (rest : List Rec) → Tidy rs → reads c rs ≡ got v rest → Writable c v × (rs ≡ flat_part c v rest)

-- equal parts of records are equal trees, whatever follows them
abbrev pub EqualParts : Type 0
EqualParts = (c : Class) (v w : Tree c) (part j k : List Rec) → Tidy (part ++ j) → Tidy (part ++ k) → reads c (part ++ j) ≡ got v j → reads c (part ++ k) ≡ got w k → v ≡ w

-- records that refusal 5 passes are the flattening of a project
abbrev pub WholeProject : Type 0
WholeProject = (rs : List Rec) → Tidy rs → no_project rs ≡ none
    → Writable (one a_project) (project_read rs) × (rs ≡ flat_part (one a_project) (project_read rs) [])

-- the records of a node; none where there is none
abbrev pub part_of : Option Node → List Rec
part_of none = []
part_of (some n) = flat_node n []

-- the records of node i are the flattening of the tree's node i, and past the last node there are none
abbrev pub NodeParts : Type 0
NodeParts = (rs : List Rec) → Tidy rs → no_project rs ≡ none → (i : ℕ) → node_part i rs ≡ part_of (get_elem? (all_nodes (project_read rs)) i)

-- projects whose records outside nodes' locals, equations and probes are equal have one skeleton
abbrev pub SameSkeleton : Type 0
SameSkeleton = (rs ss : List Rec) → Tidy rs → Tidy ss → no_project rs ≡ none → no_project ss ≡ none → shown all rs ≡ shown all ss
    → skeleton (project_read rs) ≡ skeleton (project_read ss)
