-- Demand 2, second sentence, with request 2.6: an operator or a function gets E0060 exactly if its immediate-dependency graph has a
-- directed cycle, and a closed path of its edges is shown.
-- Assumes nothing: these are definitions and statements, proved in proofs/.
use Rattle.std.specs.Prelude.{ℕ, ◌≤◌, ◌≡◌, eqb, length}
use mathlib.Core.List.{List, [], ◌∷◌, ◌++◌, map, Memᴰ}
use Rattle.std.proofs.Math.Option.{some}
use Rattle.std.proofs.Math.ListN.{get_elem?}
use Rattle.lustre.specs.Name.{Name}
use Rattle.lustre.specs.Expr.{Expr, arrow, visit}
use Rattle.lustre.specs.Project.{Equation, NodeKind, Node, Function, Operator, Imported, Project, all_nodes}
use Rattle.lustre.specs.Line.{Line}
use Rattle.lustre.specs.Deps.{reads, rust_reads}
use Rattle.lustre.specs.Walk.{search, dfs_search, rust_search, path_of}
use Rattle.lustre.specs.Node.{path_notes, loop_notes, looks, of_node}
use Rattle.lustre.specs.Report.{report, of_place}
use Rattle.demands.specs.Reading.{Each}
use Rattle.demands.specs.Nodes.{about_node, keep}

-- a has an edge to b if some equation has a on its left and reads b in the same instant
abbrev pub Edge : List Equation → Name → Name → Type 0
Edge qs a b = (q : Equation) × Memᴰ q qs × Memᴰ a q.lhs × Memᴰ b (reads q.rhs)

-- each step from x along the names is an edge
unfoldable pub Along : List Equation → Name → List Name → Type 0
Along qs x [] = Unit {0}
Along qs x (y ∷ l) = Edge qs x y × Along qs y l

-- a directed cycle as a closed path: its first name is its last, it has at least two names, and each step is an edge
pub record Closed (qs : List Equation) (c : List Name) : Type 0 where
  pub first : Name
  pub between : List Name
  pub shape : c ≡ first ∷ (between ++ (first ∷ []))
  pub steps : Along qs first (between ++ (first ∷ []))

abbrev pub Cyclic : List Equation → Type 0
Cyclic qs = (c : List Name) × Closed qs c

-- none twice
unfoldable pub Distinct : {A : Type 0} → List A → Type 0
Distinct [] = Unit {0}
Distinct (x ∷ xs) = (Memᴰ x xs → ⊥) × Distinct xs

-- the edges, each once
pub record Edges (qs : List Equation) (es : List (Name × Name)) : Type 0 where
  pub once : Distinct es
  pub sound : (a b : Name) → Memᴰ (a, b) es → Edge qs a b
  pub complete : (a b : Name) → Edge qs a b → Memᴰ (a, b) es

-- the E0060 lines about node i
abbrev pub loop_lines : ℕ → List Line → List Line
loop_lines i ls = keep (λ l. eqb l.remark.note.code 60) (about_node i ls)

-- the lines that show a path at node i: a line a name, its step the place in the path
abbrev pub path_lines : ℕ → List Name → List Line
path_lines i c = map (λ m. of_place i (of_node m)) (path_notes 0 c)

-- no arrow among expressions with their steps
abbrev pub WithoutArrow : List (ℕ × Expr) → Type 0
WithoutArrow es = (at : ℕ) (i b : Expr) → Memᴰ (at, arrow i b) es → ⊥

-- no arrow stands in an expression, under a pre neither: `Expr::visit` shows none
abbrev pub Arrowless : Expr → Type 0
Arrowless e = WithoutArrow (visit 0 e)

-- nor in equations
abbrev pub NoArrows : List Equation → Type 0
NoArrows = Each (λ (q : Equation). Arrowless q.rhs)

-- what holds of an operator and of a function, node i, of kind k
pub record SearchedLines (P : Project) (i : ℕ) (k : NodeKind) (qs : List Equation) : Type 0 where
  -- E0060 lines exactly if there is a directed cycle
  pub exactly : ((loop_lines i (report P) ≡ [] → ⊥) → Cyclic qs) × (Cyclic qs → loop_lines i (report P) ≡ [] → ⊥)
  -- together they are one closed path
  pub path : (loop_lines i (report P) ≡ [] → ⊥) → (c : List Name) × Closed qs c × (loop_lines i (report P) ≡ path_lines i c) × (dfs_search qs ≡ some c)
  -- the Rust's `dfs`, which enters cleared names again, finds the same path in the same graph
  pub dfs : dfs_search qs ≡ path_of (search qs)
  -- at most as many looks as there are edges
  pub count : (es : List (Name × Name)) × Edges qs es × (looks k qs ≤ length es)

-- the E0060 lines that the Rust gives of an operator with the equations qs, node i
abbrev pub rust_lines : ℕ → List Equation → List Line
rust_lines i qs = map (λ m. of_place i (of_node m)) (loop_notes (rust_search qs))

-- what holds of an operator besides
pub record OperatorLines (P : Project) (i : ℕ) (qs : List Equation) : Type 0 where
  pub searched : SearchedLines P i Operator qs
  -- where no arrow stands in its equations, its lines are the Rust's
  pub rust : NoArrows qs → loop_lines i (report P) ≡ rust_lines i qs

-- demand 2 on E0060
abbrev pub Demand2Loops : Type 0
Demand2Loops = (P : Project) (i : ℕ) (n : Node) → get_elem? (all_nodes P) i ≡ some n
    → (n.kind ≡ Operator → OperatorLines P i n.equations)
    × (n.kind ≡ Function → SearchedLines P i Function n.equations)
    × (n.kind ≡ Imported → loop_lines i (report P) ≡ [])

-- in an expression without an arrow the Rust reads the same names
abbrev pub SameReads : Type 0
SameReads = (e : Expr) → Arrowless e → rust_reads e ≡ reads e

-- no loop of the Rust is lost: each edge of its graph is an edge, so that the path that it shows is a closed path here too
abbrev pub RustLoops : Type 0
RustLoops = (qs : List Equation) (c : List Name) → rust_search qs ≡ some c → Closed qs c
