-- What one equation can move, request 2.13: where a right-hand side is replaced, the lines of its equation and its node's E0060 lines may
-- differ, and no other line does.
-- Assumes nothing: these are definitions and statements, proved in proofs/.
use Rattle.std.specs.Prelude.{ℕ, zero, suc, ◌-◌, ◌≡◌, Bool, true, false, ◌&&◌, ◌||◌, not, List, [], ◌∷◌, ◌++◌, eqb, ltb, length, take, drop, if◌then◌else◌}
use Rattle.std.proofs.Math.Option.{none}
use Rattle.lustre.specs.Name.{mem}
use Rattle.lustre.specs.Expr.{Expr, const, bool}
use Rattle.lustre.specs.Project.{Equation, Node, Project}
use Rattle.lustre.specs.Line.{Remark, Line}
use Rattle.lustre.specs.Report.{report}
use Rattle.lustre.specs.Records.{Rec}
use Rattle.lustre.specs.Grammar.{Got, got, stuck, one, an_expression, numbered_rec, flat_project}
use Rattle.lustre.specs.Answer.{no_project, project_read, or_none}
use Rattle.demands.specs.Parts.{starts_node, ends_node, all, shown, node_part}
use Rattle.demands.specs.Nodes.{is_node, keep}
use Rattle.demands.specs.Reading.{Tidy, reads}
use Rattle.demands.specs.Demand3.{Call, Reported, project_records, project, Said, lines_of, about}

-- ---- Equal but for a right-hand side, on records. Nodes are numbered over the project, equations within their node. A node starts at kind 10,
-- 11 or 12, an equation at 13, and behind that stand the list of its names and its right-hand side. Records are equal but for a right-hand
-- side if they are equal once `false` (kind 40, word 0) stands for it in both.

-- what follows the expression that stands first
unfoldable pub past : Got Expr → List Rec
past (got e rest) = rest
past (stuck rest) = rest

-- the list of an equation's names, and `false` for the expression behind the names
unfoldable pub mask_side : List Rec → List Rec
mask_side [] = []
mask_side (l ∷ rs) = l ∷ (take l.number rs ++ (numbered_rec 40 0 ∷ past (reads (one an_expression) (drop l.number rs))))

-- what stands behind a node's first record, with `false` for the right-hand side of its equation j; what follows the node stays
unfoldable pub mask_in : ℕ → List Rec → List Rec
mask_in j [] = []
mask_in zero (r ∷ rs) =
    if ends_node r.kind then r ∷ rs
    else r ∷ (if eqb r.kind 13 then mask_side rs else mask_in zero rs)
mask_in (suc j) (r ∷ rs) =
    if ends_node r.kind then r ∷ rs
    else r ∷ (if eqb r.kind 13 then mask_in j rs else mask_in (suc j) rs)

-- the records with `false` for the right-hand side of equation j of node i; where there is no such equation, the records as they are
unfoldable pub masked : ℕ → ℕ → List Rec → List Rec
masked i j [] = []
masked zero j (r ∷ rs) = r ∷ (if starts_node r.kind then mask_in j rs else masked zero j rs)
masked (suc i) j (r ∷ rs) = r ∷ (if starts_node r.kind then masked i j rs else masked (suc i) j rs)

-- the same for several equations of node i
unfoldable pub masked_all : ℕ → List ℕ → List Rec → List Rec
masked_all i [] rs = rs
masked_all i (j ∷ js) rs = masked i j (masked_all i js rs)

-- a node's records are an imported one's
abbrev pub is_imported : List Rec → Bool
is_imported [] = false
is_imported (r ∷ rs) = eqb r.kind 12

-- ---- The lines of a call, a name counting as its text.

-- a line about node i (place kind 4) that is of an equation whose number is among js, or of the node's loop
abbrev pub may_move : ℕ → List ℕ → Said → Bool
may_move i js l = (eqb l.place 4 && eqb l.number i) && (mem eqb l.equation js || eqb l.code 60)

-- all other lines, in order
abbrev pub others : ℕ → List ℕ → List Said → List Said
others i js = keep (λ l. not (may_move i js l))

-- What is said of the records rs and ss of two projects and of the lines ls and ms of their reports. If the records are equal but for the
-- right-hand side of equation j of node i, all lines but that equation's and that node's E0060 are equal, in order, and where the node is
-- imported all lines are.
abbrev pub OneMoves : ℕ → ℕ → List Rec → List Rec → List Said → List Said → Type 0
OneMoves i j rs ss ls ms = masked i j rs ≡ masked i j ss
    → (others i (j ∷ []) ls ≡ others i (j ∷ []) ms)
    × (is_imported (node_part i rs) ≡ true → ls ≡ ms)

-- The same of one node by itself and of several of its equations, beside demand 3. If the records differ at most in nodes' locals, equations
-- and probes, and in node i at most in the right-hand sides of the equations js, the lines about node i are equal in the same way.
abbrev pub SomeMove : ℕ → List ℕ → List Rec → List Rec → List Said → List Said → Type 0
SomeMove i js rs ss ls ms = shown all rs ≡ shown all ss → node_part i (masked_all i js rs) ≡ node_part i (masked_all i js ss)
    → (about i (others i js ls) ≡ about i (others i js ms))
    × (is_imported (node_part i rs) ≡ true → about i ls ≡ about i ms)

-- This holds of the records, names as texts, and the lines of any two calls that get a report.
abbrev pub OneEquation : Type 0
OneEquation = (c d : Call) (r : Reported c) (s : Reported d) (i j : ℕ) → OneMoves i j (project_records c) (project_records d) (lines_of c r) (lines_of d s)

abbrev pub SomeEquations : Type 0
SomeEquations = (c d : Call) (r : Reported c) (s : Reported d) (i : ℕ) (js : List ℕ) → SomeMove i js (project_records c) (project_records d) (lines_of c r) (lines_of d s)

-- ---- The same of trees, which is what is meant.

-- an equation with another right-hand side; equation j of a list so, of a node, and of node i of a list of nodes
abbrev pub with_rhs : Expr → Equation → Equation
with_rhs new q = record { lhs = q.lhs; rhs = new }

unfoldable pub replace_equations : Expr → ℕ → List Equation → List Equation
replace_equations new j [] = []
replace_equations new zero (q ∷ qs) = with_rhs new q ∷ qs
replace_equations new (suc j) (q ∷ qs) = q ∷ replace_equations new j qs

abbrev pub replace_node : Expr → ℕ → Node → Node
replace_node new j n = record {
  name = n.name;
  kind = n.kind;
  inputs = n.inputs;
  outputs = n.outputs;
  locals = n.locals;
  equations = replace_equations new j n.equations;
  probes = n.probes;
}

unfoldable pub replace_nodes : Expr → ℕ → ℕ → List Node → List Node
replace_nodes new i j [] = []
replace_nodes new zero j (n ∷ ns) = replace_node new j n ∷ ns
replace_nodes new (suc i) j (n ∷ ns) = n ∷ replace_nodes new i j ns

-- a project with another right-hand side of equation j of node i; where there is no such equation, the project as it is
unfoldable pub replace : Expr → ℕ → ℕ → Project → Project
replace new i j [] = []
replace new i j (p ∷ ps) = record { name = p.name; types = p.types; constants = p.constants; nodes = replace_nodes new i j p.nodes }
    ∷ (if ltb i (length p.nodes) then ps else replace new (i - length p.nodes) j ps)

-- `false` for the right-hand side of equation j of node i
abbrev pub literal_false : Expr
literal_false = const bool 0

abbrev pub mask : ℕ → ℕ → Project → Project
mask = replace literal_false

-- masked records are those of the masked project
abbrev pub MaskedRecords : Type 0
MaskedRecords = (rs : List Rec) → Tidy rs → no_project rs ≡ none → (i j : ℕ) → masked i j rs ≡ flat_project (mask i j (project_read rs)) []

-- so records are equal but for that right-hand side exactly if the projects are
abbrev pub MaskedTrees : Type 0
MaskedTrees = (rs ss : List Rec) → Tidy rs → Tidy ss → no_project rs ≡ none → no_project ss ≡ none → (i j : ℕ)
    → (masked i j rs ≡ masked i j ss → mask i j (project_read rs) ≡ mask i j (project_read ss))
    × (mask i j (project_read rs) ≡ mask i j (project_read ss) → masked i j rs ≡ masked i j ss)

-- and projects are so exactly if one is the other with another right-hand side there
abbrev pub MasksReplace : Type 0
MasksReplace = (P Q : Project) (i j : ℕ)
    → (mask i j P ≡ mask i j Q → (new : Expr) × (Q ≡ replace new i j P))
    × ((new : Expr) → Q ≡ replace new i j P → mask i j P ≡ mask i j Q)

-- So records rs and ss are equal but for the right-hand side of equation j of node i exactly if their projects P and Q are such that Q is P with
-- another right-hand side there; this holds of any two calls that get a report.
abbrev pub Replaces : ℕ → ℕ → List Rec → List Rec → Project → Project → Type 0
Replaces i j rs ss P Q = (masked i j rs ≡ masked i j ss → (new : Expr) × (Q ≡ replace new i j P))
    × ((new : Expr) → Q ≡ replace new i j P → masked i j rs ≡ masked i j ss)

abbrev pub TreeMeant : Type 0
TreeMeant = (c d : Call) (r : Reported c) (s : Reported d) (i j : ℕ) → Replaces i j (project_records c) (project_records d) (project c) (project d)

-- the same lines in a report: of node i, those of an equation whose number is among js, and of its loop; and all others
abbrev pub remark_may_move : List ℕ → Remark → Bool
remark_may_move js r = mem eqb (or_none r.equation) js || eqb r.note.code 60

abbrev pub line_may_move : ℕ → List ℕ → Line → Bool
line_may_move i js l = (is_node l.place && eqb l.number i) && remark_may_move js l.remark

abbrev pub other_lines : ℕ → List ℕ → List Line → List Line
other_lines i js = keep (λ l. not (line_may_move i js l))

-- replacing the right-hand side of an equation leaves the other lines, in order
abbrev pub Replaced : Type 0
Replaced = (P : Project) (new : Expr) (i j : ℕ) (js : List ℕ) → mem eqb j js ≡ true
    → other_lines i js (report P) ≡ other_lines i js (report (replace new i j P))
