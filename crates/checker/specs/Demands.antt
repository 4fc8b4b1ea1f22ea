-- Demand 3, what one equation can move, and demand 2's sentence on E0060, of the function `check_project`: what holds of all calls that it answers with a report. A name in
-- a line counts as its text.
-- Assumes nothing: these are definitions and statements, proved in proofs/.
use Rattle.std.specs.Prelude.{ℕ, ◌≤◌, ◌≡◌, true, false, length, take}
use mathlib.Core.List.{List, [], map, Memᴰ}
use Rattle.std.proofs.Math.Option.{some}
use Rattle.std.proofs.Math.ListN.{get_elem?}
use Rattle.lustre.specs.Name.{Name}
use Rattle.lustre.specs.Names.{names_of}
use Rattle.lustre.specs.Records.{Rec}
use Rattle.lustre.specs.Project.{Equation, Node, Function, Operator, Imported, Project, all_nodes}
use Rattle.lustre.specs.Grammar.{flat_node, flat_project}
use Rattle.lustre.specs.Walk.{dfs_search, rust_search}
use Rattle.lustre.specs.Report.{followed}
use Rattle.lustre.specs.Answer as Answer
use Rattle.lustre.specs.Answer.{spelled, is_blank, project_of}
use Rattle.lustre.specs.declared.Line.{Line}
use Rattle.lustre.specs.declared.Answer.{Answer}
use Rattle.lustre.specs.declared.Answer.TheVariants.{Report}
use Rattle.demands.specs.Parts.{all, shown, node_part}
use Rattle.demands.specs.Loops.{Closed, Cyclic, NoArrows}
use Rattle.demands.specs.Demand3.{stray, Said, said, about, about_no_node}
use Rattle.demands.specs.OneEquation.{OneMoves, SomeMove, Replaces}
use Rattle.project.specs.Demands.{loop_lines, path_lines, shown_lines, WithoutRecords}
use Rattle.checker.specs.Call.{Checked}

-- a call of `check_project`: what it was lent, what it answered, what the work memory and the lines hold after it, and the contract
pub record Check : Type 0 where
  pub kinds : List ℕ
  pub words : List ℕ
  pub text : List ℕ
  pub work : List ℕ
  pub lines : List Line
  pub answer : Answer
  pub work_after : List ℕ
  pub lines_after : List Line
  pub checked : Checked kinds words text work lines answer work_after lines_after

-- its answer is a report
pub record Reported (c : Check) : Type 0 where
  pub count : ℕ
  pub edges : ℕ
  pub is : c.answer ≡ Report count edges

-- its records, where a name word counts as its name's text
abbrev pub records : Check → List Rec
records c = spelled c.kinds c.words c.text

-- the records that its project is read from: its own; a blank file has none, and counts as the records of a project without packages
abbrev pub project_records : Check → List Rec
project_records c = Answer.project_records c.kinds c.words c.text

-- the project that they are
abbrev pub project : Check → Project
project c = project_of c.kinds c.words c.text

-- the lines below the report's count after the call, where a name counts as its text
unfoldable pub lines_of : (c : Check) → Reported c → List Said
lines_of c r = map (said (names_of c.text)) (take r.count c.lines_after)

-- What a report is about: a blank file has no record, and its project no package; the records of any other are those of the project. Node by
-- node they are its records too, and the edges are those that the search follows.
pub record ReportOf (c : Check) (r : Reported c) : Type 0 where
  pub blank : is_blank c.kinds c.text ≡ true → (records c ≡ []) × (project c ≡ [])
  pub written : is_blank c.kinds c.text ≡ false → records c ≡ flat_project (project c) []
  pub node : (i : ℕ) (n : Node) → get_elem? (all_nodes (project c)) i ≡ some n → node_part i (records c) ≡ flat_node n []
  pub edges : r.edges ≡ followed (project c)

-- every report is about a project
abbrev pub Reports : Type 0
Reports = (c : Check) (r : Reported c) → ReportOf c r

-- Demand 3. Two calls get a report, and their projects differ at most in nodes' locals, equations and probes: the lines about no node are the
-- same, and each node that is equal throughout has the same lines in both.
abbrev pub Demand3 : Type 0
Demand3 = (c d : Check) (r : Reported c) (s : Reported d)
    → shown all (project_records c) ≡ shown all (project_records d)
    → (about_no_node (lines_of c r) ≡ about_no_node (lines_of d s))
    × ((i : ℕ) → node_part i (project_records c) ≡ node_part i (project_records d) → about i (lines_of c r) ≡ about i (lines_of d s))

-- What one equation can move, request 2.13. Two calls get a report, and their records are equal but for the right-hand side of equation j of
-- node i: all lines but that equation's and that node's E0060 are equal, in order, and where the node is imported all lines are.
abbrev pub OneEquation : Type 0
OneEquation = (c d : Check) (r : Reported c) (s : Reported d) (i j : ℕ)
    → OneMoves i j (project_records c) (project_records d) (lines_of c r) (lines_of d s)

-- That a tree is meant: the records are so exactly if the second project is the first with another right-hand side there.
abbrev pub TreeMeant : Type 0
TreeMeant = (c d : Check) (r : Reported c) (s : Reported d) (i j : ℕ)
    → Replaces i j (project_records c) (project_records d) (project c) (project d)

-- The same of each node by itself, and of several of its equations: the projects differ at most in nodes' locals, equations and probes, and in
-- node i at most in the right-hand sides of the equations js.
abbrev pub SomeEquations : Type 0
SomeEquations = (c d : Check) (r : Reported c) (s : Reported d) (i : ℕ) (js : List ℕ)
    → SomeMove i js (project_records c) (project_records d) (lines_of c r) (lines_of d s)

-- Two editions of a model that differ only in unused names get equal lines, where both get a report (request 2.2). Their records are then
-- equal with each name as its text, whatever its number; the number of edges followed is the same too.
abbrev pub UnusedNames : Type 0
UnusedNames = (c d : Check) (r : Reported c) (s : Reported d)
    → project_records c ≡ project_records d
    → (lines_of c r ≡ lines_of d s) × (r.edges ≡ s.edges)

-- a call without records that refusals 1 and 2 let pass, request 2.1
abbrev pub NoRecords : Type 0
NoRecords = (c : Check) → c.kinds ≡ [] → c.words ≡ [] → length c.text ≤ 16384 → 4096 ≤ length c.work
    → WithoutRecords c.text c.answer c.lines c.lines_after c.work c.work_after

-- no line has a number that is no name's
abbrev pub NoStray : Type 0
NoStray = (c : Check) (r : Reported c) (l : Said) → Memᴰ l (lines_of c r) → (w : ℕ) → l.name ≡ stray w → ⊥

-- what holds of an operator and of a function with the equations qs, node i of a call that gets a report
pub record SearchedLines (c : Check) (r : Reported c) (i : ℕ) (qs : List Equation) : Type 0 where
  -- a line about it has code 60 only if there is a directed cycle
  pub only_if : (l : Said) → Memᴰ l (about i (lines_of c r)) → l.code ≡ 60 → Cyclic qs
  -- and if there is one, some line has it
  pub if_so : Cyclic qs → (l : Said) × Memᴰ l (about i (lines_of c r)) × (l.code ≡ 60)
  -- these lines are then together one closed path, the one that the Rust's `dfs` finds in the same graph
  pub path : Cyclic qs → (p : List Name) × Closed qs p × (loop_lines i (lines_of c r) ≡ path_lines i 0 p) × (dfs_search qs ≡ some p)

-- what holds of an operator besides
pub record OperatorLines (c : Check) (r : Reported c) (i : ℕ) (qs : List Equation) : Type 0 where
  pub searched : SearchedLines c r i qs
  -- where no arrow stands in its equations, its lines are those of the path that the Rust finds
  pub rust : NoArrows qs → loop_lines i (lines_of c r) ≡ shown_lines i (rust_search qs)

-- Demand 2 on E0060, with request 2.6, of node i of a call that gets a report; an imported node gets none.
abbrev pub Demand2Loops : Type 0
Demand2Loops = (c : Check) (r : Reported c) (i : ℕ) (n : Node) → get_elem? (all_nodes (project c)) i ≡ some n
    → (n.kind ≡ Operator → OperatorLines c r i n.equations)
    × (n.kind ≡ Function → SearchedLines c r i n.equations)
    × (n.kind ≡ Imported → loop_lines i (lines_of c r) ≡ [])
