-- Demand 3 on the arguments of two calls: document 01, 'In demand 3 a node is meant by its place number'.
-- Assumes nothing: these are definitions and the statement, proved in proofs/.
use Rattle.std.specs.Prelude.{ℕ, ◌≡◌, true, false, ◌&&◌, not, eqb, ltb, length, take}
use mathlib.Core.List.{List, map, Memᴰ}
use Rattle.lustre.specs.Name.{Name}
use Rattle.lustre.specs.Names.{names_of, name_at}
use Rattle.lustre.specs.Records.{Rec}
use Rattle.lustre.specs.Project.{Project}
use Rattle.lustre.specs.Answer as Answer
use Rattle.lustre.specs.Answer.{answer, project_of, lines_after, no_value}
use Rattle.lustre.specs.declared.Line.{Line}
use Rattle.lustre.specs.declared.Answer.TheVariants.{Report}
use Rattle.demands.specs.Parts.{all, shown, node_part}
use Rattle.demands.specs.Nodes.{keep}

-- what a call is lent
pub record Call : Type 0 where
  pub kinds : List ℕ
  pub words : List ℕ
  pub text : List ℕ
  pub work : List ℕ
  pub lines : List Line

-- its answer is a report
pub record Reported (c : Call) : Type 0 where
  pub count : ℕ
  pub edges : ℕ
  pub is : answer c.kinds c.words c.text (length c.work) (length c.lines) ≡ Report count edges

-- the records that its project is read from, where a name word counts as its name's text
abbrev pub project_records : Call → List Rec
project_records c = Answer.project_records c.kinds c.words c.text

-- the project that they are
abbrev pub project : Call → Project
project c = project_of c.kinds c.words c.text

-- a name field: none, a name's text, or a number that is no name's
pub data Mention : Type 0 where
  no_name : Mention
  the_name : Name → Mention
  stray : ℕ → Mention

unfoldable pub mention : List Name → ℕ → Mention
mention names w = elim (eqb w no_value) [ true ↦ no_name | false ↦ elim (ltb w (length names)) [ true ↦ the_name (name_at names w) | false ↦ stray w ] ]

-- a line where a name counts as its text
pub record Said : Type 0 where
  pub code : ℕ
  pub place : ℕ
  pub number : ℕ
  pub equation : ℕ
  pub step : ℕ
  pub name : Mention

unfoldable pub said : List Name → Line → Said
said names l = record { code = l.code; place = l.place; number = l.number; equation = l.equation; step = l.step; name = mention names l.name }

-- the lines below the report's count, in the buffer after the call
unfoldable pub lines_of : (c : Call) → Reported c → List Said
lines_of c r = map (said (names_of c.text)) (take r.count (lines_after c.kinds c.words c.text (length c.work) c.lines))

-- a line is about node i if its place kind is node (4) and its place number is i
abbrev pub about : ℕ → List Said → List Said
about i = keep (λ l. eqb l.place 4 && eqb l.number i)

abbrev pub about_no_node : List Said → List Said
about_no_node = keep (λ l. not (eqb l.place 4))

-- two projects that both get a report and differ at most in nodes' locals, equations and probes: the lines about no node are the same,
-- and each node that is equal throughout has the same lines in both
abbrev pub Demand3 : Type 0
Demand3 = (c d : Call) (r : Reported c) (s : Reported d)
    → shown all (project_records c) ≡ shown all (project_records d)
    → (about_no_node (lines_of c r) ≡ about_no_node (lines_of d s))
    × ((i : ℕ) → node_part i (project_records c) ≡ node_part i (project_records d) → about i (lines_of c r) ≡ about i (lines_of d s))

-- no line has a number that is no name's
abbrev pub NoStray : Type 0
NoStray = (c : Call) (r : Reported c) (l : Said) → Memᴰ l (lines_of c r) → (w : ℕ) → l.name ≡ stray w → ⊥
