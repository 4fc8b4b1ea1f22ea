-- What the functions on one node ask, and what they answer.
-- Assumes nothing: these are definitions.
use Rattle.std.specs.Prelude.{ℕ, ◌+◌, ◌≤◌, ◌<◌, ◌≡◌, false, List, [], ◌∷◌, ◌++◌, map}
use Rattle.lustre.specs.Name.{◌among◌}
use Rattle.lustre.specs.Project.{Port, Equation, Node, skeleton, port_names}
use Rattle.lustre.specs.Line.{Note, bare}
use Rattle.lustre.specs.Resolve.{context}
use Rattle.lustre.specs.Deps.{defined, read_by}
use Rattle.lustre.specs.Node.{equations_remarks, looks, opening_notes, closing_notes}
use Rattle.lustre.specs.Report.{of_place, node_lines}
use Rattle.input.specs.Depths.{ShallowNode}
use Rattle.standing.specs.Standing.{source, NodeAt, list_size, equation_size, outputs_from, locals_from, equations_from}
use Rattle.lines.specs.Lines.{Noted}
use Rattle.lines.specs.declared.Spot.{Spot}
use Rattle.lines.specs.declared.Lines.{Lines}
use Rattle.types.specs.Value.{Naming}
use Rattle.types.specs.declared.context.Context.{Context}
use Rattle.loops.specs.Rows.{has}
use Rattle.scope.specs.Model.{Model, Numbered}
use Rattle.scope.specs.Tables.{records, Declared}
use Rattle.scope.specs.Sets.{Holds}
use Rattle.scope.specs.Writes.{Reports}
use Rattle.nodes.specs.declared.Opened.{Opened}

-- no name has an edge
pub record Blank (graph : List ℕ) : Type 0 where
  pub empty : (a b : ℕ) → a < 512 → b < 512 → has graph a b ≡ false

-- the ports and locals of a node
abbrev pub env_of : Node → List Port
env_of n = n.inputs ++ n.outputs ++ n.locals

-- a node stands at a record of a model
pub record StandingNode {ks ws : List ℕ} (g : Model ks ws) (n : Node) (at : ℕ) : Type 0 where
  pub stands : NodeAt (records g) n at
  pub shallow : ShallowNode n
  pub numbered : Numbered g.text g.names n.equations

-- a node before its check: no port or local is in force
pub record NodeGiven (ks ws sc : List ℕ) (at : ℕ) : Type 0 where
  pub model : Model ks ws
  pub n : Node
  pub node : StandingNode model n at
  pub declared : Declared model [] sc

-- a node in its check: its ports and locals are in force
pub record NodeOpen (ks ws sc : List ℕ) (at : ℕ) : Type 0 where
  pub model : Model ks ws
  pub n : Node
  pub node : StandingNode model n at
  pub declared : Declared model (env_of n) sc

-- what the check leaves of the graph: an edge for each name read in the same instant
pub record GraphOf {ks ws : List ℕ} (g : Model ks ws) (n : Node) (graph : List ℕ) : Type 0 where
  pub edges : (a b : ℕ) → a < 512 → b < 512 → has graph a b ≡ (g.text b among read_by (g.text a) n.equations)

-- where the lists of the node n at a record are
pub record ListsAt (n : Node) (at : ℕ) (r : Opened) : Type 0 where
  pub inputs : r.inputs ≡ at + 1
  pub outputs : r.outputs ≡ outputs_from n at
  pub locals : r.locals ≡ locals_from n at
  pub equations : r.equations ≡ equations_from n at

-- a node in its check, whose lists are in these places
pub record InCheck (ks ws sc : List ℕ) (r : Opened) : Type 0 where
  pub at : ℕ
  pub node : NodeOpen ks ws sc at
  pub lists : ListsAt node.n at r

abbrev pub InCheckOf : Context → Opened → Type 0
InCheckOf x r = InCheck x.records.kinds.now x.records.words.now x.scope.now.entries r

-- what the check of all equations does
pub record EquationsChecked {ks ws : List ℕ} (g : Model ks ws) (n : Node) (list : ℕ) (q : Spot) (l : Lines) (r : ℕ) (set' graph' : List ℕ) (l' : Lines) : Type 0 where
  pub next : r ≡ list + list_size equation_size n.equations
  pub reports : Reports g.number (map (of_place q.number) (equations_remarks (context (skeleton g.P)) n (env_of n) [] 0 n.equations)) l l'
  pub assigned : Holds g.text (defined n.equations) set'
  pub graph : GraphOf g n graph'

-- what the start of a node's check does
pub record NodeOpened {ks ws : List ℕ} (g : Model ks ws) (n : Node) (at : ℕ) (q : Spot) (l : Lines) (r : Opened) (sc' ins' : List ℕ) (l' : Lines) : Type 0 where
  pub lists : ListsAt n at r
  pub declared : Declared g (env_of n) sc'
  pub ins : Holds g.text (port_names n.inputs) ins'
  pub noted : Noted g.number q (opening_notes n) l l'

-- lines and looks of a node
pub record NodeClosed {ks ws : List ℕ} (g : Model ks ws) (n : Node) (q : Spot) (l : Lines) (r : ℕ) (l' : Lines) : Type 0 where
  pub noted : Noted g.number q (closing_notes n (env_of n)) l l'
  pub looked : r ≡ looks n.kind n.equations
  pub few : r ≤ 262144

-- what the check of a node does: its lines, its looks, and nothing is left of it in the scope and in the graph
pub record NodeChecked {ks ws : List ℕ} (g : Model ks ws) (n : Node) (number : ℕ) (l : Lines) (r : ℕ) (sc' graph' : List ℕ) (l' : Lines) : Type 0 where
  pub reports : Reports g.number (node_lines (context (skeleton g.P)) number n) l l'
  pub looked : r ≡ looks n.kind n.equations
  pub few : r ≤ 262144
  pub declared : Declared g [] sc'
  pub blank : Blank graph'

-- a node stands at a place of any records
pub record ImportedHere (ks ws : List ℕ) (at : ℕ) : Type 0 where
  pub text : Naming
  pub n : Node
  pub stands : NodeAt (source ks ws text) n at
  pub shallow : ShallowNode n

-- E0002 or nothing
abbrev pub imported_notes : List Equation → List Note
imported_notes [] = []
imported_notes (q ∷ qs) = bare 2 ∷ []
