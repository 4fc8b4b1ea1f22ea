-- What the functions on one equation ask, and what they answer.
-- Assumes nothing: these are definitions.
use Rattle.std.specs.Prelude.{ℕ, ◌+◌, ◌<◌, ◌≡◌, Bool, false, ◌&&◌, ◌||◌, List, [], ◌∷◌, ◌++◌, if◌then◌else◌}
use Rattle.std.proofs.Math.Option.{Option}
use Rattle.lustre.specs.Name.{Name, ◌among◌, lookup}
use Rattle.lustre.specs.Types.{Ty}
use Rattle.lustre.specs.Expr.{Expr, contains_temporal, form}
use Rattle.lustre.specs.Project.{Port, Equation, Node, skeleton, port_names, is_function}
use Rattle.lustre.specs.Line.{Note, bare}
use Rattle.lustre.specs.Resolve.{context}
use Rattle.lustre.specs.Init.{pres}
use Rattle.lustre.specs.Placement.{nested}
use Rattle.lustre.specs.Infer.{infer}
use Rattle.lustre.specs.Deps.{reads}
use Rattle.lustre.specs.Node.{wanted, bound_one, bound_each, bound_tuple, bound, equation_notes}
use Rattle.input.specs.Depths.{ShallowExpr}
use Rattle.standing.specs.Standing.{source, NamesAt, ExprAt, EquationAt, equation_size}
use Rattle.lines.specs.Lines.{Noted}
use Rattle.lines.specs.declared.Spot.{Spot}
use Rattle.lines.specs.declared.Lines.{Lines}
use Rattle.types.specs.Value.{Naming}
use Rattle.types.specs.declared.context.Context.{Context}
use Rattle.rules.specs.World.{Typed, Listed}
use Rattle.body.specs.Body.{notes}
use Rattle.loops.specs.Rows.{has}
use Rattle.scope.specs.Tables.{records, scope_in, Scoped}
use Rattle.scope.specs.Sets.{Holds}

-- E0030, E0070 and E0146 of a right-hand side
abbrev pub side_notes : Bool → Expr → List Note
side_notes function e = (if function && contains_temporal e then bare 30 ∷ [] else []) ++ notes 70 (pres 0 e false) ++ notes 146 (nested e)

-- a model whose tables stand in the scope of a context
abbrev pub ScopedOf : Context → Type 0
ScopedOf x = Scoped x.records.kinds.now x.records.words.now x.scope.now.entries

-- the names xs assigned stand in the list at a place of a model in whose scope they are looked up
pub record LeftGiven (ks ws sc : List ℕ) (list : ℕ) : Type 0 where
  pub scoped : Scoped ks ws sc
  pub xs : List Name
  pub listed : NamesAt (records scoped.model) xs list

abbrev pub LeftOf : Context → ℕ → Type 0
LeftOf x list = LeftGiven x.records.kinds.now x.records.words.now x.scope.now.entries list

-- the type t stands at a place of such a model
pub record OutputGiven (ks ws sc : List ℕ) (at : ℕ) : Type 0 where
  pub scoped : Scoped ks ws sc
  pub t : Ty
  pub typed : Typed (records scoped.model) t at

abbrev pub OutputOf : Context → ℕ → Type 0
OutputOf x at = OutputGiven x.records.kinds.now x.records.words.now x.scope.now.entries at

-- the note of the name of that number where its declared type is not t
abbrev pub output_notes : {ks ws sc : List ℕ} {at : ℕ} → OutputGiven ks ws sc at → ℕ → List Note
output_notes g name =
    let w = g.scoped in
    let x = w.model.text name in
    bound_one (context (skeleton w.model.P)) 43 x g.t (lookup x w.env)

-- the names assigned, and the outputs ps in the list at a place
pub record OutputsGiven (ks ws sc : List ℕ) (list outputs : ℕ) : Type 0 where
  pub left : LeftGiven ks ws sc list
  pub ps : List Port
  pub listed : Listed (records left.scoped.model) ps outputs

abbrev pub OutputsOf : Context → ℕ → ℕ → Type 0
OutputsOf x list outputs = OutputsGiven x.records.kinds.now x.records.words.now x.scope.now.entries list outputs

-- the notes of the names, each beside the output at its position
abbrev pub outputs_notes : {ks ws sc : List ℕ} {list outputs : ℕ} → OutputsGiven ks ws sc list outputs → List Note
outputs_notes g =
    let w = g.left.scoped in
    bound_each (context (skeleton w.model.P)) w.env g.left.xs g.ps

-- the names assigned, and the right-hand side e at a place
pub record SidesGiven (ks ws sc : List ℕ) (list start : ℕ) : Type 0 where
  pub left : LeftGiven ks ws sc list
  pub e : Expr
  pub stands : ExprAt (records left.scoped.model) e start
  pub shallow : ShallowExpr e

abbrev pub SidesOf : Context → ℕ → ℕ → Type 0
SidesOf x list start = SidesGiven x.records.kinds.now x.records.words.now x.scope.now.entries list start

-- E0042 or E0043 where the right-hand side is a tuple of so many members
abbrev pub tuple_notes : {ks ws sc : List ℕ} {list start : ℕ} → SidesGiven ks ws sc list start → ℕ → List Note
tuple_notes g members =
    let w = g.left.scoped in
    bound_tuple (context (skeleton w.model.P)) w.env g.left.xs (form g.e) members

-- E0040 to E0043 where the right-hand side is of this type, if it has one
abbrev pub bound_notes : {ks ws sc : List ℕ} {list start : ℕ} → SidesGiven ks ws sc list start → Option Ty → List Note
bound_notes g t =
    let w = g.left.scoped in
    bound (context (skeleton w.model.P)) w.env g.left.xs (form g.e) t

-- the notes of inference, and E0040 to E0043
abbrev pub type_notes : {ks ws sc : List ℕ} {list start : ℕ} → SidesGiven ks ws sc list start → Bool → List Note
type_notes g function =
    let w = g.left.scoped in
    let typed = infer (scope_in w.model w.env) function 0 g.e (wanted w.env g.left.xs) in
    typed.1 ++ bound_notes g typed.0

-- an equation at a place
pub record EquationGiven (ks ws sc : List ℕ) (at : ℕ) : Type 0 where
  pub scoped : Scoped ks ws sc
  pub eq : Equation
  pub stands : EquationAt (records scoped.model) eq at
  pub shallow : ShallowExpr eq.rhs

abbrev pub EquationOf : Context → ℕ → Type 0
EquationOf x at = EquationGiven x.records.kinds.now x.records.words.now x.scope.now.entries at

-- what the check of an equation does in a node whose inputs are in the set `ins`, where the names `seen` are assigned before
pub record EquationChecked {ks ws sc : List ℕ} {at : ℕ} (g : EquationGiven ks ws sc at) (q : Spot) (ins set : List ℕ) (l : Lines) (r : ℕ) (set' : List ℕ) (l' : Lines) : Type 0 where
  pub next : r ≡ at + equation_size g.eq
  pub noted : (node : Node) (seen : List Name)
      → is_function node.kind ≡ q.function → Holds g.scoped.model.text (port_names node.inputs) ins → Holds g.scoped.model.text seen set
      → Noted g.scoped.model.number q (equation_notes (context (skeleton g.scoped.model.P)) node g.scoped.env seen g.eq) l l'
  pub assigned : (seen : List Name) → Holds g.scoped.model.text seen set → Holds g.scoped.model.text (g.eq.lhs ++ seen) set'

-- an equation at a place of any records
pub record EquationHere (ks ws : List ℕ) (at : ℕ) : Type 0 where
  pub text : Naming
  pub eq : Equation
  pub stands : EquationAt (source ks ws text) eq at

-- graph' is graph with an edge from each name assigned to each name that the right-hand side reads
pub record EdgesAdded (text : Naming) (eq : Equation) (graph graph' : List ℕ) : Type 0 where
  pub edges : (a b : ℕ) → a < 512 → b < 512 → has graph' a b ≡ (has graph a b || ((text a among eq.lhs) && (text b among reads eq.rhs)))
