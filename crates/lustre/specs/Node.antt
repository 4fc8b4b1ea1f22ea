-- `check_node`, lib.rs 331.
-- Assumes nothing: these are definitions.
use Rattle.std.specs.Prelude.{ℕ, suc, false, ◌&&◌, List, [], ◌∷◌, ◌++◌, map, eqb, length, if◌then◌else◌}
use Rattle.std.proofs.Math.Option.{Option, none, some}
use Rattle.lustre.specs.Name.{Name, ◌among◌, lookup}
use Rattle.lustre.specs.Types.{Ty, members}
use Rattle.lustre.specs.Expr.{Form, form, integer, temporal, iterator, calling, other, contains_temporal}
use Rattle.lustre.specs.Project.{Port, NodeKind, Function, Operator, Imported, Equation, Node, Heading, is_function, port_names}
use Rattle.lustre.specs.Line.{Note, Remark, plain, bare, about}
use Rattle.lustre.specs.Resolve.{Scope, within_node, compatible}
use Rattle.lustre.specs.Init.{pres}
use Rattle.lustre.specs.Placement.{nested}
use Rattle.lustre.specs.Infer.{infer}
use Rattle.lustre.specs.Deps.{defined}
use Rattle.lustre.specs.Walk.{search, path_of, looks_of}

-- each name that stands before, among those seen or in this list
unfoldable pub repeated : ℕ → List Name → List Name → List Note
repeated code seen [] = []
repeated code seen (a ∷ as') = (if a among seen then about code a ∷ [] else []) ++ repeated code (a ∷ seen) as'

-- each name that is not among the known ones
unfoldable pub absent : ℕ → List Name → List Name → List Note
absent code known [] = []
absent code known (a ∷ as') = if a among known then absent code known as' else about code a ∷ absent code known as'

-- E0060: a line for each name of the path, numbered
unfoldable pub path_notes : ℕ → List Name → List Note
path_notes i [] = []
path_notes i (a ∷ as') = record { code = 60; step = some i; name = some a } ∷ path_notes (suc i) as'

unfoldable pub loop_notes : Option (List Name) → List Note
loop_notes none = []
loop_notes (some path) = path_notes 0 path

-- lib.rs 383: E0020 or E0022, then E0021, name by name
unfoldable pub assigns : List Name → List Name → List Name → List Name → List Note
assigns known inputs seen [] = []
assigns known inputs seen (a ∷ as') =
    (if a among known then (if a among inputs then about 22 a ∷ [] else []) else about 20 a ∷ [])
    ++ (if a among seen then about 21 a ∷ [] else [])
    ++ assigns known inputs (a ∷ seen) as'

-- lib.rs 424: the hint and the type wanted are those of the one name assigned
unfoldable pub wanted : List Port → List Name → Option Ty
wanted env [] = none
wanted env (a ∷ []) = lookup a env
wanted env (a ∷ b ∷ bs) = none

-- this code where a value of type t is given to the name a whose declared type, if it has one, is another once both are resolved
unfoldable pub bound_one : Scope → ℕ → Name → Ty → Option Ty → List Note
bound_one Γ code a t none = []
bound_one Γ code a t (some want) = if compatible Γ.alias want t then [] else about code a ∷ []

-- no tuple: E0040 for one name, lib.rs 440, E0041 for none or several, lib.rs 459
unfoldable pub bound_plain : Scope → List Port → List Name → Ty → List Note
bound_plain Γ env [] t = bare 41 ∷ []
bound_plain Γ env (a ∷ []) t = bound_one Γ 40 a t (lookup a env)
bound_plain Γ env (a ∷ b ∷ bs) t = bare 41 ∷ []

-- request 2.8, E0043: each name and the output at its position
unfoldable pub bound_each : Scope → List Port → List Name → List Port → List Note
bound_each Γ env [] os = []
bound_each Γ env (a ∷ as') [] = []
bound_each Γ env (a ∷ as') (o ∷ os) = bound_one Γ 43 a o.1 (lookup a env) ++ bound_each Γ env as' os

unfoldable pub outputs_in : Option Heading → List Port
outputs_in none = []
outputs_in (some sig) = sig.outputs

-- the outputs of the node that a right-hand side of this form calls; none where it is itself no call
unfoldable pub called_outputs : Scope → Form → List Port
called_outputs Γ (integer v) = []
called_outputs Γ temporal = []
called_outputs Γ iterator = []
called_outputs Γ (calling f) = outputs_in (Γ.node f)
called_outputs Γ other = []

-- request 2.8, a tuple of n members: E0042 where there is another number of names, else E0043
unfoldable pub bound_tuple : Scope → List Port → List Name → Form → ℕ → List Note
bound_tuple Γ env as' f n = if eqb n (length as') then bound_each Γ env as' (called_outputs Γ f) else bare 42 ∷ []

unfoldable pub bound_as : Scope → List Port → List Name → Form → Ty → Option ℕ → List Note
bound_as Γ env as' f t none = bound_plain Γ env as' t
bound_as Γ env as' f t (some n) = bound_tuple Γ env as' f n

-- the names assigned and the type of their right-hand side, of a form
unfoldable pub bound : Scope → List Port → List Name → Form → Option Ty → List Note
bound Γ env as' f none = []
bound Γ env as' f (some t) = bound_as Γ env as' f t (members t)

-- lib.rs 378 to 472: one equation, where names before it are assigned
unfoldable pub equation_notes : Scope → Node → List Port → List Name → Equation → List Note
equation_notes Γ n env seen q =
    let typed = infer (within_node Γ env) (is_function n.kind) 0 q.rhs (wanted env q.lhs) in
    assigns (port_names env) (port_names n.inputs) seen q.lhs
    ++ (if is_function n.kind && contains_temporal q.rhs then bare 30 ∷ [] else [])
    ++ map (λ at. plain at 70) (pres 0 q.rhs false)
    ++ map (λ at. plain at 146) (nested q.rhs)
    ++ typed.1
    ++ bound Γ env q.lhs (form q.rhs) typed.0

unfoldable pub of_equation : ℕ → Note → Remark
of_equation i m = record { equation = some i; note = m }

unfoldable pub of_node : Note → Remark
of_node m = record { equation = none; note = m }

unfoldable pub equations_remarks : Scope → Node → List Port → List Name → ℕ → List Equation → List Remark
equations_remarks Γ n env seen i [] = []
equations_remarks Γ n env seen i (q ∷ qs) =
    map (of_equation i) (equation_notes Γ n env seen q)
    ++ equations_remarks Γ n env (q.lhs ++ seen) (suc i) qs

-- lib.rs 495: an operator is searched, and since request 2.6 a function too; imported nodes have been left before
unfoldable pub cycle_notes : NodeKind → List Equation → List Note
cycle_notes Function qs = loop_notes (path_of (search qs))
cycle_notes Operator qs = loop_notes (path_of (search qs))
cycle_notes Imported qs = []

-- the looks along an edge in one node
unfoldable pub looks : NodeKind → List Equation → ℕ
looks Function qs = looks_of (search qs)
looks Operator qs = looks_of (search qs)
looks Imported qs = 0

-- lib.rs 353 to 376: E0010, E0011, E0012
unfoldable pub opening_notes : Node → List Note
opening_notes n =
    let ins = port_names n.inputs in
    let outs = port_names n.outputs in
    repeated 10 [] ins ++ repeated 11 ins outs ++ repeated 12 (ins ++ outs) (port_names n.locals)

-- lib.rs 475 to 520: E0050, W0051, E0060, E0150
unfoldable pub closing_notes : Node → List Port → List Note
closing_notes n env =
    let assigned = defined n.equations in
    absent 50 assigned (port_names n.outputs)
    ++ absent 51 assigned (port_names n.locals)
    ++ cycle_notes n.kind n.equations
    ++ absent 150 (port_names env) n.probes

unfoldable pub body_remarks : Scope → Node → List Remark
body_remarks Γ n =
    let env = n.inputs ++ n.outputs ++ n.locals in
    map of_node (opening_notes n)
    ++ equations_remarks Γ n env [] 0 n.equations
    ++ map of_node (closing_notes n env)

-- lib.rs 339: E0002 or nothing
unfoldable pub imported_remarks : List Equation → List Remark
imported_remarks [] = []
imported_remarks (q ∷ qs) = of_node (bare 2) ∷ []

unfoldable pub remarks_as : NodeKind → Scope → Node → List Remark
remarks_as Function Γ n = body_remarks Γ n
remarks_as Operator Γ n = body_remarks Γ n
remarks_as Imported Γ n = imported_remarks n.equations

unfoldable pub node_remarks : Scope → Node → List Remark
node_remarks Γ n = remarks_as n.kind Γ n
