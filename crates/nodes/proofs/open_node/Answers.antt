-- `nodes::open_node` meets its contract. Assumes nothing.
use Prim.Native.Nat.{ℕ, ◌+◌}
use mathlib.Core.Path.{refl, ap, ◌∙◌}
use Rattle.standing.specs.Standing.{ports_size}
use Rattle.scope.proofs.World.{apart}
use Rattle.nodes.proofs.Opens.{inputs_here, outputs_here, locals_here, opened}
use Rattle.nodes.proofs.open_node.Goals as goal

pub declare_ports-locals-requires : goal.declare_ports-locals-requires
declare_ports-locals-requires c =
    let g = c.requires in
    let s = g.node.stands in
    let f = g.node.shallow in
    (outputs_here s f (c.declare_ports-outputs.ensures (inputs_here s f refl) (apart g.model)).next, g.model.few)

pub declare_ports-equations-requires : goal.declare_ports-equations-requires
declare_ports-equations-requires c =
    let g = c.requires in
    let s = g.node.stands in
    let f = g.node.shallow in
    let i = apart g.model in
    let a = (c.declare_ports-outputs.ensures (inputs_here s f refl) i).next in
    (locals_here s f ((c.declare_ports-locals.ensures (outputs_here s f a) i).next ∙ ap (λ (k : ℕ). k + ports_size g.n.outputs) a), g.model.few)

pub returns : goal.returns
returns c = λ g h. opened g h c.add_names.ensures c.declare_ports-outputs.ensures c.declare_ports-locals.ensures c.declare_ports-equations.ensures
