-- `nodes::check_body` meets its contract. Assumes nothing.
use native.Mathlib.Omega.{arith}
use Rattle.lustre.specs.Project.{skeleton}
use Rattle.lustre.specs.Resolve.{context}
use Rattle.scope.proofs.Sets.{holds_none}
use Rattle.scope.proofs.World.{tables_led}
use Rattle.nodes.proofs.Body.{opened, body_reports}
use Rattle.nodes.proofs.check_body.Goals.{After-open_node-lists}
use Rattle.nodes.proofs.check_body.Goals as goal

pub invariant_of-ctx : goal.invariant_of-ctx
invariant_of-ctx c =
    let g = c.requires.node.0 in
    let o = c.open_node-lists.ensures g (holds_none g.model.text c.new-ins.ensures) in
    record { led = tables_led o.declared }

pub check_equations-probes-requires : goal.check_equations-probes-requires
check_equations-probes-requires c =
    let g = c.requires.node.0 in
    let o = c.open_node-lists.ensures g (holds_none g.model.text c.new-ins.ensures) in
    record { node = opened g o.declared o.lists }

pub close_node-looks-requires : goal.close_node-looks-requires
close_node-looks-requires c =
    let g = c.requires.node.0 in
    let o = c.open_node-lists.ensures g (holds_none g.model.text c.new-ins.ensures) in
    let n = opened g o.declared o.lists in
    let e = c.check_equations-probes.ensures n c.requires.node.1 c.requires.spot.0 o.ins (holds_none g.model.text c.new-assigned.ensures) c.requires.blank in
    (n, omega (arith, e.next, o.lists.equations))

pub clear_node-requires : goal.clear_node-requires
clear_node-requires c =
    let g = c.requires.node.0 in
    let o = c.open_node-lists.ensures g (holds_none g.model.text c.new-ins.ensures) in
    record { node = opened g o.declared o.lists }

pub returns : goal.returns
returns c = λ g f other.
    let o = c.open_node-lists.ensures g (holds_none g.model.text c.new-ins.ensures) in
    let n = opened g o.declared o.lists in
    let e = c.check_equations-probes.ensures n f c.requires.spot.0 o.ins (holds_none g.model.text c.new-assigned.ensures) c.requires.blank in
    let j = c.close_node-looks.ensures n (omega (arith, e.next, o.lists.equations)) other e.assigned e.graph in
    let k = c.clear_node.ensures n e.assigned e.graph in
    record {
      reports = body_reports c.requires.spot.0 c.requires.spot.1 (context (skeleton g.model.P)) g.n other o.noted e.reports j.noted;
      looked = j.looked;
      few = j.few;
      declared = k.0;
      blank = k.1;
    }
