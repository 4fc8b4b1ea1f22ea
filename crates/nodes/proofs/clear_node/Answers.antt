-- `nodes::clear_node` meets its contract. Assumes nothing.
use Rattle.nodes.proofs.Opens.{inputs_here, outputs_here, locals_here}
use Rattle.nodes.proofs.Clears.{cleared_scope, cleared_blank}
use Rattle.nodes.proofs.clear_node.Goals as goal

pub returns : goal.returns
returns c = λ g h w. (cleared_scope g.node g.lists c.forget_ports.ensures c.forget_ports-2.ensures c.forget_ports-3.ensures, cleared_blank g.node.model g.node.n h w c.clear_rows.ensures)
