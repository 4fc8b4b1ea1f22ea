-- `nodes::close_node` meets its contract. Assumes nothing.
use Rattle.nodes.proofs.Opens.{outputs_here, locals_here, probes_here}
use Rattle.nodes.proofs.Closes.{closed}
use Rattle.nodes.proofs.close_node.Goals as goal

pub returns : goal.returns
returns c = λ g e k h w. closed g.node g.lists e k h w c.absent_ports.ensures c.absent_ports-2.ensures c.check_loops-looks.ensures.few c.check_loops-looks.ensures.noted c.absent_probes.ensures
