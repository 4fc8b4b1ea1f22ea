-- `equations::add_edges` meets its contract. Assumes nothing.
use native.Mathlib.Omega.{arith}
use mathlib.Core.Path.{refl}
use Rattle.equations.proofs.Edges as edges
use Rattle.equations.proofs.add_edges.Goals as goal

pub overflow_add-start-2 : goal.overflow_add-start-2
overflow_add-start-2 c = omega (arith, edges.side_inside c.requires)

pub immediate_reads-requires : goal.immediate_reads-requires
immediate_reads-requires c = edges.side_of c.requires refl

pub returns : goal.returns
returns c = λ g inj. edges.edges_added g inj c.new-row.ensures (c.immediate_reads.ensures (edges.side_of g refl)) (c.join_names.ensures (edges.names_of g) inj)
