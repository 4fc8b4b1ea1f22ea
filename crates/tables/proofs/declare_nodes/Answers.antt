-- `tables::declare_nodes` meets its contract. Assumes nothing.
use native.Mathlib.Omega.{arith}
use Rattle.tables.proofs.Repeats.{spotted}
use Rattle.tables.proofs.Nodes.{declaring_start, declaring_past, declaring_constant, declaring_node, declaring_done, constant_name, node_name}
use Rattle.tables.proofs.declare_nodes.Goals as goal
use Rattle.tables.proofs.declare_nodes.Goals.{in-9, in_default+then-this-lt9, in-10-to-12, in_default+else-this-lt9+else-this-lt13}

pub loop-at-init : goal.loop-at-init
loop-at-init c = (omega arith, λ g. declaring_start g.model g.tables)

pub name-requires-clause-small : goal.name-requires-clause-small
name-requires-clause-small c = (constant_name c.requires.model (c.loop-at.invariant.1 c.requires) c.loop-at-test.true c.in-9.is).small

pub name-requires-in-10-to-12-clause-small : goal.name-requires-in-10-to-12-clause-small
name-requires-in-10-to-12-clause-small c = (node_name c.requires.model (c.loop-at.invariant.1 c.requires) c.loop-at-test.true (omega arith) (omega arith)).small

pub loop-at-preserved : goal.loop-at-preserved
loop-at-preserved c = elim c.match-records-at.branch [
  | in-9 w ↦ rw (w.scope-is, w.lines-is, w.number-is, w.declare.ensures, w.name.ensures) (omega arith, λ g. declaring_constant g.model (c.loop-at.invariant.1 g) c.loop-at-test.true w.in-9.is)
  | in_default+then-this-lt9 w ↦ rw (w.scope-is, w.lines-is, w.number-is) (omega arith, λ g. declaring_past g.model (c.loop-at.invariant.1 g) c.loop-at-test.true (λ e. omega arith) (λ a b. omega arith))
  | in-10-to-12 w ↦ rw (w.scope-is, w.lines-is, w.number-is, w.redeclare.ensures.entered, w.name-in-10-to-12.ensures) (omega arith, λ g. declaring_node g.model (c.loop-at.invariant.1 g) c.loop-at-test.true (omega arith) (omega arith) (spotted w.about-q.ensures) (rw w.name-in-10-to-12.ensures at (w.redeclare.ensures.noted g.model.number (g.model.text _) (g.model.back _))))
  | in_default+else-this-lt9+else-this-lt13 w ↦ rw (w.scope-is, w.lines-is, w.number-is) (omega arith, λ g. declaring_past g.model (c.loop-at.invariant.1 g) c.loop-at-test.true (λ e. omega arith) (λ a b. omega arith))
]

pub returns : goal.returns
returns c = λ g. declaring_done g.model (c.loop-at.invariant.1 g) (omega (arith, c.loop-at-test.false))
