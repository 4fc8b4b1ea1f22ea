-- `project::check_nodes` meets its contract. Assumes nothing.
use native.Mathlib.Omega.{arith}
use Rattle.project.proofs.Nodes.{judging_start, judging_past, judging_given, judging_node, judging_done}
use Rattle.project.proofs.check_nodes.Goals as goal
use Rattle.project.proofs.check_nodes.Goals.{then-records-at-lt10, in-10-to-12, else-records-at-lt10+else-this-lt13}

pub loop-at-init : goal.loop-at-init
loop-at-init c = (omega arith, omega arith, λ g. judging_start g.model g.declared c.requires.blank)

pub check_node-looks-requires-clause-node : goal.check_node-looks-requires-clause-node
check_node-looks-requires-clause-node c = let g = c.requires.declared in judging_given g.model (c.loop-at.invariant.2 g) c.loop-at-test.true (omega arith) (omega arith)

pub check_node-looks-requires-clause-blank : goal.check_node-looks-requires-clause-blank
check_node-looks-requires-clause-blank c = (c.loop-at.invariant.2 c.requires.declared).blank

pub overflow_add-looks : goal.overflow_add-looks
overflow_add-looks c =
    let g = c.requires.declared in
    let G = judging_given g.model (c.loop-at.invariant.2 g) c.loop-at-test.true (omega arith) (omega arith) in
    omega (arith, c.loop-at.invariant.1, c.loop-at-test.true, g.model.few, (c.check_node-looks.ensures G).few)

pub loop-at-preserved : goal.loop-at-preserved
loop-at-preserved c = elim c.if-records-at-lt10.branch [
  | then-records-at-lt10 w ↦ rw (w.scope-is, w.graph-is, w.lines-is, w.number-is, w.looks-is) (omega arith, omega (arith, c.loop-at.invariant.1), λ g. judging_past g.model (c.loop-at.invariant.2 g) c.loop-at-test.true (λ a b. omega arith))
  | in-10-to-12 w ↦ rw (w.scope-is, w.graph-is, w.lines-is, w.number-is, w.looks-is) (
      let g = c.requires.declared in
      let G = judging_given g.model (c.loop-at.invariant.2 g) c.loop-at-test.true (omega arith) (omega arith) in (
        omega arith,
        omega (arith, c.loop-at.invariant.1, (w.check_node-looks.ensures G).few),
        λ g. judging_node g.model (c.loop-at.invariant.2 g) c.loop-at-test.true (omega arith) (omega arith) w.check_node-looks.ensures,
      ))
  | else-records-at-lt10+else-this-lt13 w ↦ rw (w.scope-is, w.graph-is, w.lines-is, w.number-is, w.looks-is) (omega arith, omega (arith, c.loop-at.invariant.1), λ g. judging_past g.model (c.loop-at.invariant.2 g) c.loop-at-test.true (λ a b. omega arith))
]

pub returns : goal.returns
returns c = λ g. judging_done g.model (c.loop-at.invariant.2 g) (omega (arith, c.loop-at-test.false))
