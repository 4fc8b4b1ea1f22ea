-- `names::zeros_in` meets its contract.
use Rattle.std.proofs.Common.{arith}
use Rattle.names.proofs.Counts.{counted_zero, counted_other, counted_all}
use Rattle.names.proofs.zeros_in.Goals.{then-b-eq0, else-b-eq0}
use Rattle.names.proofs.zeros_in.Goals as goal

pub loop-b-init : goal.loop-b-init
loop-b-init c = record { few = omega arith; left = omega arith }

pub loop-b-preserved : goal.loop-b-preserved
loop-b-preserved c =
    elim c.if-b-eq0.branch [
      | then-b-eq0 w ↦ rw w.n-is (counted_zero _ _ _ c.loop-b.invariant c.loop-b-test.true w.if-b-eq0.true)
      | else-b-eq0 w ↦ rw w.n-is (counted_other _ _ _ c.loop-b.invariant c.loop-b-test.true w.if-b-eq0.false)
    ]

pub overflow_add-n : goal.overflow_add-n
overflow_add-n c = omega (arith, c.loop-b.invariant.few)

pub returns : goal.returns
returns c = counted_all _ _ _ c.loop-b.invariant c.loop-b-test.false
