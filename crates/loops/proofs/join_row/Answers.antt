-- `join_row` meets its contract. The loop's invariant is `Joining` of proofs/Stores.antt: k words of the set are in the row.
-- Assumes nothing.
use native.Mathlib.Omega.{arith}
use Rattle.loops.proofs.Stores.{joining_start, joining_more, joining_done}
use Rattle.loops.proofs.join_row.Goals as goal

pub loop-k-init : goal.loop-k-init
loop-k-init c = joining_start c.args.graph.now c.args.a c.args.row.now

pub loop-k-preserved : goal.loop-k-preserved
loop-k-preserved c = joining_more c.requires.row (omega (arith, c.loop-k-test.true)) c.loop-k.invariant

pub returns : goal.returns
returns c = joining_done (omega (arith, c.loop-k-test.false)) c.loop-k.invariant
