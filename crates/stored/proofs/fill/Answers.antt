-- The next line stands behind those so far.
use Rattle.std.proofs.Common.{arith}
use Rattle.stored.proofs.Laws.{one_more}
use Rattle.stored.proofs.fill.Goals as goal

pub loop-i-preserved : goal.loop-i-preserved
loop-i-preserved c = one_more _ _ _ _ _ _ c.loop-i.invariant c.as_chunks.ensures.front (omega arith) (omega arith) c.line_of.ensures
