-- The next line does not fit, it fits, or none is left.
use Rattle.std.proofs.Common.{arith}
use Rattle.format.proofs.Fill.{going_ended, going_skip, going_more}
use Rattle.response.proofs.render_lines.Goals as goal

pub returns-in-None : goal.returns-in-None
returns-in-None c = going_skip _ c.loop-line.invariant (omega arith) c.in-None.ensures

pub loop-line-preserved : goal.loop-line-preserved
loop-line-preserved c = going_more _ c.loop-line.invariant (omega arith) c.in-Some.ensures

pub returns : goal.returns
returns c = going_ended c.loop-line.invariant (omega arith)
