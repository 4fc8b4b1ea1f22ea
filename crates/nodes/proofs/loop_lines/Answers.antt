-- `nodes::loop_lines` meets its contract. The loop keeps `Tracing` of proofs/Paths.antt: the lines of the names from one on are all that the loop is
-- to have. Assumes nothing.
use Rattle.nodes.proofs.Paths.{tracing_start, tracing_next, tracing_end}
use Rattle.nodes.proofs.loop_lines.Goals as goal

pub loop-step-preserved : goal.loop-step-preserved
loop-step-preserved c = tracing_next c.loop-step.invariant c.loop-step-test.true c.put.ensures

pub returns : goal.returns
returns c = tracing_end c.loop-step.invariant c.loop-step-test.false
