-- `nodes::loop_lines` meets its contract. The loop keeps `Tracing` of proofs/Paths.antt: the lines of the names from one on are all that the loop is
-- to have. Assumes nothing.
use Rattle.nodes.proofs.Paths.{Tracing}
use Rattle.nodes.proofs.loop_lines.Given as goal

abbrev pub invariant-loop-step : goal.invariant-loop-step
invariant-loop-step l = Tracing l.path l.q l.initial.lines l.step l.lines
