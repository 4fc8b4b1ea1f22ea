-- Between two batches the lines so far are stored, and a batch stands in the work memory.
use Rattle.std.proofs.Common.{◌-◌}
use Rattle.checker.proofs.Turns.{Turned}
use Rattle.checker.proofs.check_reader.Given as goal

abbrev pub invariant-loop-b : goal.invariant-loop-b
invariant-loop-b l = Turned l.fn.r.kinds.now l.fn.r.words.now l.fn.text l.fn.work l.fn.lines l.b l.work l.lines

abbrev pub decreases-loop-b : goal.decreases-loop-b
decreases-loop-b l = l.b.goal - l.b.at
