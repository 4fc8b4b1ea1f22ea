-- The reader stands where the walk from the first one leads. Assumes nothing.
use Rattle.std.proofs.Common.{◌≡◌, ◌-◌}
use Rattle.reader.specs.Move.{count}
use Rattle.records.specs.Ranges.{bad_from}
use Rattle.records.proofs.first_bad_from.Given as goal

abbrev pub invariant-loop-s : goal.invariant-loop-s
invariant-loop-s l = bad_from l.names l.r ≡ bad_from l.names l.s

abbrev pub decreases-loop-s : goal.decreases-loop-s
decreases-loop-s l = count l.s - l.s.at
