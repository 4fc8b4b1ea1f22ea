-- `body::check_pre`, which calls itself, meets its contract. The measure is the number of records from the place on. The loop's invariant is
-- `Checking` of proofs/Pres.antt, and each way through its body a law of that file. Assumes nothing.
use Prim.Native.Nat.{◌-◌}
use lib.ListN.{length}
use Rattle.body.proofs.Pres.{Checking}
use Rattle.body.proofs.+check_pre.Given as goal

abbrev pub invariant-loop-left : goal.invariant-loop-left
invariant-loop-left l = Checking l.side.kinds.now l.side.words.now l.at l.under l.q l.initial.lines l.next l.left l.lines

abbrev pub decreases-loop-left : goal.decreases-loop-left
decreases-loop-left l = length l.side.kinds.now - l.next

abbrev pub decreases-check_pre : goal.decreases-check_pre
decreases-check_pre l = length l.side.now.kinds.now - l.at
