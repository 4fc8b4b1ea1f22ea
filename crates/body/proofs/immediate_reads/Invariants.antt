-- `body::immediate_reads` meets its contract. The loop's invariant is `Collecting` of proofs/Collects.antt, and each way through its body
-- a law of that file. Assumes nothing.
use Prim.Native.Nat.{◌-◌}
use lib.ListN.{length}
use Rattle.body.proofs.Collects.{Collecting}
use Rattle.body.proofs.immediate_reads.Given as goal

abbrev pub invariant-loop-left : goal.invariant-loop-left
invariant-loop-left l = Collecting l.records.kinds.now l.records.words.now l.at l.initial.row.bits l.next l.left l.row.bits

abbrev pub decreases-loop-left : goal.decreases-loop-left
decreases-loop-left l = length l.records.kinds.now - l.next
