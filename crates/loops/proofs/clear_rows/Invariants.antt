-- `clear_rows` meets its contract. The loop's invariant is `Clearing` of proofs/Clears.antt. Assumes nothing.
use Rattle.loops.proofs.Rows.{Over}
use Rattle.loops.proofs.Clears.{Clearing}
use Rattle.loops.proofs.clear_rows.Given as goal

abbrev pub invariant-loop-a : goal.invariant-loop-a
invariant-loop-a l =
    let i = l.a-iterator in
    Over l.set.bits 0 i × Clearing l.initial.graph l.set.bits l.graph i.from
