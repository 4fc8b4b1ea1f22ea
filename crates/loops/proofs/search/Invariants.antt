-- `search` meets its contract. The loop's invariant is `SearchingAlong` of proofs/Starts.antt, and each way through its body a law of that file.
-- Assumes nothing.
use lib.ListN.{take}
use Rattle.loops.proofs.Rows.{Over}
use Rattle.loops.proofs.Starts.{SearchingAlong}
use Rattle.loops.proofs.search.Given as goal

abbrev pub invariant-loop-v : goal.invariant-loop-v
invariant-loop-v l =
    let i = l.v-iterator in
    Over l.defined 0 i × SearchingAlong (take 4096 l.graph) l.graph l.defined l.colour l.room l.looks i.from
