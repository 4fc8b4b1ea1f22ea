-- `clear_rows` meets its contract. The loop's invariant is `Clearing` of proofs/Clears.antt. Assumes nothing.
use Rattle.loops.proofs.Rows.{over_next, over_name, over_end}
use Rattle.loops.proofs.Clears.{clearing_more, clearing_done}
use Rattle.loops.proofs.clear_rows.Goals as goal

pub loop-a-preserved : goal.loop-a-preserved
loop-a-preserved c =
    let i = c.loop-a.invariant in
    let n = c.in-Some.ensures.steps in
    (over_next i.0 n, rw n.from (clearing_more i.1 (over_name i.0 n) c.clear_row.ensures))

pub returns : goal.returns
returns c = let i = c.loop-a.invariant in clearing_done (over_end i.0 c.in-None.ensures.steps) i.1
