-- The proof of the cycle of calls {enter}. The measure is the number of free names. The loop's invariant is `Looking` of proofs/Steps.antt,
-- and each way through its body a law of that file. Assumes nothing.
use Rattle.loops.proofs.Rows.{Over}
use Rattle.loops.specs.Steps.{free, Counts}
use Rattle.loops.proofs.Steps.{Looking}
use Rattle.loops.proofs.+enter.Given as goal

abbrev pub invariant-loop-s : goal.invariant-loop-s
invariant-loop-s l =
    let i = l.s-iterator in
    Over l.graph l.node i × Counts (λ n. Looking l.graph l.depth l.node l.initial.colour l.initial.path 0 l.colour l.path n i.from) l.initial.looks l.looks

abbrev pub decreases-enter : goal.decreases-enter
decreases-enter l = free l.colour.now
