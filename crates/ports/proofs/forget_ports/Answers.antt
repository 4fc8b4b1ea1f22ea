-- `forget_ports` meets its contract. The loop's invariant is `Leaving` of proofs/Loops.antt. Assumes nothing.
use Rattle.ports.proofs.Loops.{leaving_start, leaving_next, leaving_end}
use Rattle.ports.proofs.forget_ports.Goals as goal

pub loop-name-init : goal.loop-name-init
loop-name-init c = λ g inj. rw c.into_iter-name-iterator.ensures.into_iter_gives (leaving_start g c.ports_of-name-items.ensures)

pub loop-name-preserved : goal.loop-name-preserved
loop-name-preserved c = λ g inj. rw c.forget.ensures (leaving_next (c.loop-name.invariant g inj) inj c.in-Some.ensures.steps)

pub returns : goal.returns
returns c = λ g inj. leaving_end (c.loop-name.invariant g inj) c.in-None.ensures.steps
