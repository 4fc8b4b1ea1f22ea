-- `add_names` meets its contract. The loop's invariant is `Adding` of proofs/Loops.antt. Assumes nothing.
use Rattle.ports.proofs.Loops.{adding_start, adding_next, adding_end}
use Rattle.ports.proofs.add_names.Goals as goal

pub loop-name-init : goal.loop-name-init
loop-name-init c = λ g inj. rw c.into_iter-name-iterator.ensures.into_iter_gives (adding_start g c.ports_of-name-items.ensures)

pub loop-name-preserved : goal.loop-name-preserved
loop-name-preserved c = λ g inj. adding_next (c.loop-name.invariant g inj) inj c.in-Some.ensures.steps c.insert.ensures.added

pub returns : goal.returns
returns c = λ g inj. adding_end (c.loop-name.invariant g inj) c.in-None.ensures.steps
