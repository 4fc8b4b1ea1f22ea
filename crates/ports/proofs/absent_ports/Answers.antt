-- `absent_ports` meets its contract. The loop's invariant is `Lacking` of proofs/Loops.antt. Assumes nothing.
use mathlib.Core.Path.{sym, ◌∙◌}
use Rattle.ports.proofs.Loops.{lacking_start, lacking_known, lacking_unknown, lacking_end}
use Rattle.ports.proofs.absent_ports.Goals as goal

pub loop-name-init : goal.loop-name-init
loop-name-init c = λ g. rw c.into_iter-name-iterator.ensures.into_iter_gives (lacking_start g c.ports_of-name-items.ensures)

pub loop-name-preserved-then-not-contains : goal.loop-name-preserved-then-not-contains
loop-name-preserved-then-not-contains c = λ g. lacking_unknown (c.loop-name.invariant g) c.in-Some.ensures.steps (sym c.contains.ensures ∙ c.if-not-contains.true) c.put.ensures

pub loop-name-preserved : goal.loop-name-preserved
loop-name-preserved c = λ g. lacking_known (c.loop-name.invariant g) c.in-Some.ensures.steps (sym c.contains.ensures ∙ c.if-not-contains.false)

pub returns : goal.returns
returns c = λ g. lacking_end (c.loop-name.invariant g) c.in-None.ensures.steps
