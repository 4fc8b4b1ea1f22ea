-- `rules::ports::ports_end` meets its contract: what is left of the walk ends where the list does. Assumes nothing.
use mathlib.Core.Path.{sym, ◌∙◌}
use Rattle.rules.proofs.Walks.{left_start, left_on, left_stop}
use Rattle.rules.proofs.ports.ports_end.Goals as goal

pub loop-init : goal.loop-init
loop-init c = λ g. left_start c.args.records.now g c.ports_of-ports.ensures

pub loop-preserved : goal.loop-preserved
loop-preserved c = λ g. left_on (c.loop.invariant g) _ (sym c.is_some.ensures ∙ c.loop-test.true) c.next.ensures.steps

pub returns : goal.returns
returns c = λ g. left_stop (c.loop.invariant g) _ (sym c.is_some.ensures ∙ c.loop-test.false) c.next.ensures.steps
