-- `rules::item_rule` meets its contract. Assumes nothing.
use mathlib.Core.Path.{◌∙◌}
use Rattle.lines.proofs.Laws.{noted_plain, said_pass, said_refuse}
use Rattle.rules.proofs.Laws.{agreed}
use Rattle.rules.proofs.item_rule.Goals as goal

pub returns-then-not-fits : goal.returns-then-not-fits
returns-then-not-fits c = λ W. rw c.if-not-fits.true (said_refuse (agreed W _ _ c.compatible-fits.ensures ∙ c.if-not-fits.true) (noted_plain c.put.ensures))

pub returns-else-not-fits : goal.returns-else-not-fits
returns-else-not-fits c = λ W. rw c.if-not-fits.false (said_pass _ (agreed W _ _ c.compatible-fits.ensures ∙ c.if-not-fits.false))
