-- `rules::unless_agrees` meets its contract. Assumes nothing.
use Rattle.lustre.specs.Infer.{unless_agrees}
use Rattle.lines.proofs.Laws.{noted_none, noted_named}
use Rattle.rules.proofs.Laws.{agreed}
use Rattle.rules.proofs.unless_agrees.Goals as goal

pub returns-then-not-compatible : goal.returns-then-not-compatible
unfolding unless_agrees
returns-then-not-compatible c = λ W. rw (agreed W c.args.want.now c.args.t.now c.compatible.ensures, c.if-not-compatible.true) (noted_named _ (W.back _) c.put.ensures)

pub returns-else-not-compatible : goal.returns-else-not-compatible
unfolding unless_agrees
returns-else-not-compatible c = λ W. rw (agreed W c.args.want.now c.args.t.now c.compatible.ensures, c.if-not-compatible.false) noted_none
