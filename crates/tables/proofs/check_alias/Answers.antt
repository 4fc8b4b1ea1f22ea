-- `tables::check_alias` meets its contract. Assumes nothing.
use Rattle.lustre.specs.Line.{at_type}
use Rattle.lustre.specs.Answer.{place_number}
use Rattle.lines.proofs.Laws.{noted_about}
use Rattle.scope.proofs.Writes.{reports_none}
use Rattle.tables.proofs.Repeats.{spotted, one_line}
use Rattle.tables.proofs.Aliases.{alias_absent, alias_resolved, alias_there}
use Rattle.tables.proofs.check_alias.Goals as goal
use Rattle.tables.proofs.check_alias.Goals.{else-e-ne0-via-then-e-ne0+else-not-resolves, else-e-ne0-via-else-e-ne0}

pub returns-then-not-resolves : goal.returns-then-not-resolves
unfolding place_number
returns-then-not-resolves c = λ g. rw (alias_there g _ c.args.name.below c.resolves.ensures c.if-not-resolves.true c.if-e-ne0.true) (one_line at_type 8 (g.model.text _) (spotted c.about-q.ensures) (noted_about (g.model.text _) (g.model.back _) c.put.ensures))

pub returns-else-e-ne0 : goal.returns-else-e-ne0
returns-else-e-ne0 c = elim c.else-e-ne0.branch [
  | else-e-ne0-via-then-e-ne0+else-not-resolves w ↦ λ g. rw (alias_resolved g _ c.args.name.below w.resolves.ensures w.if-not-resolves.false) (reports_none g.model.number)
  | else-e-ne0-via-else-e-ne0 w ↦ λ g. rw (alias_absent g _ c.args.name.below w.if-e-ne0.false) (reports_none g.model.number)
]
