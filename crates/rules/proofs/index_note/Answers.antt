-- `rules::index_note` meets its contract. Assumes nothing.
use Rattle.lines.proofs.Laws.{noted_none, noted_plain}
use Rattle.rules.proofs.index_note.Goals as goal

pub returns-then-not-resolves_within : goal.returns-then-not-resolves_within
returns-then-not-resolves_within c = λ W. rw (← c.resolves_within.ensures W, c.if-not-resolves_within.true) (noted_plain c.put.ensures)

pub returns-else-not-resolves_within : goal.returns-else-not-resolves_within
returns-else-not-resolves_within c = λ W. rw (← c.resolves_within.ensures W, c.if-not-resolves_within.false) noted_none
