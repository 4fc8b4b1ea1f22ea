-- `body::note_pre` meets its contract: the line that `put` writes is that of the note.
-- Assumes nothing.
use Rattle.lines.proofs.Laws.{noted_none, noted_plain}
use Rattle.body.proofs.note_pre.Goals as goal

pub returns-then-not-under : goal.returns-then-not-under
returns-then-not-under c = λ num. rw c.if-not-under.true (noted_plain c.put.ensures)

pub returns-else-not-under : goal.returns-else-not-under
returns-else-not-under c = λ num. rw c.if-not-under.false noted_none
