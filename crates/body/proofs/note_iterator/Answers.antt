-- `body::note_iterator` meets its contract: the line that `put` writes is that of the note.
-- Assumes nothing.
use mathlib.Core.Path.{sym, ◌∙◌}
use Rattle.lines.proofs.Laws.{noted_none, noted_plain}
use Rattle.body.proofs.note_iterator.Goals as goal

pub returns-then-is_iterator : goal.returns-then-is_iterator
returns-then-is_iterator c = λ num. rw (sym c.is_iterator.ensures ∙ c.if-is_iterator.true) (noted_plain c.put.ensures)

pub returns-else-is_iterator : goal.returns-else-is_iterator
returns-else-is_iterator c = λ num. rw (sym c.is_iterator.ensures ∙ c.if-is_iterator.false) noted_none
