-- `equations::check_known` meets its contract. Assumes nothing.
use mathlib.Core.Path.{sym, ◌∙◌}
use Rattle.lines.proofs.Laws.{noted_none, noted_about}
use Rattle.scope.proofs.Rows.{free_entry}
use Rattle.equations.proofs.check_known.Goals as goal

pub returns-then-is_none : goal.returns-then-is_none
returns-then-is_none c = λ num x e. rw (free_entry _ _ _ c.declared.ensures.entry c.is_none.ensures ∙ c.if-is_none.true) (noted_about x e c.put.ensures)

pub returns-then-contains : goal.returns-then-contains
returns-then-contains c = λ num x e.
    rw (free_entry _ _ _ c.declared.ensures.entry c.is_none.ensures ∙ c.if-is_none.false, sym c.contains.ensures ∙ c.if-contains.true)
    (noted_about x e c.put-then-contains.ensures)

pub returns-else-contains : goal.returns-else-contains
returns-else-contains c = λ num x e.
    rw (free_entry _ _ _ c.declared.ensures.entry c.is_none.ensures ∙ c.if-is_none.false, sym c.contains.ensures ∙ c.if-contains.false) noted_none
