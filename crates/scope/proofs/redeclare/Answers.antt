-- `redeclare` meets its contract. Assumes nothing.
use mathlib.Core.Bool.{true, false}
use mathlib.Core.Path.{sym, ◌∙◌}
use Rattle.lines.proofs.Laws.{noted_none, noted_about}
use Rattle.scope.proofs.Rows.{free_entry}
use Rattle.scope.proofs.redeclare.Goals.{then-is_some, else-is_some}
use Rattle.scope.proofs.redeclare.Goals as goal

pub returns-clause-noted : goal.returns-clause-noted
returns-clause-noted c = λ num x e. elim c.if-is_some.branch [
  | then-is_some w ↦ rw (free_entry _ _ false c.declared.ensures.entry (sym c.is_some.ensures ∙ w.if-is_some.true), w.lines-is) (noted_about x e w.put.ensures)
  | else-is_some w ↦ rw (free_entry _ _ true c.declared.ensures.entry (sym c.is_some.ensures ∙ w.if-is_some.false), w.lines-is) noted_none
]
