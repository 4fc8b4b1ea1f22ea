-- `scope::repeated_name` meets its contract. Assumes nothing.
use mathlib.Core.Path.{sym}
use Rattle.std.proofs.lemmas.Bool.{not-false, not-true}
use Rattle.lines.proofs.Laws.{noted_none, noted_about}
use Rattle.scope.proofs.repeated_name.Goals as goal

pub returns-then-not-insert-clause-noted : goal.returns-then-not-insert-clause-noted
returns-then-not-insert-clause-noted c = λ num x e. rw (not-false _ (sym c.if-not-insert.ensures.fresh)) (noted_about x e c.put.ensures)

pub returns-else-not-insert-clause-noted : goal.returns-else-not-insert-clause-noted
returns-else-not-insert-clause-noted c = λ num x e. rw (not-true _ (sym c.if-not-insert.ensures.fresh)) noted_none
