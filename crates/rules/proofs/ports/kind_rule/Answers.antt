-- `rules::ports::kind_rule` meets its contract. Assumes nothing.
use mathlib.Core.Bool.{◌&&◌, and-false}
use Rattle.lustre.specs.Project.{is_operator}
use Rattle.lines.proofs.Laws.{noted_named}
use Rattle.rules.proofs.PortLaws.{noted_when, noted_unless, operator_is, operator_not}
use Rattle.rules.proofs.ports.kind_rule.Goals as goal
use Rattle.rules.proofs.ports.kind_rule.Goals.{else-q-via-then-q+else-kind-eq-OPERATOR, else-q-via-else-q}

pub returns-then-kind-eq-OPERATOR : goal.returns-then-kind-eq-OPERATOR
returns-then-kind-eq-OPERATOR c = λ num x k e h. noted_when (c.args.q.function && is_operator k) (rw c.if-q.true (operator_is k h c.if-kind-eq-OPERATOR.true)) (noted_named x e c.put.ensures)

pub returns-else-q : goal.returns-else-q
returns-else-q c =
    λ num x k e h.
    noted_unless (c.args.q.function && is_operator k) _
    (elim c.else-q.branch [
      | else-q-via-then-q+else-kind-eq-OPERATOR w ↦ rw (operator_not k h w.if-kind-eq-OPERATOR.false, and-false)
      | else-q-via-else-q w ↦ rw w.if-q.false
    ])
