-- `equations::check_temporal` meets its contract. Assumes nothing.
use mathlib.Core.Path.{◌≡◌, sym, ◌∙◌}
use mathlib.Core.Bool.{true, false, ◌&&◌}
use mathlib.Core.List.{[], ◌∷◌}
use Rattle.lustre.specs.Expr.{contains_temporal}
use Rattle.lustre.specs.Line.{bare}
use Rattle.lines.proofs.Laws.{noted_bare}
use Rattle.rules.proofs.PortLaws.{noted_when, noted_unless}
use Rattle.equations.proofs.check_temporal.Goals.{else-q-via-then-q+else-contains_temporal, else-q-via-else-q}
use Rattle.equations.proofs.check_temporal.Goals as goal

pub returns-then-contains_temporal : goal.returns-then-contains_temporal
returns-then-contains_temporal c = λ num g.
    let both : (c.args.q.function && contains_temporal g.whole.e) ≡ true = rw (c.if-q.true, sym (c.contains_temporal.ensures g) ∙ c.if-contains_temporal.true) in
    noted_when _ both (noted_bare c.put.ensures)

pub returns-else-q : goal.returns-else-q
returns-else-q c = λ num g.
    let none : (c.args.q.function && contains_temporal g.whole.e) ≡ false =
    elim c.else-q.branch [
      | else-q-via-then-q+else-contains_temporal w ↦ rw (w.if-q.true, sym (w.contains_temporal.ensures g) ∙ w.if-contains_temporal.false)
      | else-q-via-else-q w ↦ rw w.if-q.false
    ]
    in
    noted_unless _ (bare 30 ∷ []) none
