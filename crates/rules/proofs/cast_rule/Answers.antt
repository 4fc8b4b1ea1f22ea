-- `rules::cast_rule` meets its contract. Assumes nothing.
use native.Mathlib.Omega.{arith}
use mathlib.Core.Path.{refl, sym, ◌∙◌}
use Rattle.lustre.specs.Infer.{cast_of}
use Rattle.rules.proofs.Laws.{returned, refused, passed}
use Rattle.rules.proofs.cast_rule.Goals as goal

pub returns-then-not-resolves_within : goal.returns-then-not-resolves_within
unfolding cast_of
returns-then-not-resolves_within c = λ W. refused _ (sym (c.resolves_within.ensures W) ∙ c.if-not-resolves_within.true) c.fail.ensures

pub returns-then-not-is_numeric : goal.returns-then-not-is_numeric
unfolding cast_of
returns-then-not-is_numeric c =
    λ W.
    passed _ (sym (c.resolves_within.ensures W) ∙ c.if-not-resolves_within.false)
    (refused _ (sym (c.is_numeric.ensures W.text) ∙ c.if-not-is_numeric.true) c.fail-then-not-is_numeric.ensures)

pub returns : goal.returns
unfolding cast_of
returns c =
    λ W.
    passed _ (sym (c.resolves_within.ensures W) ∙ c.if-not-resolves_within.false)
    (passed _ (sym (c.is_numeric.ensures W.text) ∙ c.if-not-is_numeric.false) (returned _ (omega arith) refl))
