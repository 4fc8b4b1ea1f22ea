-- `rules::unary_rule` meets its contract. Assumes nothing.
use native.Mathlib.Omega.{arith}
use mathlib.Core.Path.{refl, sym, ◌∙◌}
use Rattle.lustre.specs.Infer.{unary_of}
use Rattle.types.specs.Value.{bottom}
use Rattle.rules.proofs.Laws.{returned, returned_bottom, refused, passed}
use Rattle.rules.proofs.Rules as rules
use Rattle.rules.proofs.unary_rule.Goals as goal

pub returns-then-is_truth : goal.returns-then-is_truth
unfolding unary_of bottom
returns-then-is_truth c =
    λ o e W.
    rw (rules.not_of o e c.if-k-eq-NOT.true)
    (passed _ (sym (c.is_truth.ensures W) ∙ c.if-is_truth.true) (returned_bottom c.basic.ensures refl))

pub returns-then-k-eq-NOT : goal.returns-then-k-eq-NOT
unfolding unary_of
returns-then-k-eq-NOT c = λ o e W. rw (rules.not_of o e c.if-k-eq-NOT.true) (refused _ (sym (c.is_truth.ensures W) ∙ c.if-is_truth.false) c.fail.ensures)

pub returns-then-resolves_within : goal.returns-then-resolves_within
unfolding unary_of
returns-then-resolves_within c =
    λ o e W.
    rw (rules.minus_of o e c.if-k-eq-NOT.false)
    (passed _ (sym (c.resolves_within.ensures W) ∙ c.if-resolves_within.true) (returned _ (omega arith) refl))

pub returns : goal.returns
unfolding unary_of
returns c = λ o e W. rw (rules.minus_of o e c.if-k-eq-NOT.false) (refused _ (sym (c.resolves_within.ensures W) ∙ c.if-resolves_within.false) c.fail-2.ensures)
