-- `rules::agree_rule` meets its contract. Assumes nothing.
use native.Mathlib.Omega.{arith}
use mathlib.Core.Path.{refl, ◌∙◌}
use Rattle.lustre.specs.Infer.{agree_rule}
use Rattle.rules.proofs.Laws.{agreed, returned, refused, passed}
use Rattle.rules.proofs.agree_rule.Goals as goal

pub returns-then-compatible : goal.returns-then-compatible
unfolding agree_rule
returns-then-compatible c = λ W. passed _ (agreed W _ _ c.compatible.ensures ∙ c.if-compatible.true) (returned _ (omega arith) refl)

pub returns : goal.returns
unfolding agree_rule
returns c = λ W. refused _ (agreed W _ _ c.compatible.ensures ∙ c.if-compatible.false) c.fail.ensures
