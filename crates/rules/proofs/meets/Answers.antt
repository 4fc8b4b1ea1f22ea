-- `rules::meets` meets its contract: the class's row of the definition. Assumes nothing.
use mathlib.Core.Logic.{inl, inr}
use mathlib.Core.Path.{sym, ◌∙◌}
use Rattle.lustre.specs.Infer.{meets}
use Rattle.lustre.specs.Resolve.{compatible}
use Rattle.rules.proofs.Laws.{agreed}
use Rattle.rules.proofs.BasicKinds.{both_bool}
use Rattle.rules.proofs.meets.Goals as goal

pub returns-in-Logical : goal.returns-in-Logical
unfolding meets
returns-in-Logical c = λ W. rw c.in-Logical.is (c.one_within.ensures W ∙ both_bool _ _)

pub returns-in-Equality : goal.returns-in-Equality
unfolding meets compatible
returns-in-Equality c = λ W. rw c.in-Equality.is (sym (agreed W _ _ c.compatible.ensures))

pub returns-in-Ordering : goal.returns-in-Ordering
unfolding meets
returns-in-Ordering c = λ W. elim c.in-Ordering.is [ inl e ↦ rw e (c.one_within-in-Ordering.ensures W) | inr e ↦ rw e (c.one_within-in-Ordering.ensures W) ]

pub returns-in-Bitwise : goal.returns-in-Bitwise
unfolding meets
returns-in-Bitwise c = λ W. rw c.in-Bitwise.is (c.one_within-in-Bitwise.ensures W)
