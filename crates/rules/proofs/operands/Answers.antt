-- `rules::operands` meets its contract. Assumes nothing.
use native.Mathlib.Omega.{arith}
use mathlib.Core.Logic.{inl, inr}
use mathlib.Core.Path.{sym, ◌∙◌}
use Rattle.lustre.specs.Infer.{operands, gives}
use Rattle.types.specs.Value.{bottom}
use Rattle.rules.proofs.Laws.{returned, returned_bottom, refused, passed}
use Rattle.rules.proofs.operands.Goals as goal

pub returns-then-not-meets : goal.returns-then-not-meets
unfolding operands
returns-then-not-meets c = λ W. rw (← c.fault.ensures) (refused _ (sym (c.meets.ensures W) ∙ c.if-not-meets.true) c.fail.ensures)

pub returns-in-Logical : goal.returns-in-Logical
unfolding operands gives bottom
returns-in-Logical c =
    λ W.
    passed _ (sym (c.meets.ensures W) ∙ c.if-not-meets.false)
    (returned_bottom c.basic.ensures (elim c.in-Logical.is [ inl e ↦ rw e | inr d ↦ elim d [ inl e ↦ rw e | inr e ↦ rw e ] ]))

pub returns-in-Arithmetic : goal.returns-in-Arithmetic
unfolding operands gives
returns-in-Arithmetic c =
    λ W.
    passed _ (sym (c.meets.ensures W) ∙ c.if-not-meets.false)
    (returned _ (omega arith) (elim c.in-Arithmetic.is [ inl e ↦ rw e | inr e ↦ rw e ]))
