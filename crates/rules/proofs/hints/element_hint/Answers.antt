-- `rules::hints::element_hint` meets its contract. Assumes nothing.
use native.Mathlib.Omega.{arith}
use mathlib.Core.Path.{refl, sym}
use Rattle.lustre.specs.Infer.{element_hint}
use Rattle.rules.proofs.Laws.{resolved}
use Rattle.rules.proofs.Rules as rules
use Rattle.rules.proofs.hints.element_hint.Goals as goal

pub returns-in_err-hint : goal.returns-in_err-hint
unfolding element_hint
returns-in_err-hint c = λ W. rw (c.in_err-hint.was, c.from_residual.ensures) (record { is = refl; low = omega arith })

pub returns-then-t-eq0 : goal.returns-then-t-eq0
unfolding element_hint
returns-then-t-eq0 c =
    λ W.
    rw (c.in_ok-hint.was, resolved W c.resolve-t.ensures)
    (record { is = sym (rules.element_not W.text _ c.if-t-eq0.true); low = omega arith })

pub returns : goal.returns
unfolding element_hint
returns c =
    λ W.
    let a = c.element.ensures in
    let s = c.resolve-t.ensures in
    rw (c.in_ok-hint.was, resolved W s)
    (record { is = sym (rules.element_is _ (a.is W.text)); low = omega (arith, a.levels, s.few) })
