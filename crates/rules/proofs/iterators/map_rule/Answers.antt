-- `rules::iterators::map_rule` meets its contract: the flags say what the tests of the definition say. Assumes nothing.
use native.Mathlib.Omega.{arith}
use mathlib.Core.Path.{sym, ap, ◌∙◌}
use borrow.Author.Tests.{eq-eqb, ne_eqb}
use Rattle.lustre.specs.Line.{return}
use Rattle.lustre.specs.Infer.{iterate_as}
use Rattle.rules.proofs.Laws.{returned, refused, passed}
use Rattle.rules.proofs.iterators.map_rule.Goals as goal
use Rattle.rules.proofs.iterators.map_rule.Goals.{then-inputs-arrays-via-then-inputs-arrays, then-inputs-arrays-via-else-inputs-arrays+then-not-kept}

pub returns-then-inputs-arrays : goal.returns-then-inputs-arrays
unfolding iterate_as
returns-then-inputs-arrays c =
    λ num ρ Γ ds ps seed f a b.
    elim c.then-inputs-arrays.branch [
      | then-inputs-arrays-via-then-inputs-arrays w ↦ refused _ (ne_eqb _ _ (λ z. w.if-inputs-arrays.true (sym a ∙ z ∙ b))) c.fail.ensures
      | then-inputs-arrays-via-else-inputs-arrays+then-not-kept w ↦
          passed _ (eq-eqb _ _ (a ∙ w.if-inputs-arrays.false ∙ sym b)) (refused _ (sym f.agree ∙ w.if-not-kept.true) c.fail.ensures)
    ]

pub returns : goal.returns
unfolding iterate_as
returns c =
    λ num ρ Γ ds ps seed f a b.
    let t = c.array.ensures in
    passed _ (eq-eqb _ _ (a ∙ c.if-inputs-arrays.false ∙ sym b))
    (passed _ (sym f.agree ∙ c.if-not-kept.false)
    (returned _ (omega (arith, t.levels)) (ap return (rw (← c.len.ensures ρ ds f.first) (sym (t.is ρ))))))
