-- `rules::iterators::element_rule` meets its contract. Assumes nothing.
use native.Mathlib.Omega.{arith}
use mathlib.Core.Path.{refl, sym, ◌∙◌}
use Rattle.std.proofs.Common.{rules}
use Rattle.rules.specs.Iterators.{element_end}
use Rattle.rules.proofs.Laws.{returned, refused, passed}
use Rattle.rules.proofs.IteratorLaws.{elements_fit}
use Rattle.rules.proofs.iterators.element_rule.Goals as goal

pub returns-then-not-fits : goal.returns-then-not-fits
unfolding element_end
returns-then-not-fits c =
    λ W ds ps f.
    rw (elements_fit W.Γ W.text c.args.at _ ds c.args.kept.now.first c.map.result f.first (search rules)) (refused _ (sym (c.fits.ensures W) ∙ c.if-not-fits.true) c.fail.ensures)

pub returns : goal.returns
unfolding element_end
returns c =
    λ W ds ps f.
    rw (elements_fit W.Γ W.text c.args.at _ ds c.args.kept.now.first c.map.result f.first (search rules)) (passed _ (sym (c.fits.ensures W) ∙ c.if-not-fits.false) (returned _ (omega arith) refl))
