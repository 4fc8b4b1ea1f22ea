-- `rules::iterators::fold_end` meets its contract. Assumes nothing.
use mathlib.Core.Path.{sym, ◌∙◌}
use Rattle.rules.specs.Iterators.{fold_end}
use Rattle.rules.proofs.Laws.{refused, passed}
use Rattle.rules.proofs.IteratorLaws.{seed_fits}
use Rattle.rules.proofs.iterators.fold_end.Goals as goal

pub returns-then-not-fits : goal.returns-then-not-fits
unfolding fold_end
returns-then-not-fits c = λ W ds ps f. rw (seed_fits W.Γ W.text c.args.at _ c.args.seed) (refused _ (sym (c.fits.ensures W) ∙ c.if-not-fits.true) c.fail.ensures)

pub returns : goal.returns
unfolding fold_end
returns c = λ W ds ps f. rw (seed_fits W.Γ W.text c.args.at _ c.args.seed) (passed _ (sym (c.fits.ensures W) ∙ c.if-not-fits.false) (c.element_rule.ensures W ds ps f))
