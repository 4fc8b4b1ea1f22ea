-- `rules::iterators::took` meets its contract: the array goes behind the others, or is the first. Assumes nothing.
use mathlib.Core.Path.{refl, ap, ◌∙◌}
use Rattle.std.specs.Prelude.{Some}
use Rattle.types.specs.Value.{asTy}
use Rattle.rules.proofs.IteratorLaws.{kept_more}
use Rattle.rules.proofs.iterators.took.Goals as goal
use Rattle.rules.proofs.iterators.took.Goals.{then-kept, else-kept}

pub returns-then-kept-2 : goal.returns-then-kept-2
returns-then-kept-2 c =
    λ W ds ps f b. (
      (c.outer_length.result, asTy W.text c.element.result),
      rw c.outer_length.ensures (c.element.ensures.is W.text),
      kept_more W.Γ W.text ds ps _ (record { len = c.outer_length.result; element = c.element.result }) _ f b refl refl (ap (λ a. Some a) c.unwrap_or-first.ensures)
          (elim c.if-kept.branch [ then-kept w ↦ rw (w.if-kept.true, ← c.unwrap_or-first.ensures) w.result-is | else-kept w ↦ w.result-is ∙ rw w.if-kept.false ])
          (c.fits.ensures W ∙ rw c.if-kept-2.true),
    )

pub returns-else-kept-2 : goal.returns-else-kept-2
returns-else-kept-2 c =
    λ W ds ps f b. (
      (c.outer_length.result, asTy W.text c.element.result),
      rw c.outer_length.ensures (c.element.ensures.is W.text),
      kept_more W.Γ W.text ds ps _ (record { len = c.outer_length.result; element = c.element.result }) _ f b refl refl (ap (λ a. Some a) c.unwrap_or-first.ensures)
          (elim c.if-kept.branch [ then-kept w ↦ rw (w.if-kept.true, ← c.unwrap_or-first.ensures) w.result-is | else-kept w ↦ w.result-is ∙ rw w.if-kept.false ])
          (rw c.if-kept-2.false),
    )
