-- `constants::check_fits` meets its contract. Assumes nothing.
use mathlib.Core.Path.{sym, ◌∙◌}
use Rattle.lustre.specs.Project.{skeleton}
use Rattle.lustre.specs.Resolve.{context}
use Rattle.lines.proofs.Laws.{noted_none, noted_about}
use Rattle.scope.proofs.World.{apart}
use Rattle.constants.proofs.Values.{value_fits, value_unfit}
use Rattle.constants.proofs.Given.{name_number, alias_table}
use Rattle.constants.proofs.check_fits.Goals as goal

pub bounds-ctx-at : goal.bounds-ctx-at
bounds-ctx-at c = c.requires.stands.head.in_words

pub returns-then-not-compatible : goal.returns-then-not-compatible
returns-then-not-compatible c = λ g e.
    rw (value_unfit (context (skeleton g.model.P)) g.c _ e (sym (c.compatible.ensures g.model.text (apart g.model) _ (alias_table g)) ∙ c.if-not-compatible.true))
    (noted_about g.c.name (name_number g) c.put.ensures)

pub returns-else-not-compatible : goal.returns-else-not-compatible
returns-else-not-compatible c = λ g e.
    rw (value_fits (context (skeleton g.model.P)) g.c _ e (sym (c.compatible.ensures g.model.text (apart g.model) _ (alias_table g)) ∙ c.if-not-compatible.false)) noted_none
