-- `constants::check_constant` meets its contract. Assumes nothing.
use mathlib.Core.Path.{sym, ◌∙◌}
use borrow.Author.Tests.{not-true, not-false}
use Rattle.lines.proofs.Laws.{noted_about}
use Rattle.constants.proofs.Given.{name_number, name_known, name_added}
use Rattle.constants.proofs.check_constant.Goals as goal

pub name-name-requires-clause-inside : goal.name-name-requires-clause-inside
name-name-requires-clause-inside c = c.requires.constant.stands.head.in_words

pub name-name-requires-clause-small : goal.name-name-requires-clause-small
name-name-requires-clause-small c = c.requires.constant.stands.name.small

pub returns-then-insert : goal.returns-then-insert
returns-then-insert c = λ g xs h.
    let new = sym (name_known g h) ∙ not-true _ (sym (rw c.name-name.ensures at c.if-insert.ensures.fresh)) in
    (rw new (c.check_value.ensures g), name_added g h (rw c.name-name.ensures at c.insert.ensures.added))

pub returns-else-insert : goal.returns-else-insert
returns-else-insert c = λ g xs h.
    let known = sym (name_known g h) ∙ not-false _ (sym (rw c.name-name.ensures at c.if-insert.ensures.fresh)) in
    (rw known (noted_about g.c.name (name_number g) (rw c.name-name.ensures at c.put.ensures)), name_added g h (rw c.name-name.ensures at c.insert.ensures.added))
