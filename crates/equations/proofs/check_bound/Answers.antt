-- `equations::check_bound` meets its contract: a tuple gets what `check_tuple` says; else none or several names get E0041, and one name gets
-- E0040 where its declared type does not fit. Assumes nothing.
use mathlib.Core.Path.{sym, ◌∙◌}
use Rattle.lustre.specs.Project.{skeleton}
use Rattle.lustre.specs.Resolve.{context}
use Rattle.lines.proofs.Laws.{noted_none, noted_bare, noted_about}
use Rattle.scope.proofs.World.{apart}
use Rattle.equations.proofs.Types.{one, one_number, alias_table, bound_members, bound_not_one, bound_alone, one_free, one_fits, one_unfit}
use Rattle.equations.proofs.check_bound.Goals as goal

pub returns-in-Some : goal.returns-in-Some
returns-in-Some c = λ g e.
    rw (bound_members (context (skeleton g.left.scoped.model.P)) g.left.scoped.env _ _ g.left.xs (c.in-Some.ensures g.left.scoped.model.text)) (c.check_tuple.ensures g)

pub returns-then-words-list-ne1 : goal.returns-then-words-list-ne1
returns-then-words-list-ne1 c = λ g e.
    rw (bound_not_one (context (skeleton g.left.scoped.model.P)) g.left.scoped.env _ _ (c.in_default.ensures g.left.scoped.model.text) g.left.xs (λ z. c.if-words-list-ne1.true (g.left.listed.many ∙ z)))
    (noted_bare c.put.ensures)

pub bounds-words-list-then-not-compatible : goal.bounds-words-list-then-not-compatible
bounds-words-list-then-not-compatible c = (one c.requires.left c.if-words-list-ne1.false).head.in_words

pub returns-then-not-compatible : goal.returns-then-not-compatible
returns-then-not-compatible c = λ g e.
    let w = g.left.scoped in
    let o = one g.left c.if-words-list-ne1.false in
    rw (
      bound_alone (context (skeleton w.model.P)) w.env _ _ (c.in_default.ensures w.model.text) o.are,
      one_unfit (context (skeleton w.model.P)) 40 _ _ (sym (rw c.in-Some-hint.is at e)) (sym (c.compatible.ensures w.model.text (apart w.model) _ (alias_table w)) ∙ c.if-not-compatible.true),
    )
    (noted_about o.x (one_number g.left o) c.put-then-not-compatible.ensures)

pub returns-else-not-compatible : goal.returns-else-not-compatible
returns-else-not-compatible c = λ g e.
    let w = g.left.scoped in
    rw (
      bound_alone (context (skeleton w.model.P)) w.env _ _ (c.in_default.ensures w.model.text) (one g.left c.if-words-list-ne1.false).are,
      one_fits (context (skeleton w.model.P)) 40 _ _ (sym (rw c.in-Some-hint.is at e)) (sym (c.compatible.ensures w.model.text (apart w.model) _ (alias_table w)) ∙ c.if-not-compatible.false),
    )
    noted_none

pub returns-in_default-hint : goal.returns-in_default-hint
returns-in_default-hint c = λ g e.
    let w = g.left.scoped in
    rw (
      bound_alone (context (skeleton w.model.P)) w.env _ _ (c.in_default.ensures w.model.text) (one g.left c.if-words-list-ne1.false).are,
      one_free (context (skeleton w.model.P)) 40 _ _ (sym (rw c.in_default-hint.is at e)),
    )
    noted_none
