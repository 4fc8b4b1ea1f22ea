-- `rules::structs::missing` meets its contract. Assumes nothing.
use mathlib.Core.Path.{sym, ◌∙◌}
use Rattle.lines.proofs.Laws.{noted_none, noted_named}
use Rattle.rules.proofs.StructLaws.{missed_next, missed_end}
use Rattle.rules.proofs.Walks.{left_start}
use Rattle.rules.proofs.structs.missing.Goals as goal

pub loop-name-init : goal.loop-name-init
loop-name-init c = λ g. rw c.into_iter-name-iterator.ensures.into_iter_gives record {
  ports = left_start c.args.records.now g c.ports_of-name-items.ensures;
  rest = λ num b xs t s. s;
}

pub loop-name-preserved-then-not-contains : goal.loop-name-preserved-then-not-contains
loop-name-preserved-then-not-contains c = λ g.
    missed_next (c.loop-name.invariant g) c.in-Some.ensures.steps
    (λ num x e. rw (sym c.contains.ensures ∙ c.if-not-contains.true) (noted_named x e c.put.ensures))

pub loop-name-preserved : goal.loop-name-preserved
loop-name-preserved c = λ g.
    missed_next (c.loop-name.invariant g) c.in-Some.ensures.steps (λ num x e. rw (sym c.contains.ensures ∙ c.if-not-contains.false) noted_none)

pub returns : goal.returns
returns c = λ g. missed_end (c.loop-name.invariant g) c.in-None.ensures.steps
