-- `rules::clock_rule` meets its contract: the entry among ports and locals leads to the clock's type. Assumes nothing.
use Rattle.lustre.specs.Infer.{clock, clock_of}
use Rattle.lines.proofs.Laws.{noted_none, noted_named}
use Rattle.rules.proofs.Laws.{found_not, found}
use Rattle.rules.proofs.Places.{type_there, read_is}
use Rattle.rules.proofs.clock_rule.Goals as goal

pub returns-in_default : goal.returns-in_default
unfolding clock clock_of
returns-in_default c = λ W. rw (found_not (W.port _ c.args.name.below) c.in_default.ensures.entry) (noted_named _ (W.back _) c.put.ensures)

pub read_type-requires : goal.read_type-requires
read_type-requires c = let W = c.requires in type_there (found (W.port _ c.args.name.below) c.in-Some.ensures.entry).there

pub returns-then-not-is_truth : goal.returns-then-not-is_truth
unfolding clock clock_of
returns-then-not-is_truth c =
    λ W.
    let w = found (W.port _ c.args.name.below) c.in-Some.ensures.entry in
    let t = read_is w.there c.read_type.ensures in
    rw (w.is, ← t.is, ← c.is_truth.ensures W, c.if-not-is_truth.true) (noted_named _ (W.back _) c.put-then-not-is_truth.ensures)

pub returns-else-not-is_truth : goal.returns-else-not-is_truth
unfolding clock clock_of
returns-else-not-is_truth c =
    λ W.
    let w = found (W.port _ c.args.name.below) c.in-Some.ensures.entry in
    let t = read_is w.there c.read_type.ensures in
    rw (w.is, ← t.is, ← c.is_truth.ensures W, c.if-not-is_truth.false) noted_none
