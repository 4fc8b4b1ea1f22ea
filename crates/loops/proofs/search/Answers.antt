-- `search` meets its contract. The loop's invariant is `SearchingAlong` of proofs/Starts.antt, and each way through its body a law of that file.
-- Assumes nothing.
use mathlib.Core.Path.{◌∙◌}
use lib.ListN.{drop}
use Rattle.std.proofs.Common.{rules}
use Rattle.loops.proofs.Rows.{over_front, over_next, over_name, over_end}
use Rattle.loops.proofs.Starts.{searching_front, searching_skip, can_start, searching_clear, can_place, searched_loop_within, searched_none}
use Rattle.loops.proofs.search.Goals as goal

pub loop-v-init : goal.loop-v-init
loop-v-init c =
    let e = c.into_iter-v-iterator.ensures.into_iter_gives in
    let n = c.names-v-items.ensures in
    let f = rw c.unwrap-set.ensures at c.first_chunk-2.ensures.cases in
    rw e (over_front (n.0 ∙ f.same), rw n.1 searching_front)

pub loop-v-preserved-then-ne : goal.loop-v-preserved-then-ne
loop-v-preserved-then-ne c =
    let i = c.loop-v.invariant in
    let n = c.in-Some.ensures.steps in
    (over_next i.0 n, rw n.from (searching_skip i.1 (over_name i.0 n) (search rules)))

pub enter-requires : goal.enter-requires
enter-requires c =
    let i = c.loop-v.invariant in
    record { can = can_start i.1 (over_name i.0 c.in-Some.ensures.steps) (search rules); few = i.1.bounded }

pub first-start-requires : goal.first-start-requires
first-start-requires c =
    let i = c.loop-v.invariant in
    let f = rw c.unwrap-rows.ensures at c.first_chunk.ensures.cases in
    can_place i.1 (over_name i.0 c.in-Some.ensures.steps) (search rules) (rw f.same at c.enter.ensures.holds) c.in-Some-enter.is

pub returns-in-Some-enter : goal.returns-in-Some-enter
returns-in-Some-enter c =
    let i = c.loop-v.invariant in
    let r = c.enter.ensures in
    let f = rw c.unwrap-rows.ensures at c.first_chunk.ensures.cases in
    rw r.added (searched_loop_within i.1 (over_name i.0 c.in-Some.ensures.steps) (search rules) (rw f.same at r.holds) c.in-Some-enter.is (drop 513 c.args.path.now) c.enter.array_long2 c.first-start.ensures)

pub loop-v-preserved : goal.loop-v-preserved
loop-v-preserved c =
    let i = c.loop-v.invariant in
    let n = c.in-Some.ensures.steps in
    let r = c.enter.ensures in
    let f = rw c.unwrap-rows.ensures at c.first_chunk.ensures.cases in
    (over_next i.0 n, rw (n.from, r.added) (searching_clear i.1 (over_name i.0 n) (search rules) (rw f.same at r.holds) c.enter.array_long c.in_default.is))

pub returns : goal.returns
returns c =
    let i = c.loop-v.invariant in
    searched_none i.1 _ (over_end i.0 c.in-None.ensures.steps)
