-- `constants::check_static` meets its contract. Assumes nothing.
use native.Mathlib.Omega.{arith}
use mathlib.Core.Path.{sym, ◌∙◌}
use Rattle.lines.proofs.Laws.{noted_none, noted_bare}
use Rattle.constants.proofs.Given.{value_end, value_own}
use Rattle.constants.proofs.check_static.Goals as goal

pub slice_bounds-contains_temporal-count : goal.slice_bounds-contains_temporal-count
slice_bounds-contains_temporal-count c = omega (arith, c.skip-next.ensures c.requires)

pub slice_bounds-contains_temporal-start : goal.slice_bounds-contains_temporal-start
slice_bounds-contains_temporal-start c = omega (arith, c.skip-next.ensures c.requires)

pub slice_bounds-contains_temporal-end : goal.slice_bounds-contains_temporal-end
slice_bounds-contains_temporal-end c = value_end c.requires (c.skip-next.ensures c.requires)

pub contains_temporal-requires : goal.contains_temporal-requires
contains_temporal-requires c = value_own c.requires (c.skip-next.ensures c.requires)

pub returns-then-contains_temporal : goal.returns-then-contains_temporal
returns-then-contains_temporal c = λ num g. rw (sym (c.contains_temporal.ensures (value_own g (c.skip-next.ensures g))) ∙ c.if-contains_temporal.true) (noted_bare c.put.ensures)

pub returns-else-contains_temporal : goal.returns-else-contains_temporal
returns-else-contains_temporal c = λ num g. rw (sym (c.contains_temporal.ensures (value_own g (c.skip-next.ensures g))) ∙ c.if-contains_temporal.false) noted_none
