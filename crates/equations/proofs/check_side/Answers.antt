-- `equations::check_side` meets its contract. Assumes nothing.
use native.Mathlib.Omega.{arith}
use Rattle.equations.proofs.Sides as sides
use Rattle.equations.proofs.check_side.Goals as goal

pub slice_bounds-kinds-count : goal.slice_bounds-kinds-count
slice_bounds-kinds-count c = omega (arith, c.skip-next.ensures c.requires)

pub slice_bounds-kinds-start : goal.slice_bounds-kinds-start
slice_bounds-kinds-start c = omega (arith, c.skip-next.ensures c.requires)

pub slice_bounds-kinds-end : goal.slice_bounds-kinds-end
slice_bounds-kinds-end c = sides.side_end c.requires (c.skip-next.ensures c.requires)

pub check_temporal-requires : goal.check_temporal-requires
check_temporal-requires c = sides.side_own c.requires (c.skip-next.ensures c.requires)

pub slice_bounds-side-count : goal.slice_bounds-side-count
slice_bounds-side-count c = omega (arith, sides.side_kinds c.requires)

pub slice_bounds-side-start : goal.slice_bounds-side-start
slice_bounds-side-start c = omega (arith, sides.side_kinds c.requires)

pub offset_bounds-records-start : goal.offset_bounds-records-start
offset_bounds-records-start c = omega (arith, sides.side_words c.requires)

pub slice_bounds-side-count-2 : goal.slice_bounds-side-count-2
slice_bounds-side-count-2 c = omega (arith, sides.side_words c.requires)

pub slice_bounds-side-start-2 : goal.slice_bounds-side-start-2
slice_bounds-side-start-2 c = omega (arith, sides.side_words c.requires)

pub check_pre-requires : goal.check_pre-requires
check_pre-requires c = sides.side_there c.requires

pub nested_iterators-requires : goal.nested_iterators-requires
nested_iterators-requires c = sides.side_own c.requires (c.skip-next.ensures c.requires)

pub returns : goal.returns
returns c = λ g num.
    let e = c.skip-next.ensures g in
    let s = sides.side_own g e in
    (e, sides.side_noted g (c.check_temporal.ensures num s) (c.check_pre.ensures num (sides.side_there g)) (c.nested_iterators.ensures num s))
