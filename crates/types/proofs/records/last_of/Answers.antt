-- `types::records::last_of` meets its contract. The invariant: at `last` stands a type with the arrays not yet passed. Assumes nothing.
use native.Mathlib.Omega.{arith}
use mathlib.Core.Path.{refl}
use Rattle.types.proofs.Places.{in_kinds, in_words, arrays_array, arrays_bottom, type_next}
use Rattle.types.proofs.records.last_of.Goals as goal

pub loop-last-init : goal.loop-last-init
loop-last-init c = (c.requires, refl)

pub bounds-records-last : goal.bounds-records-last
bounds-records-last c = in_kinds _ _ _ c.loop-last.invariant.0

pub overflow_add-last : goal.overflow_add-last
overflow_add-last c = omega (arith, in_kinds _ _ _ c.loop-last.invariant.0)

pub loop-last-smaller : goal.loop-last-smaller
loop-last-smaller c = omega (arith, in_kinds _ _ _ c.loop-last.invariant.0)

pub loop-last-preserved : goal.loop-last-preserved
loop-last-preserved c =
    let v = c.loop-last.invariant in
    (type_next _ _ _ v.0 c.loop-last-test.true, omega (arith, v.1, arrays_array _ _ _ v.0 c.loop-last-test.true))

pub returns : goal.returns
returns c =
    let v = c.loop-last.invariant in
    record { behind = omega (arith, v.1, arrays_bottom _ _ _ v.0 c.loop-last-test.false); in_kinds = in_kinds _ _ _ v.0; in_words = in_words _ _ _ v.0 }
