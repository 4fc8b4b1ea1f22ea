-- The proof of the cycle of calls {enter}. The measure is the number of free names. The loop's invariant is `Looking` of proofs/Steps.antt,
-- of the looks that this call has taken, and each way through its body a law of that file. Assumes nothing.
use native.Mathlib.Omega.{arith}
use mathlib.Core.Path.{sym, ◌∙◌}
use Rattle.std.specs.Prelude.{◌+◌}
use Rattle.loops.proofs.Rows.{over_row, over_next, over_name, over_end}
use Rattle.loops.proofs.Steps.{entering, looking_from, room, looking_skip, looking_clear, bound_here, can_deeper, entered_clear, entered_loop, entered_deeper}
use Rattle.loops.proofs.+enter.Goals as goal

pub loop-s-init : goal.loop-s-init
loop-s-init t c =
    let e = c.into_iter-s-iterator.ensures.into_iter_gives in
    let n = c.names-s-items.ensures in
    rw e (over_row c.requires.can.name c.told-graph (n.0 ∙ c.row_of.ensures), rw n.1 (record { taken = 0; added = omega arith; holds = looking_from (entering c.requires.can c.told-colour c.told-path) }))

pub overflow_add-looks : goal.overflow_add-looks
overflow_add-looks t c =
    let i = c.loop-s.invariant in
    omega (arith, bound_here (entering c.requires.can c.told-colour c.told-path) i.1.holds (over_name i.0 c.in-Some.ensures.steps), i.1.added)

pub loop-s-preserved-in-Cleared : goal.loop-s-preserved-in-Cleared
loop-s-preserved-in-Cleared t c =
    let i = c.loop-s.invariant in
    let n = c.in-Some.ensures.steps in
    (over_next i.0 n, rw n.from (record { taken = i.1.taken + 1; added = omega (arith, i.1.added); holds = looking_skip i.1.holds (over_name i.0 n) c.in-Cleared.is }))

pub bounds-path-depth-in-OnPath : goal.bounds-path-depth-in-OnPath
bounds-path-depth-in-OnPath t c = omega (arith, room (entering c.requires.can c.told-colour c.told-path), c.loop-s.invariant.1.holds.long)

pub returns-in-OnPath : goal.returns-in-OnPath
returns-in-OnPath t c =
    let i = c.loop-s.invariant in
    record {
      taken = i.1.taken + 1;
      added = omega (arith, i.1.added);
      holds = entered_loop (entering c.requires.can c.told-colour c.told-path) i.1.holds (over_name i.0 c.in-Some.ensures.steps) c.in-OnPath.is;
    }

pub enter-end-requires : goal.enter-end-requires
enter-end-requires t c =
    let i = c.loop-s.invariant in
    let n = over_name i.0 c.in-Some.ensures.steps in
    let b = bound_here (entering c.requires.can c.told-colour c.told-path) i.1.holds n in
    (omega (arith, b), (can_deeper (entering c.requires.can c.told-colour c.told-path) i.1.holds n c.in-Free.is, omega (arith, b, i.1.added)))

pub returns-then-is_some : goal.returns-then-is_some
returns-then-is_some t c =
    let i = c.loop-s.invariant in
    let r = c.enter-end.ensures in
    record {
      taken = i.1.taken + 1 + r.taken;
      added = omega (arith, i.1.added, r.added);
      holds = entered_deeper (entering c.requires.can c.told-colour c.told-path) i.1.holds (over_name i.0 c.in-Some.ensures.steps) c.in-Free.is r.holds (sym c.is_some.ensures ∙ c.if-is_some.true);
    }

pub loop-s-preserved : goal.loop-s-preserved
loop-s-preserved t c =
    let i = c.loop-s.invariant in
    let n = c.in-Some.ensures.steps in
    let r = c.enter-end.ensures in
    let deep = room (entering c.requires.can c.told-colour c.told-path) in (
      over_next i.0 n,
      rw
          n.from
          (record {
            taken = i.1.taken + 1 + r.taken;
            added = omega (arith, i.1.added, r.added);
            holds = looking_clear i.1.holds (over_name i.0 n) deep c.in-Free.is c.enter-end.array_long c.enter-end.array_long2 r.holds (sym c.is_some.ensures ∙ c.if-is_some.false);
          }),
    )

pub returns : goal.returns
returns t c =
    let i = c.loop-s.invariant in
    record { taken = i.1.taken; added = i.1.added; holds = entered_clear (entering c.requires.can c.told-colour c.told-path) i.1.holds (over_end i.0 c.in-None.ensures.steps) }
