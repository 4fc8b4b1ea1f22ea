-- `body::nested_iterators` meets its contract. The loop's invariant: once the iterators from here on are noted, all inside the right-hand
-- side are. Assumes nothing.
use Prim.Native.Nat.{◌+◌}
use native.Mathlib.Omega.{arith}
use mathlib.Core.Path.{◌≡◌}
use mathlib.Core.List.{◌∷◌, [], ◌++◌}
use lib.ListN.{length, length-append, length-drop}
use Rattle.std.proofs.lemmas.List.FromFn.{length-enumerate_from}
use Rattle.std.proofs.lemmas.Iterator.{YieldsList-from_slice}
use Rattle.std.proofs.lemmas.Iterator.Adapters.{YieldsList-from_skip}
use Rattle.std.proofs.lemmas.Iterator.Consumers.{YieldsList-at, YieldsList-from_enumerate, YieldsList-turn, YieldsList-end}
use Rattle.body.proofs.Scans.{unplaced_start, unplaced_pass, unplaced_done, scan_turn}
use Rattle.body.proofs.nested_iterators.Goals as goal

pub loop-step-init : goal.loop-step-init
loop-step-init c = λ num g. unplaced_start _ g.whole.e num _ _ g.whole.stands g.whole.ends

pub loop-step-preserved : goal.loop-step-preserved
loop-step-preserved c = λ num g.
    let i = length c.loop-step.yielded in
    let road = YieldsList-at c.into_iter-step-iterator.ensures.into_iter_gives (YieldsList-from_skip 1 (YieldsList-at c.skip-step-items.ensures.source (YieldsList-from_enumerate (YieldsList-at c.enumerate.ensures.source (YieldsList-from_slice c.args.kinds.now c.iter.ensures.rest)) c.enumerate.ensures.count)) c.skip-step-items.ensures.count) in
    let t = YieldsList-turn road c.loop-step.yielded c.loop-step.step-iterator c.loop-step.yielded_by c.next.result c.next.new.self (c.in-Some.step, c.in-Some.kind) c.in-Some.is c.next.ensures.steps in
    let p = scan_turn c.args.kinds.now g.after i c.in-Some.step c.in-Some.kind.now t.0 t.1 in
    let n : 1 + length (c.loop-step.yielded ++ (c.in-Some.step, c.in-Some.kind) ∷ []) ≡ 1 + i + 1 = simp length-append (omega arith) in
    rw n (unplaced_pass _ g.whole.e num _ _ (c.loop-step.invariant num g) p.0 (rw (p.2, p.1) at (c.note_iterator.ensures num)))

pub returns : goal.returns
returns c = λ num g.
    let road = YieldsList-at c.into_iter-step-iterator.ensures.into_iter_gives (YieldsList-from_skip 1 (YieldsList-at c.skip-step-items.ensures.source (YieldsList-from_enumerate (YieldsList-at c.enumerate.ensures.source (YieldsList-from_slice c.args.kinds.now c.iter.ensures.rest)) c.enumerate.ensures.count)) c.skip-step-items.ensures.count) in
    let d = YieldsList-end road c.loop-step.yielded c.loop-step.step-iterator c.loop-step.yielded_by c.next.result c.next.new.self c.in-None.is c.next.ensures.steps in
    unplaced_done _ g.whole.e num _ _ (c.loop-step.invariant num g) (omega (arith, simp (length-drop, length-enumerate_from) at d.1))
