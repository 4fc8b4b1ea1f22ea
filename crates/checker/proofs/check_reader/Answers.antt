-- A batch has its place in the lines, and the next one moves the loop on; at the end all lines are stored.
use Rattle.std.proofs.Common.{◌≡◌, ◌+◌, ◌-◌, arith, drop, length-take, length-drop}
use Rattle.checker.proofs.Turns.{in_room, going, later, fewer, ended}
use Rattle.checker.proofs.check_reader.Goals as goal

pub slice_bounds-fill-end : goal.slice_bounds-fill-end
slice_bounds-fill-end c = in_room c.loop-b.invariant

pub fill-requires : goal.fill-requires
fill-requires c =
    omega (arith, length-take (c.loop-b.b.at + c.loop-b.b.count - c.loop-b.b.at) (drop c.loop-b.b.at c.loop-b.lines), length-drop c.loop-b.b.at c.loop-b.lines, in_room c.loop-b.invariant, c.loop-b.invariant.batched.fits)

pub loop-b-smaller : goal.loop-b-smaller
loop-b-smaller c =
    let h = c.next_batch-b.ensures (going c.loop-b.invariant (omega arith) c.loop-b-test.true) in
    fewer c.loop-b.invariant c.loop-b-test.true h.0 h.1

pub loop-b-preserved : goal.loop-b-preserved
loop-b-preserved c =
    let h = c.next_batch-b.ensures (going c.loop-b.invariant (omega arith) c.loop-b-test.true) in
    later c.loop-b.invariant c.next_batch-b.auto.work h.0 h.1 c.fill.ensures

pub returns : goal.returns
returns c =
    let last : c.loop-b.b.at ≡ c.loop-b.b.goal = omega (arith, c.loop-b.invariant.batched.within) in
    record {
      answered = c.loop-b.invariant.batched.sums.answered;
      lines = ended c.loop-b.invariant last;
      worked = c.loop-b.invariant.batched.done last;
    }
