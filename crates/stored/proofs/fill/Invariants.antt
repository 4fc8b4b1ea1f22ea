-- The lines so far are those of the buffer.
use Rattle.std.proofs.Common.{◌≡◌, take}
use Rattle.stored.specs.Lines.{lines_in}
use Rattle.stored.proofs.fill.Given as goal

abbrev pub invariant-loop-i : goal.invariant-loop-i
invariant-loop-i l = take l.i l.lines ≡ lines_in l.i l.flat
