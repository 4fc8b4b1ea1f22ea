-- `next` meets its contract. The loop's invariant: what is left of the row from word `k` on is what is left from `from` on.
-- Assumes nothing.
use Prim.Native.Nat.{◌+◌, ◌*◌, ◌≤◌, ◌<◌}
use mathlib.Core.Path.{◌≡◌}
use Rattle.loops.specs.Rows.{row_from}
use Rattle.loops.proofs.next.Given as goal

abbrev pub invariant-loop-k : goal.invariant-loop-k
invariant-loop-k l = let b = 64 * l.k + l.skip in (l.skip < 64) × (l.from ≤ b) × (row_from l.row 0 l.from ≡ row_from l.row 0 b)
