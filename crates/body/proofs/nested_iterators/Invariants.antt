-- `body::nested_iterators` meets its contract. The loop's invariant: once the iterators from here on are noted, all inside the right-hand
-- side are. Assumes nothing.
use Prim.Native.Nat.{ℕ, ◌+◌}
use mathlib.Core.List.{◌++◌}
use lib.ListN.{length}
use Rattle.lustre.specs.Name.{Name}
use Rattle.standing.specs.Standing.{source}
use Rattle.body.specs.Body.{Side}
use Rattle.body.proofs.Scans.{Unplaced}
use Rattle.body.proofs.nested_iterators.Given as goal

abbrev pub invariant-loop-step : goal.invariant-loop-step
invariant-loop-step l =
    (num : Name → ℕ) (g : Side l.kinds) → Unplaced (source (l.kinds ++ g.after) g.whole.ws g.whole.text) g.whole.e num l.q l.initial.lines (length l.kinds) (1 + length l.yielded) l.lines
