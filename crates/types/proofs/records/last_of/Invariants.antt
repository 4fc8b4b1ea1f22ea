-- `types::records::last_of` meets its contract. The invariant: at `last` stands a type with the arrays not yet passed. Assumes nothing.
use Prim.Native.Nat.{◌+◌, ◌-◌}
use mathlib.Core.Path.{◌≡◌}
use lib.ListN.{length, drop}
use Rattle.types.specs.Place.{arraysIn, IsTypeAt}
use Rattle.types.proofs.records.last_of.Given as goal

abbrev pub invariant-loop-last : goal.invariant-loop-last
invariant-loop-last l = IsTypeAt l.records.kinds.now l.records.words.now l.last × (arraysIn (drop l.last l.records.kinds.now) + l.last ≡ arraysIn (drop l.at l.records.kinds.now) + l.at)

abbrev pub decreases-loop-last : goal.decreases-loop-last
decreases-loop-last l = length l.records.kinds.now - l.last
