-- `standing::skip` meets its contract. The loop's invariant: the parts that are owed stand from here up to the expression's end.
-- Assumes nothing.
use Prim.Native.Nat.{◌+◌, ◌-◌}
use mathlib.Core.List.{List}
use lib.ListN.{length}
use Rattle.lustre.specs.Expr.{size}
use Rattle.standing.specs.Standing.{source}
use Rattle.standing.specs.Owed.{There}
use Rattle.standing.proofs.Owed.{Part, Turn, Owing}
use Rattle.standing.proofs.skip.Given as goal

abbrev pub invariant-loop-left : goal.invariant-loop-left
invariant-loop-left l = record {
  turn : Turn l.records.kinds.now l.records.words.now l.next l.left;
  owed : (g : There l.records.kinds.now l.records.words.now l.at) → (ps : List Part) × Owing (source l.records.kinds.now l.records.words.now g.text) ps l.next (l.at + size g.e) l.left;
}

abbrev pub decreases-loop-left : goal.decreases-loop-left
decreases-loop-left l = length l.records.kinds.now - l.next
