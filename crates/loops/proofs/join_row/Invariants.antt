-- `join_row` meets its contract. The loop's invariant is `Joining` of proofs/Stores.antt: k words of the set are in the row.
-- Assumes nothing.
use Rattle.loops.proofs.Stores.{Joining}
use Rattle.loops.proofs.join_row.Given as goal

abbrev pub invariant-loop-k : goal.invariant-loop-k
invariant-loop-k l = Joining l.initial.graph l.a l.row l.graph l.k
