-- `names::zeros_in` meets its contract. The invariant: n of the bytes passed are zero.
use Rattle.names.proofs.Counts.{Counted}
use Rattle.names.proofs.zeros_in.Given as goal

abbrev pub invariant-loop-b : goal.invariant-loop-b
invariant-loop-b l = Counted l.bytes l.b-index l.n
