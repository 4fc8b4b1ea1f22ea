-- `names::check_names` meets its contract. The invariant: the pieces passed are names, and the rest decides.
use Rattle.names.proofs.Checks.{Passed}
use Rattle.names.proofs.check_names.Given as goal

abbrev pub invariant-loop-piece : goal.invariant-loop-piece
invariant-loop-piece l = Passed l.text l.piece-iterator.rest.now l.before l.n
