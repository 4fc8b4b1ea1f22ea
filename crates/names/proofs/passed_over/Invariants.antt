-- `names::passed_over` meets its contract. The invariant: the name is name `left` of the rest.
use Rattle.std.proofs.Common.{◌≡◌, length}
use Rattle.lustre.specs.Names.{names_of, name_at}
use Rattle.names.proofs.passed_over.Given as goal

abbrev pub invariant-loop-front : goal.invariant-loop-front
invariant-loop-front l = name_at (names_of l.rest) l.left ≡ name_at (names_of l.text) l.n

abbrev pub decreases-loop-front : goal.decreases-loop-front
decreases-loop-front l = length l.rest
