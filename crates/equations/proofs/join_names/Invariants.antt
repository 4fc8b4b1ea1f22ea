-- `equations::join_names` meets its contract. The loop keeps `Joining` of proofs/Edges.antt: with edges from the names that are left the graph has
-- those from all. Assumes nothing.
use Rattle.equations.proofs.Edges.{Joining}
use Rattle.equations.proofs.join_names.Given as goal

abbrev pub invariant-loop-name : goal.invariant-loop-name
invariant-loop-name l = Joining l.name-items l.row.bits l.initial.graph l.name-index l.graph
