-- `equations::join_names` meets its contract. The loop keeps `Joining` of proofs/Edges.antt: with edges from the names that are left the graph has
-- those from all. Assumes nothing.
use Rattle.scope.proofs.Names.{names_are}
use Rattle.equations.proofs.Edges.{joining_more, joining_done}
use Rattle.equations.proofs.join_names.Goals as goal

pub loop-name-preserved : goal.loop-name-preserved
loop-name-preserved c = joining_more c.loop-name.invariant c.loop-name-test.true c.join_row.ensures

pub returns : goal.returns
returns c = λ g inj a b p q. rw (← names_are g) (joining_done c.loop-name.invariant c.loop-name-test.false g.text inj a b p q)
