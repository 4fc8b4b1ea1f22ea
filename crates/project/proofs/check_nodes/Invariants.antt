-- The loop of `project::check_nodes`: `Judging` of proofs/Nodes.antt at the next record, for every model, and at most 262,144 looks for each
-- record passed. Assumes nothing.
use Rattle.std.specs.Prelude.{◌*◌, ◌≤◌, ◌<◌}
use Rattle.project.specs.Call.{ModelDeclared}
use Rattle.project.proofs.Nodes.{Judging}
use Rattle.project.proofs.check_nodes.Given as goal

abbrev pub invariant-loop-at : goal.invariant-loop-at
invariant-loop-at l = (l.number < l.at) × (l.looks ≤ 262144 * l.at) × ((g : ModelDeclared l.records.kinds.now l.records.words.now l.initial.scope.entries) → Judging g.model l.initial.lines l.at l.number l.looks l.scope.entries l.graph l.lines)
