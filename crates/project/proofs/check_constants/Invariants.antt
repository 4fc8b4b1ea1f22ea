-- The loop of `project::check_constants`: `Checking` of proofs/Constants.antt at the next record, for every model. Assumes nothing.
use Rattle.std.specs.Prelude.{◌<◌}
use Rattle.project.specs.Call.{ModelDeclared}
use Rattle.project.proofs.Constants.{Checking}
use Rattle.project.proofs.check_constants.Given as goal

abbrev pub invariant-loop-at : goal.invariant-loop-at
invariant-loop-at l = (l.number < l.at) × ((g : ModelDeclared l.ctx.records.kinds.now l.ctx.records.words.now l.ctx.scope.now.entries) → Checking g.model l.initial.lines l.at l.number l.seen.bits l.lines)
