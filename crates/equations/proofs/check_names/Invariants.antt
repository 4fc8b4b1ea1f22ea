-- `equations::check_names` meets its contract. The loop keeps `Assigning` of proofs/Assigned.antt: once the names that are left are noted, all
-- are. Assumes nothing.
use Rattle.equations.proofs.Assigned.{Assigning}
use Rattle.equations.proofs.check_names.Given as goal

abbrev pub invariant-loop-word : goal.invariant-loop-word
invariant-loop-word l = Assigning l.word-items l.ctx.scope.now.entries l.ins.bits l.initial.assigned.bits l.q l.initial.lines l.word-index l.assigned.bits l.lines
