-- `equations::check_outputs` meets its contract. The loop keeps `Judging` of proofs/Outputs.antt: once the names and outputs that are left are
-- noted, all are. Assumes nothing.
use Rattle.equations.specs.Equations.{OutputsOf}
use Rattle.equations.proofs.Outputs.{Judging}
use Rattle.equations.proofs.check_outputs.Given as goal

abbrev pub invariant-loop-word : goal.invariant-loop-word
invariant-loop-word l = (g : OutputsOf l.ctx l.list l.outputs) → Judging l.ctx g l.q l.initial.lines l.word-iterator.a.rest.now l.word-iterator.b l.lines
