-- `absent_probes` meets its contract. The loop's invariant is `Probing` of proofs/Loops.antt. Assumes nothing.
use Rattle.scope.specs.Names.{NamesHere}
use Rattle.ports.proofs.Loops.{Probing}
use Rattle.ports.proofs.absent_probes.Given as goal

abbrev pub invariant-loop-word : goal.invariant-loop-word
invariant-loop-word l = (g : NamesHere l.words l.list) → Probing g l.word-index l.scope.entries l.q l.initial.lines l.lines
