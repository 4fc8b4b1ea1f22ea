-- `absent_ports` meets its contract. The loop's invariant is `Lacking` of proofs/Loops.antt. Assumes nothing.
use Rattle.rules.specs.World.{PortsOf}
use Rattle.ports.proofs.Loops.{Lacking}
use Rattle.ports.proofs.absent_ports.Given as goal

abbrev pub invariant-loop-name : goal.invariant-loop-name
invariant-loop-name l = (g : PortsOf l.fn.records l.list) → Lacking l.fn.records g l.name-iterator l.set.bits l.code l.q l.initial.lines l.lines
