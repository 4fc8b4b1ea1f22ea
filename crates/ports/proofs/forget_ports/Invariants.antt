-- `forget_ports` meets its contract. The loop's invariant is `Leaving` of proofs/Loops.antt. Assumes nothing.
use Rattle.types.specs.Value.{Injective}
use Rattle.rules.specs.World.{PortsOf}
use Rattle.ports.proofs.Loops.{Leaving}
use Rattle.ports.proofs.forget_ports.Given as goal

abbrev pub invariant-loop-name : goal.invariant-loop-name
invariant-loop-name l = (g : PortsOf l.fn.records l.list) → Injective g.text → Leaving l.fn.records g l.name-iterator l.initial.scope.entries l.scope.entries
