-- `add_names` meets its contract. The loop's invariant is `Adding` of proofs/Loops.antt. Assumes nothing.
use Rattle.types.specs.Value.{Injective}
use Rattle.rules.specs.World.{PortsOf}
use Rattle.ports.proofs.Loops.{Adding}
use Rattle.ports.proofs.add_names.Given as goal

abbrev pub invariant-loop-name : goal.invariant-loop-name
invariant-loop-name l = (g : PortsOf l.fn.records l.list) → Injective g.text → Adding l.fn.records g l.name-iterator l.initial.set.bits l.set.bits
