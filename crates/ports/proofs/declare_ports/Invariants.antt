-- `declare_ports` meets its contract. The loop's invariant is `Entering` of proofs/Loops.antt. Assumes nothing.
use mathlib.Core.Path.{◌≡◌}
use Rattle.types.specs.Value.{Injective}
use Rattle.rules.specs.World.{PortsOf}
use Rattle.ports.proofs.Loops.{Entering}
use Rattle.ports.proofs.declare_ports.Given as goal

abbrev pub invariant-loop-name : goal.invariant-loop-name
invariant-loop-name l =
    (l.ports.records ≡ l.fn.records)
    × ((g : PortsOf l.fn.records l.list) → Injective g.text → Entering l.fn.records g l.ports l.code l.q l.initial.scope.entries l.initial.lines l.scope.entries l.lines)
