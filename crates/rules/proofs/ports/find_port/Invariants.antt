-- `rules::ports::find_port` meets its contract: the name is found in the whole list as in what is left of the walk. Assumes nothing.
use mathlib.Core.Path.{◌≡◌}
use Rattle.lustre.specs.Name.{find}
use Rattle.types.specs.Value.{Injective}
use Rattle.rules.specs.World.{PortsOf}
use Rattle.rules.proofs.Walks.{Left}
use Rattle.rules.proofs.ports.find_port.Given as goal

abbrev pub invariant-loop-port : goal.invariant-loop-port
invariant-loop-port l =
    (g : PortsOf l.fn.records l.at) → (f : Left l.fn.records g l.port-iterator) × (Injective g.text → find (g.text l.name) g.ps ≡ find (g.text l.name) f.rest)
