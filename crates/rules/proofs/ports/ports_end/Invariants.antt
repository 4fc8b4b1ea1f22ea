-- `rules::ports::ports_end` meets its contract: what is left of the walk ends where the list does. Assumes nothing.
use Rattle.rules.specs.World.{PortsOf}
use Rattle.rules.proofs.Walks.{Left}
use Rattle.rules.proofs.ports.ports_end.Given as goal

abbrev pub invariant-loop : goal.invariant-loop
invariant-loop l = (g : PortsOf l.fn.records l.at) → Left l.fn.records g l.ports
