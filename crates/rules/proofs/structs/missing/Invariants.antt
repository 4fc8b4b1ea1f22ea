-- `rules::structs::missing` meets its contract: the notes on the fields that are left are all that is missing. Assumes nothing.
use Rattle.rules.specs.World.{PortsOf}
use Rattle.rules.proofs.StructLaws.{Missed}
use Rattle.rules.proofs.structs.missing.Given as goal

abbrev pub invariant-loop-name : goal.invariant-loop-name
invariant-loop-name l = (g : PortsOf l.fn.records l.list) → Missed l.fn.records g l.name-iterator l.marks.bits l.step l.q l.initial.lines l.lines
