-- The loop of `tables::declare_nodes`: `Declaring` of proofs/Nodes.antt at the next record, for every model. Assumes nothing.
use Rattle.std.specs.Prelude.{◌<◌}
use Rattle.tables.specs.Entered.{TypesTabled}
use Rattle.tables.proofs.Nodes.{Declaring}
use Rattle.tables.proofs.declare_nodes.Given as goal

abbrev pub invariant-loop-at : goal.invariant-loop-at
invariant-loop-at l = (l.number < l.at) × ((g : TypesTabled l.records.kinds.now l.records.words.now l.initial.scope.entries) → Declaring g.model l.initial.lines l.at l.number l.scope.entries l.lines)
