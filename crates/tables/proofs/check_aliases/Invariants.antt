-- The loop of `tables::check_aliases`: the lines of the names from `number` on complete the report. Assumes nothing.
use Rattle.std.specs.Prelude.{◌-◌, ◌≤◌}
use Rattle.lines.specs.declared.Lines.{Lines}
use Rattle.scope.specs.Writes.{Reports}
use Rattle.tables.specs.Entered.{TypesHere}
use Rattle.tables.proofs.Aliases.{lines_from}
use Rattle.tables.proofs.check_aliases.Given as goal

abbrev pub invariant-loop-number : goal.invariant-loop-number
invariant-loop-number l = (l.number ≤ l.names) × ((g : TypesHere l.ctx.records.kinds.now l.ctx.records.words.now l.ctx.scope.now.entries l.numbers) (o' : Lines) → Reports g.model.number (lines_from g (512 - l.number) l.number) l.lines o' → Reports g.model.number (lines_from g 512 0) l.initial.lines o')
