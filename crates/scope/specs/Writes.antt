-- Lines of the report, where a function numbers the names.
-- Assumes nothing: these are definitions.
use Rattle.std.specs.Prelude.{ℕ, List, map}
use Rattle.std.proofs.Math.Option
use Rattle.lustre.specs.Name.{Name}
use Rattle.lustre.specs.Line as Report
use Rattle.lustre.specs.Answer.{or_none, place_number}
use Rattle.lustre.specs.declared.Line.{Line}
use Rattle.lines.specs.Lines.{Wrote}
use Rattle.lines.specs.declared.Lines.{Lines}

-- a line of the report as it is stored
unfoldable pub line_by : (Name → ℕ) → Report.Line → Line
line_by num l = record {
  code = l.remark.note.code;
  place = place_number l.place;
  number = l.number;
  equation = or_none l.remark.equation;
  step = or_none l.remark.note.step;
  name = or_none (Option.map num l.remark.note.name);
}

-- l' is l with lines of the report
abbrev pub Reports : (Name → ℕ) → List Report.Line → Lines → Lines → Type 0
Reports num ls l l' = Wrote (map (line_by num) ls) l l'
