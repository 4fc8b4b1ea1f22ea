-- Lines read of a flat buffer.
-- Assumes nothing: this is a definition.
use Rattle.std.specs.Prelude.{ℕ, zero, suc, List, [], ◌∷◌, ◌++◌}
use Rattle.lustre.specs.declared.Line.{Line}
use Rattle.lines.specs.Lines.{line_in}

-- the first k lines of flat
abbrev pub lines_in : ℕ → List ℕ → List Line
lines_in zero flat = []
lines_in (suc k) flat = lines_in k flat ++ line_in flat k ∷ []
