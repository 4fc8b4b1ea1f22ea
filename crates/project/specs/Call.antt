-- The call on a lent buffer of lines, six words a line: what the buffer holds after it. The answer and the work memory are lustre's `answer`
-- and `work_after`, where the room for lines is a sixth of the buffer's length.
-- Assumes nothing: these are definitions.
use Rattle.std.specs.Prelude.{ℕ, ◌*◌, ◌≡◌, true, false, length, take, drop}
use mathlib.Core.List.{List, [], ◌++◌, map, flat_map}
use Rattle.lustre.specs.Report.{report}
use Rattle.lustre.specs.Answer.{answer, reported, writes, stored_report, work_after}
use Rattle.lustre.specs.declared.Line.{Line}
use Rattle.lustre.specs.declared.Answer.{Answer}
use Rattle.lines.specs.Lines.{words, room}
use Rattle.types.specs.declared.context.Context.{Context}
use Rattle.scope.specs.Model.{Model}
use Rattle.scope.specs.Tables.{Declared}
use Rattle.scope.specs.Writes.{line_by}

-- the first lines that fit, and what was lent behind them
unfoldable pub over_words : List Line → List ℕ → List ℕ
over_words lines lent = flat_map words (take (room lent) lines) ++ drop (length (take (room lent) lines) * 6) lent

-- what the lent buffer holds after the call
unfoldable pub buffer_after : (kinds ws text : List ℕ) (work : ℕ) → List ℕ → List ℕ
buffer_after kinds ws text work lent = elim (writes (answer kinds ws text work (room lent))) [ true ↦ over_words (stored_report kinds ws text) lent | false ↦ lent ]

-- the call's answer, lines and work memory, for all that may be lent
pub record Called (kinds ws text work lent : List ℕ) (r : Answer) (work' lent' : List ℕ) : Type 0 where
  pub answered : r ≡ answer kinds ws text (length work) (room lent)
  pub lines : lent' ≡ buffer_after kinds ws text (length work) lent
  pub worked : work' ≡ work_after kinds ws text (room lent) work

-- a model whose declarations are in the scope, where no port is
pub record ModelDeclared (ks ws sc : List ℕ) : Type 0 where
  pub model : Model ks ws
  pub declared : Declared model [] sc

abbrev pub ModelDeclaredOf : Context → Type 0
ModelDeclaredOf x = ModelDeclared x.records.kinds.now x.records.words.now x.scope.now.entries

-- the answer to a model and the lines that fit
pub record JudgedAs {ks ws : List ℕ} (g : Model ks ws) (lent : List ℕ) (r : Answer) (lent' : List ℕ) : Type 0 where
  pub answered : r ≡ reported (room lent) g.P
  pub lines : lent' ≡ over_words (map (line_by g.number) (report g.P)) lent
