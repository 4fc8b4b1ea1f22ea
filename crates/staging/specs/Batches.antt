-- A batch of the report's lines in the work memory: what the call stores in all, and what stands there now.
-- Assumes nothing: these are definitions.
use Rattle.std.specs.Prelude.{ℕ, ◌+◌, ◌*◌, ◌^◌, ◌≤◌, ◌<◌, ◌≡◌, true, false, List, [], length, get_or, take}
use Rattle.lustre.specs.Names.{names_of}
use Rattle.lustre.specs.Answer.{answer, writes, stored_report, work_after}
use Rattle.lustre.specs.declared.Line.{Line}
use Rattle.lines.specs.Lines.{line_in}
use Rattle.staging.specs.declared.Batch.{Batch}

-- the lines that the call stores: those of the report that fit the room; none after any other refusal than 7
unfoldable pub due : (kinds words text : List ℕ) (work room : ℕ) → List Line
due kinds words text work room = elim (writes (answer kinds words text work room)) [ true ↦ take room (stored_report kinds words text) | false ↦ [] ]

-- what a list of lines has past its end
abbrev pub blank : Line
blank = record { code = 0; place = 0; number = 0; equation = 0; step = 0; name = 0 }

-- The batch b has the call's answer and the number of lines due, and where some are, the number of names.
pub record Sums (kinds words text : List ℕ) (work room : ℕ) (b : Batch) : Type 0 where
  pub answered : b.answer ≡ answer kinds words text work room
  pub goal : b.goal ≡ length (due kinds words text work room)
  pub names : 0 < b.goal → b.names ≡ length (names_of text)

-- The batch b stands in `work`, the work memory, which held `lent` at first. The lines due from number `at` on, `count` of them, stand
-- there; while lines are due there is one at least. When none is left `work` is as it is to be after the call.
pub record Batched (kinds words text lent : List ℕ) (room : ℕ) (b : Batch) (work : List ℕ) : Type 0 where
  pub sums : Sums kinds words text (length lent) room b
  pub within : b.at + b.count ≤ b.goal
  pub some : b.at < b.goal → 0 < b.count
  pub fits : b.count * 6 ≤ length work
  pub lines : (k : ℕ) → k < b.count → line_in work k ≡ get_or (due kinds words text (length lent) room) (b.at + k) blank
  pub done : b.at ≡ b.goal → work ≡ work_after kinds words text room lent

-- what is asked to go on after a batch: it stands in the work memory, and lines are due
pub record Going (kinds words work : List ℕ) (b : Batch) : Type 0 where
  pub text : List ℕ
  pub lent : List ℕ
  pub room : ℕ
  pub small : room < 2 ^ 63
  pub long : length work ≡ length lent
  pub batch : Batched kinds words text lent room b work
  pub more : b.at < b.goal
