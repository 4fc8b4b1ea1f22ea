-- The response to a file: document 01, program `check`. The call on what the file holds, the bytes that are printed, and the status of a
-- run: a report without an error, one with an error, or a refusal.
-- Assumes nothing: these are definitions.
use Rattle.std.specs.Prelude.{ℕ, ◌≤◌, ◌≡◌, Bool, true, false, ◌||◌, List, [], ◌∷◌, eqb, length, take, if◌then◌else◌, Some}
use Rattle.std.proofs.Math.Option.{Option, none, some}
use Rattle.lustre.specs.Line.{Severity, Error, Warning, severity}
use Rattle.lustre.specs.Answer.{refusal_of, answer, stored_report}
use Rattle.lustre.specs.declared.Line.{Line}
use Rattle.lustre.specs.declared.Answer.{Answer}
use Rattle.lustre.specs.declared.Answer.TheVariants.{Refused}
use Rattle.lustre.specs.declared.Refusal.TheVariants.{Sizes}
use Rattle.format.specs.File.{Model, parse}
use Rattle.format.specs.Output.{header, line_count, output_lines, output}
use Rattle.format.specs.Buffers.{Rendered, Filled}
use Rattle.checker.specs.Call.{Checked}
use Rattle.response.specs.declared.Response.{Response}
use Rattle.response.specs.declared.Status.{Status}
use Rattle.response.specs.declared.Status.TheVariants as Run

-- whether a line of this severity is an error
unfoldable pub is_error : Severity → Bool
is_error Warning = false
is_error Error = true

-- whether one of the lines is an error
unfoldable pub any_error : List Line → Bool
any_error [] = false
any_error (l ∷ ls) = is_error (severity l.code) || any_error ls

-- that of a refusal, of a report with an error, or of any other
unfoldable pub status_of : Answer → List Line → Status
status_of a ls = if eqb (refusal_of a) 0 then (if any_error (take (line_count a) ls) then Run.Errors else Run.Clean) else Run.Refused

-- the number of a status: 0 for a report without an error, 1 for one with an error, 2 for a refusal
unfoldable pub number_of : Status → ℕ
number_of Run.Clean = 0
number_of Run.Errors = 1
number_of Run.Refused = 2

-- the answer r to a file, and the work memory and the lines after it: those of the call on what the file holds; where it holds nothing,
-- refusal 1 with the work memory and the lines as they were
pub record Answered (file work : List ℕ) (lent : List Line) (r : Answer) (work' : List ℕ) (lent' : List Line) : Type 0 where
  pub called : (m : Model) → parse file ≡ some m → Checked m.kinds m.words m.text work lent r work' lent'
  pub wrong : parse file ≡ none → (r ≡ Refused Sizes) × (work' ≡ work) × (lent' ≡ lent)

-- the lines that are printed for what a file holds, with 4,096 work words and 1,024 lines lent
unfoldable pub lines_to : Option Model → List (List ℕ)
lines_to none = header (Refused Sizes) ∷ []
lines_to (some m) = output_lines (answer m.kinds m.words m.text 4096 1024) (stored_report m.kinds m.words m.text) m.text

-- the status for what a file holds
unfoldable pub status_to : Option Model → Status
status_to none = Run.Refused
status_to (some m) = status_of (answer m.kinds m.words m.text 4096 1024) (stored_report m.kinds m.words m.text)

-- the response r to a file and the bytes o' that were o: as many whole lines of the output as fit; all of it where 175,161 bytes are lent
pub record Responded (file o : List ℕ) (r : Response) (o' : List ℕ) : Type 0 where
  pub filled : Filled (lines_to (parse file)) o 0 r.size o'
  pub whole : 175161 ≤ length o → Rendered (output file) o (Some r.size) o'
  pub status : r.status ≡ status_to (parse file)
