-- What the exported calls leave: an answer's three numbers, and what the contract of `project::check`, or of `checker::check_project`, promises
-- of that answer and of the buffers.
-- Assumes nothing: these are definitions.
use Rattle.std.specs.Prelude.{ℕ, ◌≡◌, List}
use Rattle.lustre.specs.Answer.{refusal_of, first_of, second_of}
use Rattle.lustre.specs.declared.Answer.{Answer}
use Rattle.lustre.specs.declared.Line.{Line}
use Rattle.project.specs.Call.{Called}
use Rattle.checker.specs.Call.{Checked}

-- the three numbers are those of the answer
pub record Told (answer : Answer) (refusal first second : ℕ) : Type 0 where
  pub numbered : refusal ≡ refusal_of answer
  pub counted : first ≡ first_of answer
  pub followed : second ≡ second_of answer

-- lines lent as words: the numbers of an answer, and what `project::check` promises of it
pub record Answered (kinds ws text work lent : List ℕ) (refusal first second : ℕ) (work' lent' : List ℕ) : Type 0 where
  pub answer : Answer
  pub called : Called kinds ws text work lent answer work' lent'
  pub told : Told answer refusal first second

-- lines lent as records of six fields: the numbers of an answer, and what `checker::check_project` promises of it
pub record AnsweredLines (kinds ws text work : List ℕ) (lent : List Line) (refusal first second : ℕ) (work' : List ℕ) (lent' : List Line) : Type 0 where
  pub answer : Answer
  pub checked : Checked kinds ws text work lent answer work' lent'
  pub told : Told answer refusal first second
