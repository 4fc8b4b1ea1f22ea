-- The call on a lent slice of lines: its answer and what the buffers hold after it, for all that may be lent; and the same of a caller that
-- has 1,024 blank lines and lends the first of them.
-- Assumes nothing: these are definitions and a statement, proved in proofs/Blanks.antt.
use Rattle.std.specs.Prelude.{ℕ, ◌-◌, min, ◌≡◌, List, ◌++◌, length, take, drop, replicate}
use Rattle.lustre.specs.Answer.{answer, lines_after, work_after}
use Rattle.lustre.specs.declared.Line.{Line}
use Rattle.lustre.specs.declared.Answer.{Answer}
use Rattle.staging.specs.Batches.{blank}

-- With these kinds, words, text, work memory and lines lent, the call answers r, and leaves the work memory and the lines so.
pub record Checked (kinds words text work : List ℕ) (lent : List Line) (r : Answer) (work' : List ℕ) (lent' : List Line) : Type 0 where
  pub answered : r ≡ answer kinds words text (length work) (length lent)
  pub lines : lent' ≡ lines_after kinds words text (length work) lent
  pub worked : work' ≡ work_after kinds words text (length lent) work

-- With these kinds, words, text and work memory lent, and room for so many lines, 1,024 at most, the answer a and the 1,024 lines are those
-- of the call with as many blank lines lent. The lines behind them are blank.
pub record AllChecked (kinds words text work : List ℕ) (room : ℕ) (a : Answer) (lines : List Line) (work' : List ℕ) : Type 0 where
  pub checked : Checked kinds words text work (replicate (min room 1024) blank) a work' (take (min room 1024) lines)
  pub behind : drop (min room 1024) lines ≡ replicate (1024 - min room 1024) blank

-- A call that is lent the first of 1,024 blank lines, as many as there is room for, leaves all 1,024 so.
abbrev pub BlanksLent : Type 0
BlanksLent = (kinds words text work : List ℕ) (room : ℕ) (a : Answer) (work' : List ℕ) (ls : List Line)
    → Checked kinds words text work (replicate (min room 1024) blank) a work' ls
    → AllChecked kinds words text work room a (ls ++ replicate (1024 - min room 1024) blank) work'
