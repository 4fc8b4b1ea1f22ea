-- `rules::class_of` meets its contract. Assumes nothing.
use native.Mathlib.Omega.{arith}
use borrow.Author.Tests.{le-leb, lt-leb}
use Rattle.rules.proofs.Classes.{class_kind}
use Rattle.rules.proofs.class_of.Goals as goal

pub returns-in-0-to-50 : goal.returns-in-0-to-50
returns-in-0-to-50 c = λ o e. rw (← class_kind o, e, le-leb c.args.k 50 (omega arith))

pub returns-in-0-to-52 : goal.returns-in-0-to-52
returns-in-0-to-52 c = λ o e. rw (← class_kind o, e, lt-leb c.args.k 50 (omega arith), le-leb c.args.k 52 (omega arith))

pub returns-in-0-to-56 : goal.returns-in-0-to-56
returns-in-0-to-56 c = λ o e. rw (← class_kind o, e, lt-leb c.args.k 50 (omega arith), lt-leb c.args.k 52 (omega arith), le-leb c.args.k 56 (omega arith))

pub returns-in-0-to-61 : goal.returns-in-0-to-61
returns-in-0-to-61 c = λ o e. rw (← class_kind o, e, lt-leb c.args.k 50 (omega arith), lt-leb c.args.k 52 (omega arith), lt-leb c.args.k 56 (omega arith), le-leb c.args.k 61 (omega arith))

pub returns-in_default : goal.returns-in_default
returns-in_default c = λ o e. rw (← class_kind o, e, lt-leb c.args.k 50 (omega arith), lt-leb c.args.k 52 (omega arith), lt-leb c.args.k 56 (omega arith), lt-leb c.args.k 61 (omega arith))
