-- `infer::literal` meets its contract. Assumes nothing.
use native.Mathlib.Omega.{arith}
use Rattle.rules.proofs.Laws.{closed, closed_none}
use Rattle.infer.proofs.Cases as cases
use Rattle.infer.proofs.literal.Goals as goal

pub bounds-side-at : goal.bounds-side-at
bounds-side-at c = cases.inside c.requires.0

pub offset_bounds-side-at : goal.offset_bounds-side-at
offset_bounds-side-at c = omega (arith, cases.inside_words c.requires.0)

pub bounds-side-at-2 : goal.bounds-side-at-2
bounds-side-at-2 c = cases.inside_words c.requires.0

pub returns-in_err-typ : goal.returns-in_err-typ
returns-in_err-typ c = λ g. rw c.from_residual.ensures (closed_none (cases.literal_done g (cases.literal_here g c.requires.1) c.literal_type-k.ensures c.in_err-typ.ensures))

pub overflow_add-result : goal.overflow_add-result
overflow_add-result c = omega (arith, cases.inside c.requires.0)

pub returns : goal.returns
returns c = λ g. closed (cases.literal_done g (cases.literal_here g c.requires.1) c.literal_type-k.ensures c.in_ok-typ.ensures) (cases.literal_next g (cases.literal_here g c.requires.1))
