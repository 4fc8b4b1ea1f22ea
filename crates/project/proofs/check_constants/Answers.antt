-- `project::check_constants` meets its contract. Assumes nothing.
use native.Mathlib.Omega.{arith}
use Rattle.tables.proofs.Repeats.{spotted}
use Rattle.project.proofs.Constants.{checking_start, checking_past, checking_given, checking_constant, checking_done}
use Rattle.project.proofs.check_constants.Goals as goal
use Rattle.project.proofs.check_constants.Goals.{then-ctx-at-eq-CONSTANT, else-ctx-at-eq-CONSTANT}

pub loop-at-init : goal.loop-at-init
loop-at-init c = (omega arith, λ g. checking_start g.model c.new-seen.ensures)

pub check_constant-requires-clause-constant : goal.check_constant-requires-clause-constant
check_constant-requires-clause-constant c = let g = c.requires in checking_given g.model (c.loop-at.invariant.1 g) g.declared c.loop-at-test.true c.if-ctx-at-eq-CONSTANT.true

pub loop-at-preserved : goal.loop-at-preserved
loop-at-preserved c = elim c.if-ctx-at-eq-CONSTANT.branch [
  | then-ctx-at-eq-CONSTANT w ↦ rw (w.lines-is, w.seen-is, w.number-is) (omega arith, λ g. checking_constant g.model (c.loop-at.invariant.1 g) g.declared c.loop-at-test.true w.if-ctx-at-eq-CONSTANT.true (let s = spotted w.about.ensures in record { place = s.place; number = s.number; equation = s.equation }) w.check_constant.ensures)
  | else-ctx-at-eq-CONSTANT w ↦ rw (w.lines-is, w.seen-is, w.number-is) (omega arith, λ g. checking_past g.model (c.loop-at.invariant.1 g) c.loop-at-test.true w.if-ctx-at-eq-CONSTANT.false)
]

pub returns : goal.returns
returns c = λ g. checking_done g.model (c.loop-at.invariant.1 g) (omega (arith, c.loop-at-test.false))
