-- `body::check_pre`, which calls itself, meets its contract. The measure is the number of records from the place on. The loop's invariant is
-- `Checking` of proofs/Pres.antt, and each way through its body a law of that file. Assumes nothing.
use Prim.Native.Nat.{ℕ, ◌+◌}
use native.Mathlib.Omega.{arith}
use mathlib.Core.Path.{◌≡◌}
use lib.ListN.{get_or}
use Rattle.standing.specs.Owed.{There}
use Rattle.lines.specs.declared.Lines.{Lines}
use Rattle.body.proofs.Pres.{Checks, checking_start, checking_pass, checking_done, pre_argument, after_pre, arrow_initial, arrow_body, after_arrow}
use Rattle.body.proofs.+check_pre.Goals.{In-loop-left}
use Rattle.body.proofs.+check_pre.Goals as goal

module _ {t : ℕ} (c : In-loop-left t) where
  owed : c.loop-left.left ≡ 0 → ⊥
  owed z = omega (arith, z, c.loop-left-test.true)

  -- the argument of a `pre`, and the initial side of an arrow, stand behind its record
  argument : get_or c.args.side.now.kinds.now c.loop-left.next 0 ≡ 68 → There c.args.side.now.kinds.now c.args.side.now.words.now (c.loop-left.next + 1)
  argument h = pre_argument c.loop-left.invariant owed c.requires h

  initial : get_or c.args.side.now.kinds.now c.loop-left.next 0 ≡ 69 → There c.args.side.now.kinds.now c.args.side.now.words.now (c.loop-left.next + 1)
  initial h = arrow_initial c.loop-left.invariant owed c.requires h

  -- and its body behind that
  body : {a : ℕ} {l₁ : Lines} → get_or c.args.side.now.kinds.now c.loop-left.next 0 ≡ 69
      → Checks c.args.side.now.kinds.now c.args.side.now.words.now (c.loop-left.next + 1) c.args.under c.args.q c.loop-left.lines a l₁
      → There c.args.side.now.kinds.now c.args.side.now.words.now a
  body h d = arrow_body c.loop-left.invariant owed c.requires h d

pub loop-left-init : goal.loop-left-init
loop-left-init t c = checking_start c.requires

pub check_pre-next-requires : goal.check_pre-next-requires
check_pre-next-requires t c = (omega (arith, c.decreases), argument (goal.at.check_pre-next-requires t c).In-loop-left c.in-68.is)

pub loop-left-smaller-in-68 : goal.loop-left-smaller-in-68
loop-left-smaller-in-68 t c = omega (arith, (c.check_pre-next.ensures (λ x. 0) (argument (goal.at.loop-left-smaller-in-68 t c).In-loop-left c.in-68.is)).next)

pub loop-left-preserved-in-68 : goal.loop-left-preserved-in-68
loop-left-preserved-in-68 t c =
    after_pre c.loop-left.invariant (owed (goal.at.loop-left-preserved-in-68 t c).In-loop-left) c.requires c.in-68.is c.note_pre.ensures c.check_pre-next.ensures

pub check_pre-body-requires : goal.check_pre-body-requires
check_pre-body-requires t c = (omega (arith, c.decreases), initial (goal.at.check_pre-body-requires t c).In-loop-left c.in-69.is)

pub check_pre-next-requires-in-69 : goal.check_pre-next-requires-in-69
check_pre-next-requires-in-69 t c =
    let i = (goal.at.check_pre-next-requires-in-69 t c).In-loop-left in
    (omega (arith, c.decreases, (c.check_pre-body.ensures (λ x. 0) (initial i c.in-69.is)).next), body i c.in-69.is c.check_pre-body.ensures)

pub loop-left-smaller-in-69 : goal.loop-left-smaller-in-69
loop-left-smaller-in-69 t c =
    let i = (goal.at.loop-left-smaller-in-69 t c).In-loop-left in
    omega (arith, (c.check_pre-body.ensures (λ x. 0) (initial i c.in-69.is)).next, (c.check_pre-next-in-69.ensures (λ x. 0) (body i c.in-69.is c.check_pre-body.ensures)).next)

pub loop-left-preserved-in-69 : goal.loop-left-preserved-in-69
loop-left-preserved-in-69 t c =
    after_arrow c.loop-left.invariant (owed (goal.at.loop-left-preserved-in-69 t c).In-loop-left) c.requires c.in-69.is
    c.check_pre-body.ensures
    c.check_pre-next-in-69.ensures

pub loop-left-preserved : goal.loop-left-preserved
loop-left-preserved t c =
    rw c.owes.ensures (checking_pass c.loop-left.invariant (owed (goal.at.loop-left-preserved t c).In-loop-left) c.requires (λ e. grind (arith, e)) (λ e. grind (arith, e)))

pub returns : goal.returns
returns t c = checking_done c.loop-left.invariant (omega (arith, c.loop-left-test.false))
