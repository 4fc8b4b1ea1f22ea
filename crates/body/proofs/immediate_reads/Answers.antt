-- `body::immediate_reads` meets its contract. The loop's invariant is `Collecting` of proofs/Collects.antt, and each way through its body
-- a law of that file. Assumes nothing.
use Prim.Native.Nat.{◌+◌}
use native.Mathlib.Omega.{arith}
use mathlib.Core.Path.{◌≡◌}
use lib.ListN.{get_or}
use Rattle.standing.specs.Owed.{There}
use Rattle.body.proofs.Collects.{collecting_start, collecting_pass, collecting_done, pre_argument, after_pre}
use Rattle.body.proofs.immediate_reads.Goals.{In-loop-left}
use Rattle.body.proofs.immediate_reads.Goals as goal

module _ (c : In-loop-left) where
  owed : c.loop-left.left ≡ 0 → ⊥
  owed z = omega (arith, z, c.loop-left-test.true)

  -- the argument of a `pre` stands behind its record
  argument : get_or c.args.records.now.kinds.now c.loop-left.next 0 ≡ 68 → There c.args.records.now.kinds.now c.args.records.now.words.now (c.loop-left.next + 1)
  argument h = pre_argument c.loop-left.invariant owed c.requires h

pub loop-left-init : goal.loop-left-init
loop-left-init c = collecting_start c.requires

pub skip-next-requires : goal.skip-next-requires
skip-next-requires c = argument (goal.at.skip-next-requires c).In-loop-left c.if-kind-eq-PRE.true

pub loop-left-smaller-then-kind-eq-PRE : goal.loop-left-smaller-then-kind-eq-PRE
loop-left-smaller-then-kind-eq-PRE c = omega (arith, c.skip-next.ensures (argument (goal.at.loop-left-smaller-then-kind-eq-PRE c).In-loop-left c.if-kind-eq-PRE.true))

pub loop-left-preserved-then-kind-eq-PRE : goal.loop-left-preserved-then-kind-eq-PRE
loop-left-preserved-then-kind-eq-PRE c = after_pre c.loop-left.invariant (owed (goal.at.loop-left-preserved-then-kind-eq-PRE c).In-loop-left) c.requires c.if-kind-eq-PRE.true c.skip-next.ensures

pub loop-left-preserved : goal.loop-left-preserved
loop-left-preserved c =
    rw c.owes.ensures (collecting_pass c.loop-left.invariant (owed (goal.at.loop-left-preserved c).In-loop-left) c.requires c.if-kind-eq-PRE.false c.note_read.ensures)

pub returns : goal.returns
returns c = collecting_done c.loop-left.invariant (omega (arith, c.loop-left-test.false))
