-- `next` meets its contract. The loop's invariant: what is left of the row from word `k` on is what is left from `from` on.
-- Assumes nothing.
use native.Mathlib.Omega.{arith}
use mathlib.Core.Path.{◌∙◌}
use lib.ListN.{get_or}
use Rattle.std.proofs.Common.{rules, Fits, w64}
use Prim.Native.Nat.{◌+◌, ◌*◌}
use Rattle.loops.proofs.Rows.{next_word, first_bit, first_behind, row_end}
use Rattle.loops.proofs.next.Goals as goal

pub returns-then-rest-ne0 : goal.returns-then-rest-ne0
returns-then-rest-ne0 c =
    let i = c.loop-k.invariant in
    let k = c.loop-k.k in
    let fits : Fits w64 (get_or c.args.row.now k 0) = search rules in
    first_behind i.1 i.2 (first_bit c.args.row.now k c.loop-k.skip c.loop-k-test.true i.0 c.if-rest-ne0.true fits.fits)

pub loop-k-preserved : goal.loop-k-preserved
loop-k-preserved c =
    let i = c.loop-k.invariant in
    (omega arith, omega (arith, i), i.2 ∙ next_word c.args.row.now c.loop-k.k c.loop-k.skip c.loop-k-test.true i.0 c.if-rest-ne0.false)

pub returns : goal.returns
returns c =
    let l = c.loop-k in
    l.invariant.2 ∙ row_end c.args.row.now 0 (64 * l.k + l.skip) (omega (arith, c.loop-k-test.false))
