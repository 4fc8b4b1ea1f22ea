-- `standing::skip` meets its contract. The loop's invariant: the parts that are owed stand from here up to the expression's end.
-- Assumes nothing.
use mathlib.Core.Path.{◌≡◌}
use native.Mathlib.Omega.{arith}
use Rattle.standing.specs.Owed.{There}
use Rattle.standing.proofs.Sizes.{expr_end}
use Rattle.standing.proofs.Owed.{start, next, owing_none, turn}
use Rattle.standing.proofs.skip.Goals as goal

pub loop-left-init : goal.loop-left-init
loop-left-init c =
    let g = c.requires in
    let w = start _ g.e _ g.stands in
    record { turn = turn _ w (expr_end _ g.e _ g.stands); owed = λ g. (_, start _ g.e _ g.stands) }

pub loop-left-preserved : goal.loop-left-preserved
loop-left-preserved c =
    let g = c.requires in
    let z : c.loop-left.left ≡ 0 → ⊥ = λ e. omega (arith, c.loop-left-test.true, e) in
    let on = λ (g : There c.args.records.now.kinds.now c.args.records.now.words.now c.args.at). (next _ (c.loop-left.invariant.owed g).1 z).onward in
    rw c.owes.ensures (record { turn = turn _ (on g) (expr_end _ g.e _ g.stands); owed = λ g. (_, on g) })

pub returns : goal.returns
returns c = λ g. (owing_none _ (c.loop-left.invariant.owed g).1 (omega (arith, c.loop-left-test.false))).1
