-- `tables::check_aliases` meets its contract. Assumes nothing.
use native.Mathlib.Omega.{arith}
use mathlib.Core.Path.{sym}
use Rattle.scope.proofs.Writes.{reports_none}
use Rattle.tables.proofs.Aliases.{lines_all, lines_none, reports_alias}
use Rattle.tables.proofs.check_aliases.Goals as goal

pub loop-number-preserved : goal.loop-number-preserved
loop-number-preserved c = (omega (arith, c.loop-number-test.true), λ g o' d. c.loop-number.invariant.1 g o' (reports_alias g (omega (arith, c.requires.few, c.loop-number-test.true)) (c.check_alias.ensures g) d))

pub returns : goal.returns
returns c =
    λ g e b.
    let below = rw (sym e) at b in
    rw (sym (lines_all g below)) (c.loop-number.invariant.1 g _ (rw (lines_none g below c.loop-number.number (omega (arith, c.loop-number-test.false))) (reports_none g.model.number)))
