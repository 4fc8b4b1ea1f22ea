-- `clear_row` meets its contract. Assumes nothing.
use native.Mathlib.Omega.{arith}
use Rattle.loops.proofs.Stores.{emptied}
use Rattle.loops.proofs.clear_row.Goals as goal

pub returns : goal.returns
returns c = emptied c.args.a (omega (arith, c.requires, c.told-graph)) (c.fill.ensures.after (λ y e. e))
