-- `first` meets its contract: the first place of the last name. Assumes nothing.
use Rattle.std.proofs.Common.{rules, tests}
use Prim.Native.Nat.{◌-◌}
use native.Mathlib.Omega.{arith}
use mathlib.Core.Path.{◌≡◌}
use lib.ListN.{get_or, take}
use Rattle.std.proofs.lemmas.Iterator.{IsFirst-from_position, YieldsList-from_slice}
use Rattle.loops.proofs.Place.{placed}
use Rattle.loops.proofs.first.Goals as goal

pub returns : goal.returns
returns c =
    let p = c.args.path.now in
    let x = get_or p (c.args.end - 1) 0 in
    placed (omega (arith, c.requires, c.told-path)) c.unwrap.ensures (IsFirst-from_position _ _ _ (λ y. y ≡ x) (λ y. y ≡ x → ⊥) c.position.ensures.ran (YieldsList-from_slice (take c.args.end p) cc) (λ y q k. search (rules, tests)) (λ y q k. search (rules, tests)))
