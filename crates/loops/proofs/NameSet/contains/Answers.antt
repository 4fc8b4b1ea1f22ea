-- `NameSet::contains` meets its contract. Assumes nothing.
use Prim.Native.Nat.{◌+◌, ◌*◌, ◌/◌}
use native.Mathlib.Omega.{arith}
use mathlib.Core.Path.{◌≡◌, refl}
use Rattle.loops.specs.Rows.{bit, has}
use Rattle.loops.proofs.NameSet.contains.Goals as goal

pub returns : goal.returns
unfolding has bit
returns c = let z : 8 * 0 + c.args.name.number / 64 ≡ c.args.name.number / 64 = omega arith in rw z refl
