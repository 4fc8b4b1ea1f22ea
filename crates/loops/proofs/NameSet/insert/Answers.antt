-- `NameSet::insert` meets its contract: the law `connected` of proofs/Stores.antt at the machine's mask of one bit.
-- Assumes nothing.
use Prim.Native.Nat.{◌+◌, ◌*◌, ◌/◌, ◌%◌, ◌^◌}
use native.Mathlib.Nat.{one-mul}
use native.Mathlib.Omega.{arith}
use mathlib.Core.Path.{◌≡◌, ◌∙◌}
use lib.Pow.{shl_exact}
use Rattle.loops.proofs.Stores.{connected}
use Rattle.loops.proofs.NameSet.insert.Goals as goal

pub returns-clause-added : goal.returns-clause-added
returns-clause-added c =
    let b = c.args.name.number in
    let mask : 1 * 2 ^ (b % 64) % 2 ^ 64 ≡ 2 ^ (b % 64) = shl_exact 1 (b % 64) 64 (omega arith) (omega arith) ∙ one-mul (2 ^ (b % 64)) in
    let z : 8 * 0 + b / 64 ≡ b / 64 = omega arith in
    rw mask (rw z at (connected c.args.self.now.bits 0 b (omega arith) c.args.name.below))
