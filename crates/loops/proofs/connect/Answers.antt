-- `connect` meets its contract: the law `connected` of proofs/Stores.antt at the machine's mask of one bit. Assumes nothing.
use Prim.Native.Nat.{◌*◌, ◌%◌, ◌^◌}
use native.Mathlib.Nat.{one-mul}
use native.Mathlib.Omega.{arith}
use mathlib.Core.Path.{◌≡◌, ◌∙◌}
use lib.Pow.{shl_exact}
use Rattle.loops.proofs.Stores.{connected}
use Rattle.loops.proofs.connect.Goals as goal

pub returns : goal.returns
returns c =
    let b = c.args.b in
    let mask : 1 * 2 ^ (b % 64) % 2 ^ 64 ≡ 2 ^ (b % 64) = shl_exact 1 (b % 64) 64 (omega arith) (omega arith) ∙ one-mul (2 ^ (b % 64)) in
    rw (← mask) at (connected c.args.graph.now c.args.a b c.requires.row c.requires.name)
