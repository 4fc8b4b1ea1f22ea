-- `types::Typ::wrap` meets its contract. The invariant: the first i of t's lengths are around this type's own. Assumes nothing.
use Prim.Native.Nat.{ℕ}
use native.Mathlib.Omega.{arith}
use native.Mathlib.Nat.{add-zero}
use mathlib.Core.Path.{◌≡◌, refl, ap}
use borrow.Author.Rules.{rules}
use Rattle.types.specs.Value.{up}
use Rattle.types.proofs.Values.{up_around}
use Rattle.types.proofs.Typ.wrap.Goals as goal

pub loop-i-init : goal.loop-i-init
unfolding up
loop-i-init c = let u = c.args.self.now in record { base = refl; name = refl; around = λ s. ap (λ (k : ℕ). up u.lengths k s) (add-zero u.levels) }

pub loop-i-preserved : goal.loop-i-preserved
loop-i-preserved c =
    let l = c.loop-i in
    record { base = l.invariant.base; name = l.invariant.name; around = λ s. up_around l.self.lengths c.args.t.now.lengths c.args.self.now.lengths c.args.self.now.levels l.i s (search rules) (l.invariant.around s) }

pub returns : goal.returns
returns c =
    let l = c.loop-i in
    let e : l.i ≡ c.args.t.now.levels = omega arith in
    record { base = l.invariant.base; name = l.invariant.name; levels = refl; is = rw e at l.invariant.around }
