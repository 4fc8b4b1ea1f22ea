-- `types::context::Context::try_resolve` meets its contract. The invariant is `Trying`: what t gives is what u's bottom gives with the levels left,
-- inside u's lengths. The measure is the levels left. Assumes nothing.
use Prim.Native.Nat.{◌-◌}
use Rattle.types.proofs.Tries.{Trying}
use Rattle.types.proofs.context.Context.try_resolve.Given as goal

abbrev pub invariant-loop-u : goal.invariant-loop-u
invariant-loop-u l = Trying l.self.records.kinds.now l.self.records.words.now l.self.scope.now.entries l.t l.u l.depth

abbrev pub decreases-loop-u : goal.decreases-loop-u
decreases-loop-u l = 65 - l.depth
