-- `types::context::Context::follow` meets its contract. The invariant is `Following`: what the name gives is what the base gives with the levels left,
-- inside the lengths counted. The measure is the levels left. Assumes nothing.
use Prim.Native.Nat.{◌-◌}
use Rattle.types.proofs.Follows.{Following}
use Rattle.types.proofs.context.Context.follow.Given as goal

abbrev pub invariant-loop-base : goal.invariant-loop-base
invariant-loop-base l = Following l.self.records.kinds.now l.self.records.words.now l.self.scope.now.entries l.n l.base l.name l.levels l.depth

abbrev pub decreases-loop-base : goal.decreases-loop-base
decreases-loop-base l = 65 - l.depth
