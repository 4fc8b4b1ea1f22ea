-- `types::context::Context::follow` meets its contract. The invariant is `Following`: what the name gives is what the base gives with the levels left,
-- inside the lengths counted. The measure is the levels left. Assumes nothing.
use Rattle.types.proofs.Follows.{follow_starts, basic_ends, name_ends, runs_out, enters}
use Rattle.types.proofs.context.Context.follow.Goals as goal

pub loop-base-init : goal.loop-base-init
loop-base-init c = follow_starts _

pub returns-then-depth-gt-DEEPEST : goal.returns-then-depth-gt-DEEPEST
returns-then-depth-gt-DEEPEST c =
    let a = c.in-Some.ensures in
    record { is = runs_out _ c.loop-base.invariant c.loop-base-test.true a.0 a.1 c.args.self.now.led c.last_of-last.ensures c.if-depth-gt-DEEPEST.true }

pub loop-base-preserved : goal.loop-base-preserved
loop-base-preserved c =
    let a = c.in-Some.ensures in
    enters _ c.loop-base.invariant c.loop-base-test.true a.0 a.1 c.args.self.now.led c.last_of-last.ensures c.if-depth-gt-DEEPEST.false

pub returns-after-loop-base : goal.returns-after-loop-base
returns-after-loop-base c = record { is = basic_ends _ c.loop-base.invariant c.loop-base-test.false }

pub returns-in_default : goal.returns-in_default
returns-in_default c = record { is = name_ends _ c.loop-base.invariant c.loop-base-test.true c.in_default.ensures }
