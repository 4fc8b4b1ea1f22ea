-- `types::context::Context::try_resolve` meets its contract. The invariant is `Trying`: what t gives is what u's bottom gives with the levels left,
-- inside u's lengths. The measure is the levels left. Assumes nothing.
use Rattle.types.proofs.Tries.{too_long, try_starts, basic_ends, name_ends, runs_out, enters}
use Rattle.types.proofs.context.Context.try_resolve.Goals as goal

pub returns-then-depth-gt-DEEPEST : goal.returns-then-depth-gt-DEEPEST
returns-then-depth-gt-DEEPEST c = too_long _ c.if-depth-gt-DEEPEST.true

pub loop-u-init : goal.loop-u-init
loop-u-init c = try_starts _ c.if-depth-gt-DEEPEST.false

pub returns-then-depth-gt-DEEPEST-2 : goal.returns-then-depth-gt-DEEPEST-2
returns-then-depth-gt-DEEPEST-2 c =
    let a = c.in-Some.ensures in
    runs_out _ c.loop-u.invariant c.loop-u-test.true a.0 a.1 c.read_type.ensures c.if-depth-gt-DEEPEST-2.true

pub loop-u-preserved : goal.loop-u-preserved
loop-u-preserved c =
    let a = c.in-Some.ensures in
    enters _ c.loop-u.invariant c.loop-u-test.true a.0 a.1 c.read_type.ensures c.if-depth-gt-DEEPEST-2.false c.wrap.ensures

pub returns-after-loop-u : goal.returns-after-loop-u
returns-after-loop-u c = basic_ends _ c.loop-u.invariant c.loop-u-test.false

pub returns-in_default : goal.returns-in_default
returns-in_default c = name_ends _ c.loop-u.invariant c.loop-u-test.true c.in_default.ensures
