-- A record in range is passed, and where the walk stops stands the first out of range, or the end. Assumes nothing.
use Rattle.std.proofs.Common.{sym, ap, ◌∙◌}
use Rattle.records.specs.Ranges.{bad_from}
use Rattle.records.proofs.Ranges as ranges
use Rattle.records.proofs.first_bad_from.Goals as goal

pub returns-then-not-judge : goal.returns-then-not-judge
returns-then-not-judge c = rw c.loop-s.invariant (ranges.found c.args.names c.loop-s.s (rw (← c.count.ensures) c.loop-s-test.true) (sym c.if-not-judge.ensures))

pub loop-s-preserved : goal.loop-s-preserved
loop-s-preserved c =
    c.loop-s.invariant ∙ ranges.passed c.args.names c.loop-s.s (rw (← c.count.ensures) c.loop-s-test.true) (sym c.if-not-judge.ensures) ∙ ap (bad_from c.args.names) (sym c.next-s.ensures)

pub returns : goal.returns
returns c = rw c.loop-s.invariant (ranges.ended c.args.names c.loop-s.s (rw (← c.count.ensures) c.loop-s-test.false))
