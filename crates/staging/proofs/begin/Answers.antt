-- `begin` meets its contract: no line is due and the work memory is cleared, or some are and they are counted, by the laws of proofs/Laws.antt.
-- Assumes nothing.
use Rattle.std.proofs.Common.{refl}
use Rattle.staging.proofs.Laws.{blank_graph, sum_within, begun_cleared, begun_counted}
use Rattle.staging.proofs.begin.Goals as goal

pub report-looks-requires : goal.report-looks-requires
report-looks-requires c = record { model = c.requires.model; aliases = c.requires.aliases; blank = blank_graph }

pub returns-then-b-eq0 : goal.returns-then-b-eq0
returns-then-b-eq0 c = λ g e. begun_cleared g e refl refl (c.report-looks.ensures g e) c.sum-b.ensures (search c) c.if-b-eq0.true (c.fill.ensures.after (λ y q. q))

pub count-requires : goal.count-requires
count-requires c = sum_within _ _ _ _ _ c.sum-b.ensures

pub returns : goal.returns
returns c = λ g e. begun_counted g e refl refl (c.report-looks.ensures g e) c.sum-b.ensures (search c) c.if-b-eq0.false c.count.ensures
