-- `next_batch` meets its contract: after the last batch by `going_done` and before by `going_on` of proofs/Laws.antt. Assumes nothing.
use Rattle.std.proofs.Common.{arith, refl}
use Rattle.staging.proofs.Laws.{blank_graph, going_model, going_aliases, going_done, going_on}
use Rattle.staging.proofs.next_batch.Goals as goal

pub returns-then-at-c : goal.returns-then-at-c
returns-then-at-c c = λ g. going_done _ _ _ _ g _ _ refl c.if-at-c.true (c.fill.ensures.after (λ y e. e))

pub report-requires : goal.report-requires
report-requires c = record { model = going_model _ _ _ _ c.requires; aliases = going_aliases _ _ _ _ c.requires; blank = blank_graph }

pub returns : goal.returns
returns c = λ g. going_on _ _ _ _ g _ _ _ _ c.count.ensures c.if-at-c.false refl refl refl (omega arith) (search c) (λ g' e. (c.report.ensures g' e).0)
