-- `equations::check_tuple` meets its contract: E0042 by the numbers, no line where the side is no call or its callee unknown, else what the
-- outputs say. Assumes nothing.
use mathlib.Core.Path.{sym, ◌∙◌}
use Rattle.lines.proofs.Laws.{noted_none, noted_bare}
use Rattle.rules.proofs.Laws.{found_not}
use Rattle.equations.proofs.Outputs as outputs
use Rattle.equations.proofs.check_tuple.Goals as goal

pub returns-then-members-records : goal.returns-then-members-records
returns-then-members-records c = λ g. rw (outputs.tuple_other _ _ g.left.xs _ _ (λ z. c.if-members-records.true (z ∙ sym g.left.listed.many))) (noted_bare c.put.ensures)

pub bounds-records-start : goal.bounds-records-start
bounds-records-start c = (outputs.side_record c.requires).in_kinds

pub returns-then-records-start-ne-CALL : goal.returns-then-records-start-ne-CALL
returns-then-records-start-ne-CALL c = λ g. rw (outputs.tuple_uncalled g c.if-members-records.false (outputs.side_uncalled g c.if-records-start-ne-CALL.true)) noted_none

pub name-requires-clause-small : goal.name-requires-clause-small
name-requires-clause-small c = (outputs.called c.requires c.if-records-start-ne-CALL.false).name.small

pub check_outputs-requires : goal.check_outputs-requires
check_outputs-requires c =
    let g = c.requires in
    let d = outputs.callee g c.if-records-start-ne-CALL.false _ (rw c.name.ensures at c.in-Some.ensures.entry) in
    outputs.callee_outputs g d (c.ports_end-outputs.ensures (outputs.callee_inputs g d))

pub returns-in-Some : goal.returns-in-Some
returns-in-Some c = λ g.
    let d = outputs.callee g c.if-records-start-ne-CALL.false _ (rw c.name.ensures at c.in-Some.ensures.entry) in
    rw (outputs.tuple_called g d c.if-members-records.false) (c.check_outputs.ensures (outputs.callee_outputs g d (c.ports_end-outputs.ensures (outputs.callee_inputs g d))))

pub returns-in_default : goal.returns-in_default
returns-in_default c = λ g.
    let k = c.if-records-start-ne-CALL.false in
    rw (outputs.tuple_uncalled g c.if-members-records.false (outputs.called_unknown g k (found_not (outputs.called_entry g k) (rw c.name.ensures at c.in_default.ensures.entry)))) noted_none
