-- `input::check_input` meets its contract, by the laws of Judges. Assumes nothing.
use Rattle.std.proofs.Common.{Ok, Err, arith, sym}
use Rattle.std.proofs.lemmas.Result.{err_from_is_err_and}
use Rattle.input.proofs.Judges.{blank_judged, name_refused, records_judged}
use Rattle.input.proofs.check_input.Goals as goal

pub returns-then-is_blank : goal.returns-then-is_blank
returns-then-is_blank c = blank_judged _ _ _ _ (omega arith) (omega arith) (omega arith) (omega arith) (sym c.if-is_blank.ensures)

pub returns-in_err-names : goal.returns-in_err-names
returns-in_err-names c =
    let p = err_from_is_err_and c.from_residual.result c.from_residual.ensures.1 in
    rw (p.1, p.2) (name_refused _ _ _ _ (omega arith) (omega arith) (omega arith) (omega arith) (sym c.if-is_blank.ensures) _ c.in_err-names.ensures)

pub returns-in_err-check_records : goal.returns-in_err-check_records
returns-in_err-check_records c =
    let p = err_from_is_err_and c.from_residual-in_err-check_records.result c.from_residual-in_err-check_records.ensures.1 in
    rw (p.1, p.2) (records_judged _ _ _ _ (omega arith) (omega arith) (omega arith) (omega arith) (sym c.if-is_blank.ensures) _ c.in_ok-names.ensures (Err _) c.in_err-check_records.ensures)

pub returns : goal.returns
returns c = records_judged _ _ _ _ (omega arith) (omega arith) (omega arith) (omega arith) (sym c.if-is_blank.ensures) _ c.in_ok-names.ensures (Ok _) c.in_ok-check_records.ensures
