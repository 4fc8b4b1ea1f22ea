-- `input::check_records` meets its contract, by the laws of Judges. Assumes nothing.
use Rattle.input.proofs.Judges.{record_refused, structure_judged}
use Rattle.input.proofs.check_records.Goals as goal

pub returns-in-Some : goal.returns-in-Some
returns-in-Some c = record_refused _ _ _ _ c.in-Some.ensures _ c.record_refusal.ensures

pub returns : goal.returns
returns c = structure_judged _ _ _ c.in_default.ensures _ c.check_structure.ensures
