-- `check` meets its contract: refused input by `called_refused`, a blank file by `called_blank` and accepted input by `called_accepted` of
-- proofs/Answers.antt.
-- Assumes nothing.
use mathlib.Core.Path.{sym, refl}
use Rattle.project.proofs.Answers.{model_accepted, aliases_accepted, work_accepted, called_refused, called_blank, called_accepted}
use Rattle.project.proofs.check.Goals as goal

pub judge-requires : goal.judge-requires
judge-requires c =
    let e = sym (rw c.in-Ok-Some.field-0-is at c.in-Ok-Some.ensures) in
    record { model = model_accepted _ _ _ _ _ e; aliases = aliases_accepted _ _ _ _ _ e; room = work_accepted _ _ _ _ _ e }

pub returns-in-Ok-Some : goal.returns-in-Ok-Some
returns-in-Ok-Some c = called_accepted _ _ _ _ _ _ (rw c.in-Ok-Some.field-0-is at c.in-Ok-Some.ensures) (c.judge.ensures.cleared, c.judge.ensures.judged)

pub returns-in-Ok-None : goal.returns-in-Ok-None
returns-in-Ok-None c = called_blank _ _ _ _ _ (rw c.in-Ok-None.field-0-is at c.in-Ok-None.ensures) c.report_blank.ensures

pub returns-in-Err : goal.returns-in-Err
returns-in-Err c = called_refused _ _ _ _ _ _ _ c.in-Err.ensures refl
