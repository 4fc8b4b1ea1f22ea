-- `first_batch` meets its contract: refused input by `refused_batched`, a blank file by `blank_batched` and accepted input by
-- `first_accepted` of proofs/Laws.antt.
-- Assumes nothing.
use native.Mathlib.Omega.{arith}
use mathlib.Core.Path.{sym, refl}
use Rattle.project.proofs.Answers.{model_accepted, aliases_accepted}
use Rattle.staging.proofs.Laws.{refused_batched, blank_batched, first_accepted}
use Rattle.staging.proofs.first_batch.Goals as goal

pub begin-requires : goal.begin-requires
begin-requires c = let e = sym (rw c.in-Ok-Some.field-0-is at c.in-Ok-Some.ensures) in record { model = model_accepted _ _ _ _ _ e; aliases = aliases_accepted _ _ _ _ _ e }

pub returns-in-Ok-Some : goal.returns-in-Ok-Some
returns-in-Ok-Some c = first_accepted _ _ _ _ _ _ _ _ (sym (rw c.in-Ok-Some.field-0-is at c.in-Ok-Some.ensures)) c.requires (omega arith) c.begin.ensures

pub returns-in-Ok-None : goal.returns-in-Ok-None
returns-in-Ok-None c = blank_batched _ _ _ _ _ _ _ _ _ (rw c.in-Ok-None.field-0-is at c.in-Ok-None.ensures) refl c.report_blank.ensures c.no_lines.ensures

pub returns-in-Err : goal.returns-in-Err
returns-in-Err c = refused_batched _ _ _ _ _ _ _ _ c.in-Err.ensures refl c.no_lines-in-Err.ensures
