-- `rules::structs::record_of` meets its contract: the entry leads to the record's fields. Assumes nothing.
use mathlib.Core.Path.{refl}
use Rattle.lines.proofs.Laws.{noted_named, said_fail}
use Rattle.lustre.specs.Infer.{if_found, struct_rule}
use Rattle.rules.proofs.Laws.{found_not, found}
use Rattle.rules.proofs.structs.record_of.Goals as goal

pub returns-in-Some : goal.returns-in-Some
returns-in-Some c = λ W. let w = found (W.fields _ c.args.name.below) c.in-Some.ensures.entry in record { fs = w.a; is = w.is; listed = w.there; same = refl }

pub returns-in-None : goal.returns-in-None
unfolding struct_rule if_found
returns-in-None c = λ W. rw c.fail.ensures.none (λ vs hint. rw (found_not (W.fields _ c.args.name.below) c.in-None.ensures.entry) (said_fail (noted_named _ (W.back _) c.fail.ensures.put)))
