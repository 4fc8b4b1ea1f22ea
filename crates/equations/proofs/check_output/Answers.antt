-- `equations::check_output` meets its contract: an unknown name gets no line, and a known one gets E0043 where its declared type does not fit.
-- Assumes nothing.
use Rattle.lines.proofs.Laws.{noted_none, noted_about}
use Rattle.rules.proofs.Places.{type_there}
use Rattle.equations.proofs.Outputs.{output_free, output_fits, output_unfit}
use Rattle.equations.proofs.check_output.Goals as goal

pub read_type-requires : goal.read_type-requires
read_type-requires c = type_there c.requires.typed

pub returns-then-not-compatible : goal.returns-then-not-compatible
returns-then-not-compatible c = λ g.
    rw (output_unfit g _ (c.in-Some.ensures g.scoped) c.read_type.ensures c.compatible.ensures c.if-not-compatible.true)
    (noted_about (g.scoped.model.text _) (g.scoped.model.back _) c.put.ensures)

pub returns-else-not-compatible : goal.returns-else-not-compatible
returns-else-not-compatible c = λ g. rw (output_fits g _ (c.in-Some.ensures g.scoped) c.read_type.ensures c.compatible.ensures c.if-not-compatible.false) noted_none

pub returns-in_default : goal.returns-in_default
returns-in_default c = λ g. rw (output_free g _ (c.in_default.ensures g.scoped)) noted_none
