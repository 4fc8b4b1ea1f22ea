-- The operators. Assumes nothing.
use Rattle.std.proofs.Common.{rules, tests}
use Rattle.lustre.specs.Grammar.{entries, entry}
use Rattle.records.specs.Places.{shape_in, shape_of}
use Rattle.records.proofs.tables.shape_of_expression.Goals as goal

pub returns-in-47-to-66 : goal.returns-in-47-to-66
unfolding shape_of shape_in entries entry
returns-in-47-to-66 c = search (rules, tests)

pub returns-in-45 : goal.returns-in-45
unfolding shape_of shape_in entries entry
returns-in-45 c = search (rules, tests)
