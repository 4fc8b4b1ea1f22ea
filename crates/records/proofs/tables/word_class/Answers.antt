-- The kinds of no class, and the operators. Assumes nothing.
use Rattle.std.proofs.Common.{rules, tests}
use Rattle.lustre.specs.Name.{mem}
use Rattle.lustre.specs.Records as records
use Rattle.lustre.specs.Records.{word_class, class_in}
use Rattle.records.proofs.tables.word_class.Goals as goal

pub returns-in_default : goal.returns-in_default
unfolding word_class records.word_classes class_in mem
returns-in_default c = search (rules, tests)

pub returns-in_default-2 : goal.returns-in_default-2
unfolding word_class records.word_classes class_in mem
returns-in_default-2 c = search (rules, tests)

pub returns-in_default-3 : goal.returns-in_default-3
unfolding word_class records.word_classes class_in mem
returns-in_default-3 c = search (rules, tests)

pub returns-in_default-4 : goal.returns-in_default-4
unfolding word_class records.word_classes class_in mem
returns-in_default-4 c = search (rules, tests)

pub returns-in-13-3 : goal.returns-in-13-3
unfolding word_class records.word_classes class_in mem
returns-in-13-3 c = search (rules, tests)
