-- The loop of `tables::declare_variants`: the variants that are left stand from the word on, the others are entered, and the lines of those that
-- are left complete the report. Assumes nothing.
use Rattle.std.specs.Prelude.{List, ◌+◌, ◌-◌, get_or}
use Rattle.lustre.specs.Name.{Name}
use Rattle.lustre.specs.Types.{Ty}
use Rattle.lustre.specs.Project.{Port, Heading}
use Rattle.scope.specs.Tables.{Tables}
use Rattle.tables.specs.Entered.{EnumGiven}
use Rattle.tables.proofs.Variants.{here, Left, Entering}
use Rattle.tables.proofs.declare_variants.Given as goal

abbrev pub invariant-loop-word : goal.invariant-loop-word
invariant-loop-word l = (g : EnumGiven l.words l.at) → (k : Left g (get_or l.words (l.at + 1) 0 - l.word-index) (l.at + 2 + l.word-index)) × ((as' : List (Name × Ty)) (rs : List (Name × List Port)) (us : List (Name × Name)) (cs : List (Name × Ty)) (ns : List (Name × Heading)) (env : List Port) → Tables (here g) as' rs us cs ns env l.initial.scope.entries → Entering g l.number as' rs us cs ns env l.initial.lines k.rest l.scope.entries l.lines)
