-- The loop of `tables::declare_types`: the pass meets the heads that are left, the types before are entered, and the lines of the types that
-- are left complete the report; before the first package nothing has been passed. Assumes nothing.
use Rattle.std.specs.Prelude.{◌≤◌, ◌<◌, ◌≡◌, List}
use Rattle.scope.specs.Model.{Model}
use Rattle.tables.specs.Heads.{Head, types_among, Meets}
use Rattle.tables.proofs.Passes.{Passing}
use Rattle.tables.proofs.declare_types.Given as goal

abbrev pub invariant-loop-at : goal.invariant-loop-at
invariant-loop-at l = (1 ≤ l.at) × (l.packages < l.at) × (l.number < l.at) × (l.packages ≡ 0 → l.at ≡ 1) × ((g : Model l.records.kinds.now l.records.words.now) → (hs : List Head) × Meets g l.at hs × Passing g l.initial.lines (types_among l.packages hs) l.number l.scope.entries l.numbers l.names.bits l.lines)
