-- The proof of the cycle of calls of `infer`, its measures and the invariants of its loops. Assumes nothing.
use Prim.Native.Nat.{◌-◌, ◌≤◌, ◌+◌, ◌*◌}
use lib.ListN.{length}
use Rattle.std.specs.Prelude.{option_copied}
use Rattle.rules.specs.Lists.{GivenArgs, GivenArrays, GivenItems, GivenValues}
use Rattle.infer.proofs.Arguments as arguments
use Rattle.infer.proofs.ItemLaws as item-laws
use Rattle.infer.proofs.ArrayLaws as array-laws
use Rattle.infer.proofs.ValueLaws as value-laws
use Rattle.infer.proofs.+inference.Given as goal

abbrev pub decreases-arg : goal.decreases-arg
decreases-arg l = 4 * (length l.side.now.records.kinds.now - l.at) + 2

abbrev pub decreases-args : goal.decreases-args
decreases-args l = 4 * (length l.side.now.records.kinds.now - l.at) + 3

abbrev pub decreases-array : goal.decreases-array
decreases-array l = 4 * (length l.side.now.records.kinds.now - l.at)

abbrev pub decreases-arrays : goal.decreases-arrays
decreases-arrays l = 4 * (length l.side.now.records.kinds.now - l.at) + 3

abbrev pub decreases-binary : goal.decreases-binary
decreases-binary l = 4 * (length l.side.now.records.kinds.now - l.at)

abbrev pub decreases-both : goal.decreases-both
decreases-both l = 4 * (length l.side.now.records.kinds.now - l.first) + 2

abbrev pub decreases-build : goal.decreases-build
decreases-build l = 4 * (length l.side.now.records.kinds.now - l.at)

abbrev pub decreases-call : goal.decreases-call
decreases-call l = 4 * (length l.side.now.records.kinds.now - l.at)

abbrev pub decreases-cast : goal.decreases-cast
decreases-cast l = 4 * (length l.side.now.records.kinds.now - l.at)

abbrev pub decreases-field : goal.decreases-field
decreases-field l = 4 * (length l.side.now.records.kinds.now - l.at)

abbrev pub decreases-fold : goal.decreases-fold
decreases-fold l = 4 * (length l.side.now.records.kinds.now - l.at)

abbrev pub decreases-gather : goal.decreases-gather
decreases-gather l = 4 * (length l.side.now.records.kinds.now - l.list)

abbrev pub decreases-index : goal.decreases-index
decreases-index l = 4 * (length l.side.now.records.kinds.now - l.at)

abbrev pub decreases-infer : goal.decreases-infer
decreases-infer l = 4 * (length l.side.now.records.kinds.now - l.at) + 1

abbrev pub decreases-ite : goal.decreases-ite
decreases-ite l = 4 * (length l.side.now.records.kinds.now - l.at)

abbrev pub decreases-item : goal.decreases-item
decreases-item l = 4 * (length l.side.now.records.kinds.now - l.at) + 2

abbrev pub decreases-items : goal.decreases-items
decreases-items l = 4 * (length l.side.now.records.kinds.now - l.at) + 3

abbrev pub decreases-map : goal.decreases-map
decreases-map l = 4 * (length l.side.now.records.kinds.now - l.at)

abbrev pub decreases-merge : goal.decreases-merge
decreases-merge l = 4 * (length l.side.now.records.kinds.now - l.at)

abbrev pub decreases-unary : goal.decreases-unary
decreases-unary l = 4 * (length l.side.now.records.kinds.now - l.at)

abbrev pub decreases-value : goal.decreases-value
decreases-value l = 4 * (length l.side.now.records.kinds.now - l.at)

abbrev pub decreases-values : goal.decreases-values
decreases-values l = 4 * (length l.side.now.records.kinds.now - l.at) + 3

abbrev pub decreases-when : goal.decreases-when
decreases-when l = 4 * (length l.side.now.records.kinds.now - l.at)

abbrev pub invariant-args-loop : goal.invariant-args-loop
invariant-args-loop l = (l.at ≤ l.seen.next) × ((g : GivenArgs l.side.ctx l.side.records l.at l.port l.count) → arguments.Left l.side.ctx l.side.records l.at l.port l.count l.step l.name g l.q l.initial.lines l.seen l.lines (l.count - l.counter))

abbrev pub invariant-arrays-loop : goal.invariant-arrays-loop
invariant-arrays-loop l = (l.at ≤ l.next) × ((g : GivenArrays l.side.ctx l.side.records l.at l.list l.count) → array-laws.Left l.side.ctx l.side.records l.at l.list l.count l.step g l.q l.initial.lines l.kept l.next l.inputs l.lines (l.count - l.counter))

abbrev pub invariant-items-loop : goal.invariant-items-loop
invariant-items-loop l = (l.at ≤ l.next) × ((g : GivenItems l.side.ctx l.side.records l.at l.count) → item-laws.Left l.side.ctx l.side.records l.at l.count (option_copied l.h) l.first l.step g l.q l.initial.lines l.next l.lines (l.count - l.counter))

abbrev pub invariant-values-loop : goal.invariant-values-loop
invariant-values-loop l = (l.at ≤ l.next) × ((g : GivenValues l.side.ctx l.side.records l.at l.list l.count) → value-laws.Left l.side.ctx l.side.records l.at l.list l.count l.step g l.q l.initial.lines l.marks.bits l.next l.lines (l.count - l.counter))
