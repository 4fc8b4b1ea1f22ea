-- The cycle of calls {items, operands, part}: the records left fall from a part to the parts behind its record. A loop's invariant says which
-- wants are left. Assumes nothing.
use Rattle.std.proofs.Common.{◌+◌, ◌-◌, ◌*◌, length, map, replicate}
use Rattle.records.specs.Places.{class_of, wanted, wants}
use Rattle.records.proofs.Passes.{Left}
use Rattle.records.proofs.Structure.+part.Given as goal

abbrev pub decreases-items : goal.decreases-items
decreases-items l = 2 * (length l.self.now.kinds.now - l.reached.now.next) + 1

abbrev pub decreases-operands : goal.decreases-operands
decreases-operands l = 2 * (length l.self.now.kinds.now - l.reached.now.next) + 1

abbrev pub decreases-part : goal.decreases-part
decreases-part l = 2 * (length l.self.now.kinds.now - l.reached.now.next)

abbrev pub invariant-items-loop : goal.invariant-items-loop
invariant-items-loop l = Left l.self.kinds.now l.self.words.now (replicate l.count (wanted l.want)) l.fn.reached l.counter l.reached

abbrev pub invariant-operands-loop-class : goal.invariant-operands-loop-class
invariant-operands-loop-class l = Left l.self.kinds.now l.self.words.now (wants (wanted l.want) (map class_of l.classes)) l.fn.reached l.class-index l.reached
