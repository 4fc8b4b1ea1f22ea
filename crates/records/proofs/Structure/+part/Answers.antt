-- The parts of a project, read one after another. Assumes nothing.
use Rattle.std.proofs.Common.{arith, ◌∙◌}
use lib.ListN.{length-map, length-replicate}
use Rattle.std.proofs.lemmas.Result.{err_from_is_err_and}
use Rattle.records.proofs.Passes as passes
use Rattle.records.proofs.Structure.+part.Goals as goal

pub items-loop-init : goal.items-loop-init
items-loop-init t c = passes.left_all _ _ _ _ c.requires.inside

pub items-part-requires : goal.items-part-requires
items-part-requires t c = let i = c.loop.invariant in (omega (arith, c.decreases, i.started), (i.inside, omega (arith, i.started, c.requires.level)))

pub items-returns-in_err-part : goal.items-returns-in_err-part
items-returns-in_err-part t c =
    let p = err_from_is_err_and c.from_residual.result c.from_residual.ensures.1 in
    rw (p.1, p.2) (passes.left_bad _ _ _ _ _ _ c.loop.invariant _ (passes.many_at _ _ _ c.loop-test.true) _ c.in_err-part.ensures)

pub items-loop-preserved : goal.items-loop-preserved
items-loop-preserved t c = passes.left_more _ _ _ _ _ _ c.loop.invariant _ (passes.many_at _ _ _ c.loop-test.true) _ c.in_ok-part.ensures

pub items-returns : goal.items-returns
items-returns t c = passes.left_none _ _ _ _ _ _ c.loop.invariant _ (length-replicate _ _) c.loop-test.false

pub operands-loop-class-init : goal.operands-loop-class-init
operands-loop-class-init t c = passes.left_all _ _ _ _ c.requires.inside

pub operands-part-requires : goal.operands-part-requires
operands-part-requires t c = let i = c.loop-class.invariant in (omega (arith, c.decreases, i.started), (i.inside, omega (arith, i.started, c.requires.level)))

pub operands-returns-in_err-part : goal.operands-returns-in_err-part
operands-returns-in_err-part t c =
    let p = err_from_is_err_and c.from_residual.result c.from_residual.ensures.1 in
    rw (p.1, p.2) (passes.left_bad _ _ _ _ _ _ c.loop-class.invariant _ (passes.behind_at _ _ _ _ _ c.loop-class-test.true c.inner.ensures.wanted) _ c.in_err-part.ensures)

pub operands-loop-class-preserved : goal.operands-loop-class-preserved
operands-loop-class-preserved t c = passes.left_more _ _ _ _ _ _ c.loop-class.invariant _ (passes.behind_at _ _ _ _ _ c.loop-class-test.true c.inner.ensures.wanted) _ c.in_ok-part.ensures

pub operands-returns : goal.operands-returns
operands-returns t c = passes.left_none _ _ _ _ _ _ c.loop-class.invariant _ (length-map _ _ ∙ length-map _ _) c.loop-class-test.false

pub part-returns-then-at-self : goal.part-returns-then-at-self
part-returns-then-at-self t c = passes.part_out _ _ c.args.self.now.same _ _ _ c.if-at-self.true

pub part-items-requires : goal.part-items-requires
part-items-requires t c = (omega (arith, c.decreases), (omega arith, omega (arith, c.requires.level)))

pub part-returns-in-None : goal.part-returns-in-None
part-returns-in-None t c = passes.part_none _ _ c.args.self.now.same _ _ _ c.if-at-self.false c.in-None.ensures

pub part-returns-in-Some-Each : goal.part-returns-in-Some-Each
part-returns-in-Some-Each t c =
    passes.part_each _ _ c.args.self.now.same _ _ _ c.if-at-self.false _ _ c.past.ensures.next c.past.ensures.deep _ _ _ (rw c.in-Some-Each.field-0-is at c.in-Some-Each.ensures) c.inner.ensures.wanted c.items.ensures

pub part-returns-in-Some-Parts : goal.part-returns-in-Some-Parts
part-returns-in-Some-Parts t c =
    passes.part_parts _ _ c.args.self.now.same _ _ _ c.if-at-self.false _ _ c.past-in-Some-Parts.ensures.next c.past-in-Some-Parts.ensures.deep _ _ (rw c.in-Some-Parts.field-0-is at c.in-Some-Parts.ensures) c.operands.ensures
