-- `equations::check_type` meets its contract: what inference says, and what is said of its type then. Assumes nothing.
use native.Mathlib.Omega.{arith}
use mathlib.Core.Path.{refl}
use Rattle.lustre.specs.Expr.{form}
use Rattle.lustre.specs.Project.{skeleton}
use Rattle.lustre.specs.Resolve.{context}
use Rattle.lustre.specs.Node.{bound}
use Rattle.lines.proofs.Laws.{noted_none}
use Rattle.infer.proofs.Sides as sides
use Rattle.equations.proofs.Types.{sides_whole, said_then_noted, bound_nothing}
use Rattle.equations.proofs.check_type.Goals as goal

pub slice_bounds-side-count : goal.slice_bounds-side-count
slice_bounds-side-count c = omega (arith, sides.side_inside (sides_whole {x = c.args.ctx.now} c.requires))

pub slice_bounds-side-start : goal.slice_bounds-side-start
slice_bounds-side-start c = omega (arith, sides.side_inside (sides_whole {x = c.args.ctx.now} c.requires))

pub offset_bounds-ctx-start : goal.offset_bounds-ctx-start
offset_bounds-ctx-start c = omega (arith, sides.side_words (sides_whole {x = c.args.ctx.now} c.requires))

pub slice_bounds-side-count-2 : goal.slice_bounds-side-count-2
slice_bounds-side-count-2 c = omega (arith, sides.side_words (sides_whole {x = c.args.ctx.now} c.requires))

pub slice_bounds-side-start-2 : goal.slice_bounds-side-start-2
slice_bounds-side-start-2 c = omega (arith, sides.side_words (sides_whole {x = c.args.ctx.now} c.requires))

pub infer-requires : goal.infer-requires
infer-requires c = sides.side_given (sides_whole {x = c.args.ctx.now} c.requires) _ refl refl

pub returns-in-Some : goal.returns-in-Some
returns-in-Some c = λ g.
    let w = g.left.scoped in
    let h = c.declared_type-declared.ensures g.left in
    let d = sides.side_done (sides_whole {x = c.args.ctx.now} g) _ refl refl _ (rw c.as_ref-hint.ensures.value at c.in-Some.ensures) in
    said_then_noted (bound (context (skeleton w.model.P)) w.env g.left.xs (form g.e)) refl (rw h.is at d.said) (c.check_bound.ensures g (rw c.as_ref-hint.ensures.value h.is))

pub returns-in_default : goal.returns-in_default
returns-in_default c = λ g.
    let w = g.left.scoped in
    let h = c.declared_type-declared.ensures g.left in
    let d = sides.side_done (sides_whole {x = c.args.ctx.now} g) _ refl refl _ (rw c.as_ref-hint.ensures.value at c.in_default.ensures) in
    said_then_noted (bound (context (skeleton w.model.P)) w.env g.left.xs (form g.e)) refl (rw h.is at d.said) (rw (bound_nothing (context (skeleton w.model.P)) w.env g.left.xs (form g.e)) noted_none)
