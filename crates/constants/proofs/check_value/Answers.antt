-- `constants::check_value` meets its contract: E0004, what inference says, and what is said of its type then. Assumes nothing.
use native.Mathlib.Omega.{arith}
use mathlib.Core.Path.{refl}
use Rattle.std.specs.Prelude.{Some}
use Rattle.lustre.specs.Project.{skeleton}
use Rattle.lustre.specs.Resolve.{context}
use Rattle.lines.proofs.Laws.{noted_none}
use Rattle.rules.proofs.Places.{type_there}
use Rattle.infer.proofs.Sides as sides
use Rattle.constants.proofs.Values.{said_no_ports, value_untyped, constant_noted}
use Rattle.constants.proofs.Given.{declared_type, value_there, value_given, read_declared}
use Rattle.constants.proofs.check_value.Goals as goal

pub read_type-declared-requires : goal.read_type-declared-requires
read_type-declared-requires c = type_there (declared_type c.requires.constant)

pub check_static-requires : goal.check_static-requires
check_static-requires c = value_there c.requires.constant c.read_type-declared.ensures

pub slice_bounds-side-count : goal.slice_bounds-side-count
slice_bounds-side-count c = omega (arith, sides.side_inside (value_given {x = c.args.ctx.now} c.requires.constant c.read_type-declared.ensures))

pub slice_bounds-side-start : goal.slice_bounds-side-start
slice_bounds-side-start c = omega (arith, sides.side_inside (value_given {x = c.args.ctx.now} c.requires.constant c.read_type-declared.ensures))

pub offset_bounds-ctx-start : goal.offset_bounds-ctx-start
offset_bounds-ctx-start c = omega (arith, sides.side_words (value_given {x = c.args.ctx.now} c.requires.constant c.read_type-declared.ensures))

pub slice_bounds-side-count-2 : goal.slice_bounds-side-count-2
slice_bounds-side-count-2 c = omega (arith, sides.side_words (value_given {x = c.args.ctx.now} c.requires.constant c.read_type-declared.ensures))

pub slice_bounds-side-start-2 : goal.slice_bounds-side-start-2
slice_bounds-side-start-2 c = omega (arith, sides.side_words (value_given {x = c.args.ctx.now} c.requires.constant c.read_type-declared.ensures))

pub infer-requires : goal.infer-requires
infer-requires c = sides.side_given (value_given {x = c.args.ctx.now} c.requires.constant c.read_type-declared.ensures) _ refl refl

pub returns-in-Some : goal.returns-in-Some
returns-in-Some c = λ g.
    let d = c.read_type-declared.ensures in
    let s = (sides.side_done (value_given {x = c.args.ctx.now} g d) _ refl refl (Some _) c.in-Some.ensures).said in
    constant_noted (context (skeleton g.model.P)) g.c (c.check_static.ensures g.model.number (value_there g d)) refl (said_no_ports (skeleton g.model.P) g.c c.requires.function refl (read_declared g d) s) (c.check_fits.ensures g (read_declared g d))

pub returns-in_default : goal.returns-in_default
returns-in_default c = λ g.
    let d = c.read_type-declared.ensures in
    let s = (sides.side_done (value_given {x = c.args.ctx.now} g d) _ refl refl (Some _) c.in_default.ensures).said in
    constant_noted (context (skeleton g.model.P)) g.c (c.check_static.ensures g.model.number (value_there g d)) refl (said_no_ports (skeleton g.model.P) g.c c.requires.function refl (read_declared g d) s) (rw (value_untyped (context (skeleton g.model.P)) g.c) noted_none)
