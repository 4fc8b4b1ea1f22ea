-- `equations::check_equation` meets its contract: its names, its right-hand side and its type one after another. Assumes nothing.
use native.Mathlib.Omega.{arith}
use Rattle.lustre.specs.Project.{port_names}
use Rattle.scope.proofs.World.{apart}
use Rattle.equations.proofs.Whole.{names_given, side_in, side_there, sides_given, side_next, equation_noted}
use Rattle.equations.proofs.check_equation.Goals as goal

pub overflow_add-start-2 : goal.overflow_add-start-2
overflow_add-start-2 c = omega (arith, side_in c.requires, c.requires.scoped.model.even)

pub check_side-next-requires : goal.check_side-next-requires
check_side-next-requires c = side_there c.requires

pub check_type-requires : goal.check_type-requires
check_type-requires c = sides_given c.requires

pub returns : goal.returns
returns c = λ g.
    let w = g.scoped in
    record {
      next = side_next g (c.check_side-next.ensures (side_there g) w.model.number).0;
      noted = λ node seen e ins set.
          equation_noted g node seen e
          (c.check_names.ensures.noted (names_given g) w.model.number w.model.back _ _ _ _ _ w.env w.declared (port_names node.inputs) seen ins set)
          (c.check_side-next.ensures (side_there g) w.model.number).1
          (c.check_type.ensures (sides_given g));
      assigned = λ seen set. c.check_names.ensures.held (names_given g) (apart w.model) seen set;
    }
