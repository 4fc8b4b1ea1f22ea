-- `report` meets its contract: its lines are those of the passes one after another. Assumes nothing.
use Rattle.lustre.specs.Report.{followed}
use Rattle.scope.proofs.World.{tables_led}
use Rattle.project.proofs.Whole.{whole_report}
use Rattle.project.proofs.report.Goals as goal

pub invariant_of-ctx : goal.invariant_of-ctx
invariant_of-ctx c = record { led = tables_led (c.declare_types.ensures c.requires.model.0).0 }

pub invariant_of-ctx-2 : goal.invariant_of-ctx-2
invariant_of-ctx-2 c = record { led = tables_led (c.declare_nodes.ensures (record { model = c.requires.model.0; tables = (c.declare_types.ensures c.requires.model.0).0 })).0 }

pub check_constants-requires : goal.check_constants-requires
check_constants-requires c = record { model = c.requires.model.0; declared = (c.declare_nodes.ensures (record { model = c.requires.model.0; tables = (c.declare_types.ensures c.requires.model.0).0 })).0 }

pub check_nodes-requires-clause-declared : goal.check_nodes-requires-clause-declared
check_nodes-requires-clause-declared c = record { model = c.requires.model.0; declared = (c.declare_nodes.ensures (record { model = c.requires.model.0; tables = (c.declare_types.ensures c.requires.model.0).0 })).0 }

pub returns : goal.returns
unfolding followed
returns c =
    λ g e.
    let types = c.declare_types.ensures g in
    let nodes = c.declare_nodes.ensures (record { model = g; tables = types.0 }) in
    let judged = c.check_nodes.ensures (record { model = g; declared = nodes.0 }) in (
      whole_report g.number g.P types.2
          (c.check_aliases.ensures (record { model = g; tables = types.0; numbers = types.1 }) e c.requires.aliases)
          nodes.1 (c.check_constants.ensures (record { model = g; declared = nodes.0 })) judged.0,
      judged.1,
    )
