-- `nodes::check_equations` meets its contract. The loop keeps: with what the equations that are left give, the lines, the names assigned and
-- the edges are those of the node. Assumes nothing.
use mathlib.Core.Path.{◌≡◌}
use mathlib.Core.List.{[]}
use Rattle.lustre.specs.Project.{port_names, is_function}
use Rattle.scope.specs.Tables.{records}
use Rattle.scope.specs.Sets.{Holds}
use Rattle.nodes.specs.Nodes.{Blank, InCheckOf}
use Rattle.nodes.proofs.Equations.{Ahead, Checking}
use Rattle.nodes.proofs.check_equations.Given as goal

abbrev pub invariant-loop-equation : goal.invariant-loop-equation
invariant-loop-equation l = record {
  ahead : (g : InCheckOf l.ctx l.lists) → Ahead (records g.node.model) g.node.n.equations l.list l.next l.equation;
  checking : (g : InCheckOf l.ctx l.lists) → is_function g.node.n.kind ≡ l.q.function → l.q.place ≡ 4 → Holds g.node.model.text (port_names g.node.n.inputs) l.ins.bits
      → Holds g.node.model.text [] l.initial.assigned.bits → Blank l.initial.graph
      → Checking g.node l.list l.q l.initial.lines l.assigned.bits l.graph l.lines l.next l.equation;
}
