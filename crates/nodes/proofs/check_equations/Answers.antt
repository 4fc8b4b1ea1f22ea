-- `nodes::check_equations` meets its contract. The loop keeps: with what the equations that are left give, the lines, the names assigned and
-- the edges are those of the node. Assumes nothing.
use Prim.Native.Nat.{◌<◌}
use native.Mathlib.Omega.{arith}
use mathlib.Core.Path.{refl}
use lib.ListN.{length}
use Rattle.nodes.specs.Nodes.{InCheckOf}
use Rattle.nodes.proofs.Equations.{list_here, ahead_start, ahead_next, given_first, here_first, checking_start, checking_next, checking_end}
use Rattle.nodes.proofs.check_equations.Goals.{In-loop-equation}
use Rattle.nodes.proofs.check_equations.Goals as goal

-- while the loop goes on an equation is left
more : (c : In-loop-equation) (g : InCheckOf c.args.ctx.now c.args.lists.now) → c.loop-equation.equation < length g.node.n.equations
more c g = omega (arith, c.loop-equation-test.true, (list_here g.node g.lists.equations).many)

pub loop-equation-init : goal.loop-equation-init
loop-equation-init c = record { ahead = λ g. ahead_start g.node g.lists.equations; checking = λ g f p i s b. checking_start g.node _ _ _ g.lists.equations s b }

pub add_edges-requires : goal.add_edges-requires
add_edges-requires c =
    let g = c.requires.node in
    here_first g.node (c.loop-equation.invariant.ahead g) (more (goal.at.add_edges-requires c).In-loop-equation g)

pub check_equation-next-requires : goal.check_equation-next-requires
check_equation-next-requires c =
    let g = c.requires.node in
    given_first g.node (c.loop-equation.invariant.ahead g) (more (goal.at.check_equation-next-requires c).In-loop-equation g)

pub loop-equation-preserved : goal.loop-equation-preserved
loop-equation-preserved c =
    let l = c.loop-equation.invariant in
    let h = more (goal.at.loop-equation-preserved c).In-loop-equation in
    record {
      ahead = λ g. ahead_next (l.ahead g) (h g) (c.check_equation-next.ensures (given_first g.node (l.ahead g) (h g))).next;
      checking = λ g f p i s b.
          let k = l.checking g f p i s b in
          checking_next g.node _ _ _ k (h g) (refl, refl, refl, refl) f p i (c.add_edges.ensures (here_first g.node k.ahead (h g))) (c.check_equation-next.ensures (given_first g.node k.ahead (h g)));
    }

pub returns : goal.returns
returns c = λ g f p i s b.
    checking_end g.node _ _ _ (c.loop-equation.invariant.checking g f p i s b) (omega (arith, c.loop-equation-test.false, (list_here g.node g.lists.equations).many))
