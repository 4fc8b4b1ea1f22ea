-- `declare_ports` meets its contract. The loop's invariant is `Entering` of proofs/Loops.antt. Assumes nothing.
use native.Mathlib.Omega.{arith}
use mathlib.Core.Path.{ap, ◌∙◌}
use lib.ListN.{length}
use Rattle.lustre.specs.declared.Records.{Records}
use Rattle.rules.proofs.Walks.{walked_bounds}
use Rattle.ports.proofs.Loops.{entering_start, entering_next, entering_end}
use Rattle.ports.proofs.declare_ports.Goals as goal

pub loop-name-init : goal.loop-name-init
loop-name-init c = (c.ports_of-ports.ensures.0, λ g inj. entering_start g c.ports_of-ports.ensures)

pub redeclare-requires : goal.redeclare-requires
redeclare-requires c =
    let b = walked_bounds c.loop-name.iterator.0 c.in-Some.ensures.steps in
    let e = ap (λ (r : Records). length r.kinds.now) c.loop-name.invariant.0 in
    (omega arith, omega (arith, b.1, c.requires.1))

pub loop-name-preserved : goal.loop-name-preserved
loop-name-preserved c =
    let i = c.loop-name.invariant in
    let d = c.in-Some.ensures.steps in
    (d.records ∙ i.0, λ g inj. entering_next (i.1 g inj) inj d c.redeclare.ensures.noted c.redeclare.ensures.entered)

pub returns : goal.returns
returns c = λ g inj. entering_end {v = c.next.new.self} (c.loop-name.invariant.1 g inj) c.in_default.ensures.steps
