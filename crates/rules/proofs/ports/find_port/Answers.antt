-- `rules::ports::find_port` meets its contract. Assumes nothing.
use native.Mathlib.Omega.{arith}
use mathlib.Core.Path.{refl, sym, ap, ◌∙◌}
use lib.ListN.{length}
use Rattle.lustre.specs.declared.Records.{Records}
use Rattle.rules.specs.World.{source_of}
use Rattle.rules.proofs.PortLaws.{find_here, find_later, find_none}
use Rattle.rules.proofs.Walks.{left_start, left_first, left_place, left_name, left_next, left_none, walked_bounds}
use Rattle.rules.proofs.ports.find_port.Goals as goal

pub loop-port-init : goal.loop-port-init
loop-port-init c = λ g. rw c.into_iter-port-iterator.ensures.into_iter_gives (left_start c.args.records.now g c.ports_of-port-items.ensures, λ _. refl)

pub returns-then-port-name-clause-port : goal.returns-then-port-name-clause-port
returns-then-port-name-clause-port c = λ g inj.
    let i = c.loop-port.invariant g in
    let d = c.in-Some.ensures.steps in
    let f = left_first i.0 d in
    (f.p.1, i.1 inj ∙ find_here (source_of c.args.records.now g.text) inj _ f (sym (left_name i.0 d) ∙ c.if-port-name.true), rw (left_place i.0 d) f.typed)

pub returns-then-port-name-clause-below : goal.returns-then-port-name-clause-below
returns-then-port-name-clause-below c =
    let e = ap (λ (r : Records). length r.kinds.now) (c.loop-port.invariant c.requires).0.records in
    omega (arith, e, (walked_bounds c.loop-port.iterator.0 c.in-Some.ensures.steps).1)

pub loop-port-preserved : goal.loop-port-preserved
loop-port-preserved c = λ g.
    let i = c.loop-port.invariant g in
    let d = c.in-Some.ensures.steps in
    (left_next i.0 d, λ inj. i.1 inj ∙ find_later (source_of c.args.records.now g.text) inj _ (left_first i.0 d) (λ e. c.if-port-name.false (left_name i.0 d ∙ e)))

pub returns-clause-port : goal.returns-clause-port
returns-clause-port c = λ g inj. let i = c.loop-port.invariant g in i.1 inj ∙ find_none _ (left_none i.0 c.in-None.ensures.steps)
