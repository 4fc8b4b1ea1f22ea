-- `equations::check_outputs` meets its contract. The loop keeps `Judging` of proofs/Outputs.antt: once the names and outputs that are left are
-- noted, all are. Assumes nothing.
use native.Mathlib.Omega.{arith}
use mathlib.Core.Logic.{⊎_elim}
use Rattle.rules.proofs.Places.{type_in}
use Rattle.scope.proofs.Names.{names_inside}
use Rattle.equations.proofs.Outputs.{left_names, judging_start, judging_more, judged_names, judged_ports, judged_small, judged_output}
use Rattle.equations.proofs.check_outputs.Goals as goal

pub overflow_add-end-2 : goal.overflow_add-end-2
overflow_add-end-2 c = omega (arith, names_inside (left_names c.args.ctx.now c.requires))

pub slice_bounds-names-end : goal.slice_bounds-names-end
slice_bounds-names-end c = omega (arith, names_inside (left_names c.args.ctx.now c.requires))

pub loop-word-init : goal.loop-word-init
loop-word-init c = λ g. rw (c.into_iter-word-iterator.ensures.into_iter_gives, c.zip-word-items.ensures.first, c.zip-word-items.ensures.second, c.iter.ensures.rest) (judging_start c.args.ctx.now g c.ports_of.ensures)

pub overflow_add-port : goal.overflow_add-port
overflow_add-port c = omega (arith, type_in (judged_output (c.loop-word.invariant c.requires) c.in-Some.ensures.steps.0 c.in-Some.ensures.steps.1).typed)

pub invariant_of-check_output : goal.invariant_of-check_output
invariant_of-check_output c = record { below = judged_small (c.loop-word.invariant c.requires) c.in-Some.ensures.steps.0 }

pub check_output-requires : goal.check_output-requires
check_output-requires c = judged_output (c.loop-word.invariant c.requires) c.in-Some.ensures.steps.0 c.in-Some.ensures.steps.1

pub loop-word-preserved : goal.loop-word-preserved
loop-word-preserved c = λ g.
    let j = c.loop-word.invariant g in
    let s = c.in-Some.ensures.steps in
    judging_more j s.0 s.1 (c.check_output.ensures (judged_output j s.0 s.1))

pub returns : goal.returns
returns c = λ g.
    let j = c.loop-word.invariant g in
    ⊎_elim (λ a. judged_names j a.1.0) (λ b. judged_ports j b.1) c.in-None.ensures.steps
