-- `rules::iterators::iterated` meets its contract: the entry leads to the function's heading. Assumes nothing.
use native.Mathlib.Omega.{arith}
use mathlib.Core.Path.{refl, sym, ◌∙◌}
use Rattle.lustre.specs.Line.{named}
use Rattle.lustre.specs.Infer.{if_found, iterate_rule, iterate_of}
use Rattle.lines.proofs.Laws.{noted_named, said_pass, said_refuse, said_fail, said_stop, said_halt, said_then}
use Rattle.rules.proofs.Laws.{found_not, found}
use Rattle.rules.proofs.Places.{type_there, read_is}
use Rattle.rules.proofs.PortLaws.{inputs_here, outputs_here, only}
use Rattle.rules.proofs.IteratorLaws.{function_is, function_not, output_not}
use Rattle.rules.proofs.iterators.iterated.Goals as goal

pub returns-in_default : goal.returns-in_default
unfolding iterate_rule if_found
returns-in_default c =
    λ W.
    let f = c.fail.ensures in
    rw f.none (λ k seed operands hint. rw (found_not (W.node _ c.args.name.below) c.in_default.ensures.entry) (said_fail (noted_named _ (W.back _) f.put)))

pub returns-then-ctx-node-ne-FUNCTION : goal.returns-then-ctx-node-ne-FUNCTION
unfolding iterate_rule iterate_of if_found
returns-then-ctx-node-ne-FUNCTION c =
    λ W.
    let w = found (W.node _ c.args.name.below) c.in-Some.ensures.entry in
    let f = c.fail-then-ctx-node-ne-FUNCTION.ensures in
    rw f.none
    (λ k seed operands hint.
    rw w.is (said_halt _ refl (said_refuse (function_not w.a.kind (sym w.there.head.kind) c.if-ctx-node-ne-FUNCTION.true) (noted_named _ (W.back _) f.put))))

pub offset_bounds-ctx-outputs : goal.offset_bounds-ctx-outputs
offset_bounds-ctx-outputs c =
    let w = (found (c.requires.node _ c.args.name.below) c.in-Some.ensures.entry).there in
    omega (arith, c.ports_end-outputs.ensures (inputs_here w), w.outputs.stand.head.in_words)

pub bounds-ctx-outputs : goal.bounds-ctx-outputs
bounds-ctx-outputs c =
    let w = (found (c.requires.node _ c.args.name.below) c.in-Some.ensures.entry).there in
    omega (arith, c.ports_end-outputs.ensures (inputs_here w), w.outputs.stand.head.in_words)

pub returns-then-ctx-outputs-ne1 : goal.returns-then-ctx-outputs-ne1
unfolding iterate_rule iterate_of if_found
returns-then-ctx-outputs-ne1 c =
    λ W.
    let w = found (W.node _ c.args.name.below) c.in-Some.ensures.entry in
    let g = outputs_here w.there (c.ports_end-outputs.ensures (inputs_here w.there)) in
    let f = c.fail-then-ctx-outputs-ne1.ensures in
    rw f.none
    (λ k seed operands hint.
    rw w.is
    (said_then tt refl (said_pass _ (function_is w.a.kind (sym w.there.head.kind) c.if-ctx-node-ne-FUNCTION.false))
    (rw (output_not (named c.args.at 142 (W.text c.args.name.number)) w.a.outputs (λ e. c.if-ctx-outputs-ne1.true (g.listed.stand.many ∙ e)))
    (said_stop _ refl (said_fail (noted_named _ (W.back _) f.put))))))

pub read_type-requires : goal.read_type-requires
read_type-requires c =
    let w = (found (c.requires.node _ c.args.name.below) c.in-Some.ensures.entry).there in
    type_there (only (outputs_here w (c.ports_end-outputs.ensures (inputs_here w))) c.if-ctx-outputs-ne1.false).typed

pub returns : goal.returns
returns c =
    λ W.
    let w = found (W.node _ c.args.name.below) c.in-Some.ensures.entry in
    let o = only (outputs_here w.there (c.ports_end-outputs.ensures (inputs_here w.there))) c.if-ctx-outputs-ne1.false in
    let t = read_is o.typed c.read_type.ensures in
    record {
      sig = w.a;
      node = w.is;
      function = function_is w.a.kind (sym w.there.head.kind) c.if-ctx-node-ne-FUNCTION.false;
      output = o.p.0;
      outputs = rw t.is o.are;
      inputs = w.there.inputs;
      low = t.low;
      same = refl;
    }
