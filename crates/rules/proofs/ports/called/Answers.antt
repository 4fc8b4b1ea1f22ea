-- `rules::ports::called` meets its contract: the entry leads to the callee's heading. Assumes nothing.
use mathlib.Core.Path.{refl, sym, ◌∙◌}
use borrow.Author.Tests.{ne_eqb}
use Rattle.lines.proofs.Laws.{noted_named, said_refuse, said_fail, said_halt, said_then, said_add}
use Rattle.lustre.specs.Infer.{if_found, call_rule, call_of}
use Rattle.rules.proofs.Laws.{found_not, found}
use Rattle.rules.proofs.PortLaws.{outputs_listed}
use Rattle.rules.proofs.ports.called.Goals as goal

pub returns-in_default : goal.returns-in_default
unfolding call_rule if_found
returns-in_default c =
    λ W. rw c.fail.ensures.none (λ args hint many. rw (found_not (W.node _ c.args.name.below) c.in_default.ensures.entry) (said_fail (noted_named _ (W.back _) c.fail.ensures.put)))

pub returns-then-count-ctx : goal.returns-then-count-ctx
unfolding call_rule call_of if_found
returns-then-count-ctx c =
    λ W.
    let w = found (W.node _ c.args.name.below) c.in-Some.ensures.entry in
    let f = c.fail-then-count-ctx.ensures in
    rw f.none (
    λ args hint many.
    rw w.is
    (said_then tt refl (said_add refl (c.kind_rule.ensures W.number _ w.a.kind (W.back _) (sym w.there.head.kind)))
    (said_halt _ refl (said_refuse (ne_eqb _ _ (λ e. c.if-count-ctx.true (sym many ∙ e ∙ sym w.there.inputs.stand.many))) (noted_named _ (W.back _) f.put)))))

pub returns : goal.returns
returns c =
    λ W.
    let w = found (W.node _ c.args.name.below) c.in-Some.ensures.entry in
    record {
      sig = w.a;
      node = w.is;
      noted = c.kind_rule.ensures W.number _ w.a.kind (W.back _) (sym w.there.head.kind);
      many = sym w.there.inputs.stand.many ∙ sym c.if-count-ctx.false;
      ports = w.there.inputs.stand.items;
      few = w.there.inputs.few;
      outputs = outputs_listed w.there;
    }
