-- `rules::index_rule` meets its contract. Assumes nothing.
use native.Mathlib.Omega.{arith}
use mathlib.Core.Path.{refl}
use Rattle.lustre.specs.Line.{return, plain}
use Rattle.lustre.specs.Infer.{index_of}
use Rattle.lines.proofs.Laws.{noted_plain, said_return, said_fail, said_stop, said_add}
use Rattle.rules.proofs.Laws.{resolved, ended, returned, after, with}
use Rattle.rules.proofs.Rules as rules
use Rattle.rules.proofs.index_rule.Goals as goal

pub returns-then-s-eq0 : goal.returns-then-s-eq0
unfolding index_of
returns-then-s-eq0 c =
    λ W.
    after (said_add refl (c.index_note.ensures W))
    (rw (resolved W c.resolve-s.ensures, rules.array_not (plain c.args.at 110) W.text c.resolve-s.result c.if-s-eq0.true)
    (ended c.fail.ensures.none (said_stop (λ a. return a.1) refl (said_fail (noted_plain c.fail.ensures.put)))))

pub returns : goal.returns
unfolding index_of
returns c =
    λ W.
    let s = c.resolve-s.ensures in
    let a = c.element.ensures in
    after (said_add refl (c.index_note.ensures W))
    (rw (resolved W s, rules.array_is (plain c.args.at 110) _ (a.is W.text))
    (with (λ a. return a.1) _ (said_return _) (returned _ (omega (arith, a.levels, s.few)) refl)))
