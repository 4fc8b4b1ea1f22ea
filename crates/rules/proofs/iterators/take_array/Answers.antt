-- `rules::iterators::take_array` meets its contract. Assumes nothing.
use Rattle.lustre.specs.Types.{Boolean}
use Rattle.lustre.specs.Line.{plain}
use Rattle.lines.proofs.Laws.{noted_plain, said_return, said_fail}
use Rattle.rules.proofs.Laws.{resolved}
use Rattle.rules.proofs.Rules as rules
use Rattle.rules.proofs.iterators.take_array.Goals as goal

pub returns-then-t-eq0 : goal.returns-then-t-eq0
returns-then-t-eq0 c =
    λ W ds ps f b.
    rw c.fail.ensures.none (record {
      x = (0, Boolean);
      said = rw (resolved W c.resolve-t.ensures, rules.array_not (plain c.args.step 143) W.text c.resolve-t.result c.if-t-eq0.true) (said_fail (noted_plain c.fail.ensures.put));
      flags = tt;
    })

pub returns : goal.returns
returns c =
    λ W ds ps f b.
    let t = c.took.ensures W ds ps f b in
    record { x = t.0; said = rw (resolved W c.resolve-t.ensures, rules.array_is (plain c.args.step 143) _ t.1) (said_return t.0); flags = t.2 }
