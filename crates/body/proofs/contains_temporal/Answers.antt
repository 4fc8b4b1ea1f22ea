-- `body::contains_temporal` meets its contract: a scan of all records sees each sub-expression. Assumes nothing.
use mathlib.Core.Path.{refl, ap, sym, ◌∙◌}
use native.Mathlib.Nat.{zero-add}
use lib.ListN.{length}
use Rattle.std.proofs.Common.{rules, tests}
use Rattle.std.specs.List.{list_any}
use Rattle.std.proofs.lemmas.List.{take_at}
use Rattle.std.proofs.lemmas.Iterator.{YieldsList-from_slice}
use Rattle.std.proofs.lemmas.Iterator.Search.{any_from_yields_List}
use Rattle.body.specs.Body.{temporal_kind}
use Rattle.body.proofs.Scans.{unseen_start, unseen_any}
use Rattle.body.proofs.contains_temporal.Goals as goal

pub returns : goal.returns
returns c = λ g.
    let ks = c.args.kinds.now in
    any_from_yields_List temporal_kind _ _ c.any.result c.any.ensures.ran (YieldsList-from_slice ks c.iter.ensures.rest) (λ x b q k. search (rules, tests))
    ∙ ap (list_any temporal_kind) (sym (take_at ks g.after _ refl))
    ∙ unseen_any _ g.whole.e (length ks) (zero-add (length ks)) (unseen_start _ g.whole.e g.whole.stands g.whole.ends)
