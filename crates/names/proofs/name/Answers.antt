-- `names::name` meets its contract.
use Rattle.std.proofs.Common.{eqb, refl, ◌∙◌, rules, tests}
use Rattle.std.proofs.lemmas.Iterator.Consumers.{nth_from_yields_List}
use Rattle.std.proofs.lemmas.Iterator.Splits.{YieldsList-from_slice_split}
use Rattle.names.proofs.Pieces.{nth_is_name}
use Rattle.names.proofs.name.Goals as goal

pub returns : goal.returns
returns c =
    nth_is_name c.passed_over-n.result.0.now c.passed_over-n.result.1 _ _ _ c.unwrap_or.ensures refl (nth_from_yields_List _ _ c.passed_over-n.result.1 c.nth.ensures.ran
    (YieldsList-from_slice_split _ (λ b. eqb b 0) c.passed_over-n.result.0.now c.split.ensures.rest c.split.ensures.done c.split.ensures.closure (λ x b q k. search (rules, tests))))
    ∙ c.passed_over-n.ensures
