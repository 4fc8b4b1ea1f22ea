-- `rules::literal_rule` meets its contract. Assumes nothing.
use mathlib.Core.Path.{sym, ap, ◌∙◌}
use Rattle.lustre.specs.Line.{return}
use Rattle.types.proofs.Values.{bottom_basic}
use Rattle.rules.proofs.Laws.{returned_bottom, failed}
use Rattle.rules.proofs.Rules as rules
use Rattle.rules.proofs.literal_rule.Goals as goal

pub returns-in-Some : goal.returns-in-Some
returns-in-Some c =
    λ num ρ t h.
    let i = rw c.in-Some.is at h in
    returned_bottom c.basic.ensures (rules.literal_typed _ i ∙ ap return (sym (bottom_basic ρ _ 0 (λ e. i.no_name (cc)) (λ e. i.no_tuple (cc)))))

pub returns-in-None : goal.returns-in-None
returns-in-None c = λ num ρ t h. rw (rules.literal_untyped _ (rw c.in-None.is at h)) (failed c.fail.ensures)
