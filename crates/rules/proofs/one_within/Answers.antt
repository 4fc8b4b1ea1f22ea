-- `rules::one_within` meets its contract. Assumes nothing.
use mathlib.Core.Path.{◌∙◌, sym}
use Rattle.rules.proofs.Laws.{kind_resolved}
use Rattle.rules.proofs.BasicKinds.{same_kinds, other_kinds, one_kind, other_kind}
use Rattle.rules.proofs.one_within.Goals as goal

pub returns-then-eq : goal.returns-then-eq
returns-then-eq c =
    λ W.
    let s = kind_resolved W c.basic_kind-kind.ensures in
    let e = same_kinds _ _ (sym c.eq.ensures ∙ c.if-eq.true) in
    c.is_between.ensures ∙ sym (one_kind _ _ c.requires _ _ (s ∙ e ∙ sym (kind_resolved W c.basic_kind.ensures)) ∙ rw s)

pub returns-else-eq : goal.returns-else-eq
returns-else-eq c =
    λ W.
    let e = other_kinds _ _ (sym c.eq.ensures ∙ c.if-eq.false) in
    c.if-eq.false ∙ sym (other_kind _ _ c.requires _ _ (λ h. e (sym (kind_resolved W c.basic_kind-kind.ensures) ∙ h ∙ kind_resolved W c.basic_kind.ensures)))
