-- `types::context::Context::compatible` meets its contract: types that are one type resolve to one type. Assumes nothing.
use mathlib.Core.Path.{◌≡◌, sym, ◌∙◌}
use Rattle.lustre.specs.Resolve.{resolve, compatible}
use Rattle.types.specs.Value.{asTy}
use Rattle.types.proofs.Values.{type_self, type_same}
use Rattle.types.proofs.context.Context.compatible.Goals as goal
use Rattle.types.proofs.context.Context.compatible.Goals.{then-same_basic, else-same_basic}

pub returns-then-same : goal.returns-then-same
unfolding compatible
returns-then-same c = λ ρ inj al T.
    let e : asTy ρ c.args.a.now ≡ asTy ρ c.args.b.now =
    elim c.if-same_basic.branch [
      | then-same_basic w ↦ c.same_basic.ensures w.if-same_basic.true ρ
      | else-same_basic w ↦ type_same _ _ (sym (w.same.ensures ρ inj) ∙ sym w.value-is ∙ c.if-same.true)
    ]
    in
    c.if-same.true ∙ rw e (sym (type_self (resolve al (asTy ρ c.args.b.now))))

pub returns-else-same : goal.returns-else-same
unfolding compatible
returns-else-same c = c.same_resolved.ensures
