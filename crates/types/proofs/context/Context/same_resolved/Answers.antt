-- `types::context::Context::same_resolved` meets its contract. Assumes nothing.
use mathlib.Core.Path.{ap₂, ◌∙◌}
use Rattle.lustre.specs.Types.{same_type}
use Rattle.lustre.specs.Resolve.{compatible}
use Rattle.types.proofs.context.Context.same_resolved.Goals as goal

pub returns : goal.returns
unfolding compatible
returns c = λ ρ inj al T. c.same.ensures ρ inj ∙ ap₂ same_type (c.resolve.ensures.is ρ al T) (c.resolve-2.ensures.is ρ al T)
