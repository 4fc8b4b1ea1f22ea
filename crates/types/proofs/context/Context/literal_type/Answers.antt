-- `types::context::Context::literal_type` meets its contract, literal by literal. Assumes nothing.
use mathlib.Core.Path.{ap}
use native.Mathlib.Omega.{arith}
use Rattle.lustre.specs.Literal.{literal_type}
use Rattle.types.proofs.Literals.{any_hint, literalOf, is_char, typed_as}
use Rattle.types.proofs.context.Context.literal_type.Goals as goal

pub returns-in-40 : goal.returns-in-40
unfolding literalOf literal_type
returns-in-40 c = typed_as _ _ (ap literalOf c.in-40.is) (any_hint 20 (λ e. omega (arith, e)) (λ e. omega (arith, e)))

pub returns-in-41 : goal.returns-in-41
unfolding literalOf literal_type
returns-in-41 c = typed_as _ _ (ap literalOf c.in-41.is) c.integer_literal_type.ensures

pub returns-in-42 : goal.returns-in-42
unfolding literalOf literal_type
returns-in-42 c = typed_as _ _ (ap literalOf c.in-42.is) c.float_literal_type.ensures

pub returns-in_default : goal.returns-in_default
unfolding literal_type
returns-in_default c =
    typed_as _ _ (is_char _ (λ e. grind (arith, e)) (λ e. grind (arith, e)) (λ e. grind (arith, e))) (any_hint 31 (λ e. omega (arith, e)) (λ e. omega (arith, e)))
