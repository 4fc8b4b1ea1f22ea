-- `types::context::Context::integer_literal_type` meets its contract: the resolved hint where the number fits it, else what Int32 gives. Assumes nothing.
use mathlib.Core.Path.{refl, sym, ◌∙◌}
use Rattle.types.proofs.Literals.{picks_integer, takes_hint, leaves_hint}
use Rattle.types.proofs.context.Context.integer_literal_type.Goals as goal
use Rattle.types.proofs.context.Context.integer_literal_type.Goals.{in_default-via-in-Some+else-fits_in_integer, in_default-via-in_default}

pub returns-in-Some : goal.returns-in-Some
returns-in-Some c = takes_hint (picks_integer _) (rw c.in-Some.is at c.hinted_kind.ensures) (sym c.fits_in_integer.ensures ∙ c.if-fits_in_integer.true)

pub returns-in_default : goal.returns-in_default
returns-in_default c =
    leaves_hint (picks_integer _) c.hinted_kind.ensures
    (elim c.in_default.branch [
      | in_default-via-in-Some+else-fits_in_integer w ↦ rw w.in-Some.is (sym w.fits_in_integer.ensures ∙ w.if-fits_in_integer.false)
      | in_default-via-in_default w ↦ rw w.in_default.is refl
    ])
    c.int32_type.ensures
