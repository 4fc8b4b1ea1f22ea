-- `types::literal::fits_in_integer` meets its contract, kind by kind. Assumes nothing.
use mathlib.Core.Path.{refl, ap, ◌∙◌}
use mir.Syntax.{w8, w16, w32, w64}
use Rattle.lustre.specs.Types.{range_of}
use Rattle.lustre.specs.Literal.{fits, in_some_range}
use Rattle.std.proofs.lemmas.Bool.Decides.{nat_tests}
use native.Mathlib.Omega.{arith}
use Rattle.types.proofs.Literals.{fits_signed, fits_unsigned}
use Rattle.types.proofs.literal.fits_in_integer.Goals as goal

pub returns-in-21 : goal.returns-in-21
unfolding range_of
returns-in-21 c = c.is_ok.ensures.value ∙ fits_signed w8 _ c.number-v.type_inv c.number-v.ensures _ refl (ap range_of c.in-21.is) c.try_from.ensures

pub returns-in-22 : goal.returns-in-22
unfolding range_of
returns-in-22 c = c.is_ok-in-22.ensures.value ∙ fits_signed w16 _ c.number-v.type_inv c.number-v.ensures _ refl (ap range_of c.in-22.is) c.try_from-in-22.ensures

pub returns-in-23 : goal.returns-in-23
unfolding range_of
returns-in-23 c = c.is_ok-in-23.ensures.value ∙ fits_signed w32 _ c.number-v.type_inv c.number-v.ensures _ refl (ap range_of c.in-23.is) c.try_from-in-23.ensures

pub returns-in-24 : goal.returns-in-24
unfolding range_of
returns-in-24 c = c.is_ok-in-24.ensures.value ∙ fits_signed w64 _ c.number-v.type_inv c.number-v.ensures _ refl (ap range_of c.in-24.is) c.try_from-in-24.ensures

pub returns-in-25 : goal.returns-in-25
unfolding range_of
returns-in-25 c = c.is_ok-in-25.ensures.value ∙ fits_unsigned w8 _ c.number-v.type_inv c.number-v.ensures _ (ap range_of c.in-25.is) c.try_from-in-25.ensures

pub returns-in-26 : goal.returns-in-26
unfolding range_of
returns-in-26 c = c.is_ok-in-26.ensures.value ∙ fits_unsigned w16 _ c.number-v.type_inv c.number-v.ensures _ (ap range_of c.in-26.is) c.try_from-in-26.ensures

pub returns-in-27 : goal.returns-in-27
unfolding range_of
returns-in-27 c = c.is_ok-in-27.ensures.value ∙ fits_unsigned w32 _ c.number-v.type_inv c.number-v.ensures _ (ap range_of c.in-27.is) c.try_from-in-27.ensures

pub returns-in-28 : goal.returns-in-28
unfolding range_of
returns-in-28 c = c.is_ok-in-28.ensures.value ∙ fits_unsigned w64 _ c.number-v.type_inv c.number-v.ensures _ (ap range_of c.in-28.is) c.try_from-in-28.ensures

pub returns-in_default : goal.returns-in_default
unfolding range_of fits in_some_range
returns-in_default c = grind (arith, nat_tests)
