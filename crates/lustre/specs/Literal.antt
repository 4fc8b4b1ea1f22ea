-- The types of literals: `fits_in_integer` by sign and width, lib.rs 696, `integer_literal_type`, lib.rs 1477, and lib.rs 721 to 729.
-- Assumes nothing: these are definitions.
use Rattle.std.specs.Prelude.{ℕ, ◌-◌, ◌^◌, Bool, false, ltb, ℤ, pos, negsuc, if◌then◌else◌}
use Rattle.std.proofs.Math.Option.{Option, none, some}
use Rattle.std.specs.Int.{w64}
use Rattle.std.proofs.Common.{to_z}
use Rattle.lustre.specs.Types.{Ty, basic, Array, Named, Tuple, Boolean, Int32, Float64, Character, Range, signed, unsigned, range_of, is_float}
use Rattle.lustre.specs.Expr.{Literal, bool, int, float, char}
use Rattle.lustre.specs.Resolve.{Aliases, resolve}

-- −2^(w−1) ≤ v < 2^(w−1), and 0 ≤ v < 2^w; `negsuc n` is −(n + 1)
unfoldable pub in_range : ℤ → Range → Bool
in_range (pos n) (signed w) = ltb n (2 ^ (w - 1))
in_range (negsuc n) (signed w) = ltb n (2 ^ (w - 1))
in_range (pos n) (unsigned w) = ltb n (2 ^ w)
in_range (negsuc n) (unsigned w) = false

unfoldable pub in_some_range : ℤ → Option Range → Bool
in_some_range v none = false
in_some_range v (some r) = in_range v r

-- `fits_in_integer`
unfoldable pub fits : ℤ → Ty → Bool
fits v (basic b) = in_some_range v (range_of b)
fits v (Array n t) = false
fits v (Named x) = false
fits v (Tuple n) = false

-- Int32, if the number fits it. The Rust gives Int32 to every number; by request 2.10 one that doesn't fit has no type
unfoldable pub int32_type : ℤ → Option Ty
int32_type v = if fits v Int32 then some Int32 else none

-- `integer_literal_type`: the resolved hint if the number fits it, else Int32 if it fits that
unfoldable pub integer_type : Aliases → ℤ → Option Ty → Option Ty
integer_type al v none = int32_type v
integer_type al v (some h) = if fits v (resolve al h) then some (resolve al h) else int32_type v

unfoldable pub float_type : Aliases → Option Ty → Ty
float_type al none = Float64
float_type al (some h) = if is_float (resolve al h) then resolve al h else Float64

-- the type of a literal, if it has one
unfoldable pub literal_type : Aliases → Literal → ℕ → Option Ty → Option Ty
literal_type al bool w hint = some Boolean
literal_type al int w hint = integer_type al (to_z w64 w) hint
literal_type al float w hint = some (float_type al hint)
literal_type al char w hint = some Character
