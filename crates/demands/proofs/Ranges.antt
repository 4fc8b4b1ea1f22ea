-- The ranges of the integer types, as the order of the integers says them.
-- Assumes nothing.
use Prim.Native.Nat.{ℕ, zero, suc, ◌-◌, ◌^◌}
use mathlib.Core.Path.{◌≡◌, refl, sym, ◌∙◌}
use mathlib.Core.Bool.{true, ◌&&◌, and-true}
use lib.Dec.{ltb, leb, leb-zero, leb-suc-zero, leb-suc-suc}
use lib.IntN.{pos, negsuc, neg_ℤ}
use lib.Signed.{le_z}
use Rattle.lustre.specs.Literal.{in_range}
use Rattle.demands.specs.Inference.{SignedRange, UnsignedRange}

-- from 0 up to m − 1
up_to : (m n : ℕ) → ltb n m ≡ (leb 0 n && ltb n m)
up_to m n = rw leb-zero

-- a number that is not negative is above −m
not_below : (m n : ℕ) → ltb n m ≡ (le_z (neg_ℤ (pos m)) (pos n) && ltb n m)
not_below zero n = up_to zero n
not_below (suc m) n = refl

-- −(n + 1) is not below −m where n is below m
not_above : (m n : ℕ) → ltb n m ≡ (le_z (neg_ℤ (pos m)) (negsuc n) && true)
not_above zero n = leb-suc-zero n
not_above (suc m) n = leb-suc-suc n m ∙ sym (and-true (leb n m))

pub signed_range : SignedRange
unfolding in_range
signed_range w (pos n) = not_below (2 ^ (w - 1)) n
signed_range w (negsuc n) = not_above (2 ^ (w - 1)) n

pub unsigned_range : UnsignedRange
unfolding in_range
unsigned_range w (pos n) = up_to (2 ^ w) n
unsigned_range w (negsuc n) = refl
