-- The bits of a number: of 0, of a power of two, of an `or`, of a shift, and the lowest.
-- Assumes nothing.
use Rattle.std.proofs.Common.{w64}
use Rattle.std.specs.Int.{bit_at}
use Rattle.std.proofs.lemmas.Nat.Bits.{bit_at-zero, bit_at_or, bit_at-lt, bit_at-pow_same, bit_at-pow_other, bit_at_above, bit_at-trailing_zeros}
use Prim.Native.Nat.{ℕ, zero, suc, ◌+◌, ◌<◌, ◌/◌, ◌%◌, ◌^◌, max}
use native.Mathlib.Omega.{arith}
use mathlib.Core.Path.{◌≡◌, refl, sym, ◌∙◌, ap}
use mathlib.Core.Logic.{⊎_elim}
use mathlib.Core.Bool.{true, false, ◌||◌}
use lib.Dec.{eqb, ltb}
use lib.Bits.{bit_or}
use lib.Count.{count_trailing_zeros}
use lib.Pow.{shr-shr}
use borrow.Author.Tests.{eqb-true, eqb-false, ltb-true, ltb-false}
use Rattle.demands.proofs.Sets.{split, clash}
use Rattle.loops.specs.Rows.{bit}

pub bit_zero : (k : ℕ) → bit 0 k ≡ false
unfolding bit
bit_zero k = ap (λ (x : ℕ). eqb x 1) (bit_at-zero k)

-- the bits of a number shifted down
pub bit_shr : (v j k : ℕ) → bit (v / 2 ^ j) k ≡ bit v (j + k)
unfolding bit
bit_shr v j k = ap (λ (x : ℕ). eqb (x % 2) 1) (shr-shr v j k)

or_low : (x y : ℕ) → x < 2 → y < 2 → eqb (max x y) 1 ≡ (eqb x 1 || eqb y 1)
or_low zero zero h k = refl
or_low zero (suc zero) h k = refl
or_low zero (suc (suc y)) h k = absurd (omega arith)
or_low (suc zero) zero h k = refl
or_low (suc zero) (suc zero) h k = refl
or_low (suc zero) (suc (suc y)) h k = absurd (omega arith)
or_low (suc (suc x)) y h k = absurd (omega arith)

pub bit_of_or : (v w k : ℕ) → bit (bit_or v w) k ≡ (bit v k || bit w k)
unfolding bit
bit_of_or v w k = ap (λ (x : ℕ). eqb x 1) (bit_at_or v w k) ∙ or_low (bit_at v k) (bit_at w k) (bit_at-lt v k) (bit_at-lt w k)

pub bit_pow : (j k : ℕ) → bit (2 ^ j) k ≡ eqb k j
unfolding bit
bit_pow j k =
    ⊎_elim
    (λ (e : eqb k j ≡ true). ap (λ (z : ℕ). eqb (bit_at (2 ^ j) z) 1) (eqb-true k j e) ∙ ap (λ (x : ℕ). eqb x 1) (bit_at-pow_same j) ∙ sym e)
    (λ (e : eqb k j ≡ false). ap (λ (x : ℕ). eqb x 1) (bit_at-pow_other j k (eqb-false k j e)) ∙ sym e)
    (split (eqb k j))

-- no bit of a number is above its length
pub bit_below : (d v k : ℕ) → v < 2 ^ d → bit v k ≡ true → k < d
unfolding bit
bit_below d v k h e =
    ⊎_elim
    (λ (t : ltb k d ≡ true). ltb-true k d t)
    (λ (t : ltb k d ≡ false). absurd (clash e (ap (λ (x : ℕ). eqb x 1) (bit_at_above v d k h (ltb-false k d t)))))
    (split (ltb k d))

-- below as many bits as `count_trailing_zeros` counts none is set, and the next one is
module _ (v : ℕ) (n : v ≡ 0 → ⊥) (h : v < 2 ^ 64) where
  pub zeros_below : (i : ℕ) → i < count_trailing_zeros 64 v → bit v i ≡ false
  unfolding bit
  zeros_below i b = ap (λ (x : ℕ). eqb x 1) ((bit_at-trailing_zeros w64 v (omega (arith, n)) h).2 i b)

  pub one_above : bit v (count_trailing_zeros 64 v) ≡ true
  unfolding bit
  one_above = ap (λ (x : ℕ). eqb x 1) (bit_at-trailing_zeros w64 v (omega (arith, n)) h).1
