-- The digits that are printed are those of the number: read as a decimal number they give it back.
-- Assumes nothing.
use Prim.Native.Nat.{ℕ, zero, suc, ◌+◌, ◌*◌, ◌-◌, ◌/◌, ◌%◌, ◌^◌, ◌<◌}
use native.Mathlib.Nat.{pow-suc, div-lt_iff_lt-mul}
use native.Mathlib.Omega.{arith}
use mathlib.Core.Path.{◌≡◌, refl, ap, ◌∙◌}
use mathlib.Core.Bool.{Bool, true, false}
use mathlib.Core.List.{List, [], ◌∷◌, ◌++◌}
use borrow.Author.Tests.{ltb-true, ltb-false}
use lib.Dec.{ltb}
use Rattle.format.specs.Output.{digits, decimal}
use Rattle.format.proofs.Pieces.{digits_last, digits_step}

-- the number that decimal digits are, behind the number of those read so far
abbrev pub valued : ℕ → List ℕ → ℕ
valued n [] = n
valued n (d ∷ ds) = valued (10 * n + (d - 48)) ds

-- one digit more
valued_more : (n : ℕ) (ds : List ℕ) (d : ℕ) → valued n (ds ++ d ∷ []) ≡ 10 * valued n ds + (d - 48)
valued_more n [] d = refl
valued_more n (x ∷ ds) d = valued_more (10 * n + (x - 48)) ds d

-- the digits of a number that has at most k give it back
pub digits_back : (k n : ℕ) → n < 10 ^ suc k → valued 0 (digits (suc k) n) ≡ n
digits_back zero n h = ap (valued 0) (digits_last 0 n h) ∙ omega arith
digits_back (suc k) n h = go (ltb n 10) refl (digits_back k (n / 10) ((div-lt_iff_lt-mul (omega arith)).1 (rw pow-suc at h)))
  where
    go : (t : Bool) → ltb n 10 ≡ t → valued 0 (digits (suc k) (n / 10)) ≡ n / 10 → valued 0 (digits (suc (suc k)) n) ≡ n
    go true e ih =
        let l : n < 10 = ltb-true n 10 e in
        ap (valued 0) (digits_last (suc k) n l) ∙ omega arith
    go false e ih = ap (valued 0) (digits_step (suc k) n (ltb-false n 10 e)) ∙ valued_more 0 (digits (suc k) (n / 10)) (48 + n % 10) ∙ omega arith

-- a number of 64 bits comes back
pub decimal_back : (n : ℕ) → n < 2 ^ 64 → valued 0 (decimal n) ≡ n
decimal_back n h = digits_back 19 n (omega arith)
