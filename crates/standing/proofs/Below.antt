-- A test at every number below a bound, and what it gives at each. Assumes nothing.
use Prim.Native.Nat.{ℕ, zero, suc, ◌<◌}
use mathlib.Core.Path.{◌≡◌, ap, ◌∙◌}
use mathlib.Core.Bool.{Bool, true, ◌&&◌, and-eq-true_iff}
use mathlib.Core.Logic.{⊎_elim}
use native.Mathlib.Nat.{not-suc-le-zero, le_of_suc-le-suc, eq-or-lt_of_le}

-- a test at every number below n
abbrev pub up_to : (ℕ → Bool) → ℕ → Bool
up_to f zero = true
up_to f (suc n) = f n && up_to f n

pub below : (f : ℕ → Bool) (n : ℕ) → up_to f n ≡ true → (k : ℕ) → k < n → f k ≡ true
below f zero t k h = absurd (not-suc-le-zero h)
below f (suc n) t k h =
    let b = (and-eq-true_iff (f n) (up_to f n)).0 t in
    ⊎_elim (λ (e : k ≡ n). ap f e ∙ b.0) (λ (l : k < n). below f n b.1 k l) (eq-or-lt_of_le (le_of_suc-le-suc h))
