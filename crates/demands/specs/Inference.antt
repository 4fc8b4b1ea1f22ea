-- Inference that gives no type has added an error; the codes and the names of inference's notes; integer ranges; the types of integers.
-- Assumes nothing: these are statements, proved in proofs/.
use Rattle.std.specs.Prelude.{ℕ, ◌-◌, ◌^◌, ◌≡◌, Bool, true, false, ◌&&◌, ℤ, pos, neg_ℤ}
use mathlib.Core.List.{Memᴰ}
use Rattle.std.proofs.Math.Option.{Option, none, some}
use Rattle.std.specs.Int.Signed.{le_z, lt_z}
use Rattle.lustre.specs.Types.{Ty, Int32, signed, unsigned}
use Rattle.lustre.specs.Expr.{Expr}
use Rattle.lustre.specs.Line.{Note, severity, Error}
use Rattle.lustre.specs.Resolve.{Scope, Aliases, resolve}
use Rattle.lustre.specs.Literal.{in_range, fits, integer_type}
use Rattle.lustre.specs.Infer.{infer}

-- inference without a type has added an error
abbrev pub Speaks : Type 0
Speaks = (Γ : Scope) (function : Bool) (at : ℕ) (e : Expr) (hint : Option Ty) → (infer Γ function at e hint).0 ≡ none
    → (m : Note) × Memᴰ m (infer Γ function at e hint).1 × (severity m.code ≡ Error)

-- a signed type of w bits holds −2^(w−1) up to 2^(w−1) − 1, an unsigned one 0 up to 2^w − 1
abbrev pub SignedRange : Type 0
SignedRange = (w : ℕ) (v : ℤ) → in_range v (signed w) ≡ (le_z (neg_ℤ (pos (2 ^ (w - 1)))) v && lt_z v (pos (2 ^ (w - 1))))

abbrev pub UnsignedRange : Type 0
UnsignedRange = (w : ℕ) (v : ℤ) → in_range v (unsigned w) ≡ (le_z (pos 0) v && lt_z v (pos (2 ^ w)))

-- request 2.10: an integer's type holds it, and one without a type fits neither its hint nor Int32
pub record IntegerHeld (al : Aliases) (v : ℤ) (hint : Option Ty) : Type 0 where
  pub held : (t : Ty) → integer_type al v hint ≡ some t → fits v t ≡ true
  pub no_hint : integer_type al v hint ≡ none → (h : Ty) → hint ≡ some h → fits v (resolve al h) ≡ false
  pub no_int32 : integer_type al v hint ≡ none → fits v Int32 ≡ false

abbrev pub IntegersHeld : Type 0
IntegersHeld = (al : Aliases) (v : ℤ) (hint : Option Ty) → IntegerHeld al v hint
