-- An integer's type holds it, and one without a type fits neither its hint nor Int32.
-- Assumes nothing.
use Rattle.std.specs.Prelude.{if◌then◌else◌}
use Prim.Native.Nat.{ℕ}
use native.Mathlib.Omega.{arith}
use mathlib.Core.Path.{◌≡◌, refl, sym}
use mathlib.Core.Bool.{Bool, true, false}
use mathlib.Core.Option.{Option, none, some}
use lib.IntN.{ℤ}
use Rattle.lustre.specs.Types.{Ty, Int32}
use Rattle.lustre.specs.Resolve.{resolve}
use Rattle.lustre.specs.Literal.{fits, int32_type, integer_type}
use Rattle.demands.specs.Inference.{IntegersHeld}

not_none : {t : Ty} → ◌≡◌ {A = Option Ty} none (some t) → ⊥
not_none q = let z : ◌≡◌ {A = ℕ} 0 1 = cc in omega arith

-- of a type u where a number fits it, else another type or none
module _ (v : ℤ) (u : Ty) (o : Option Ty) where
  held_if : ((t : Ty) → o ≡ some t → fits v t ≡ true) → (t : Ty) → (if fits v u then some u else o) ≡ some t → fits v t ≡ true
  held_if h t = go (fits v u) refl
    where
      go : (b : Bool) → fits v u ≡ b → (if b then some u else o) ≡ some t → fits v t ≡ true
      go true e q = let same : u ≡ t = cc in rw (← same) e
      go false e q = h t q

  none_if : (if fits v u then some u else o) ≡ none → (fits v u ≡ false) × (o ≡ none)
  none_if = go (fits v u) refl
    where
      go : (b : Bool) → fits v u ≡ b → (if b then some u else o) ≡ none → (fits v u ≡ false) × (o ≡ none)
      go true e q = absurd (not_none (sym q))
      go false e q = (e, q)

int32_held : (v : ℤ) (t : Ty) → int32_type v ≡ some t → fits v t ≡ true
unfolding int32_type
int32_held v = held_if v Int32 none (λ t q. absurd (not_none q))

int32_none : (v : ℤ) → int32_type v ≡ none → fits v Int32 ≡ false
unfolding int32_type
int32_none v q = (none_if v Int32 none q).0

pub integers_held : IntegersHeld
unfolding integer_type
integers_held al v none = record { held = int32_held v; no_hint = λ q h e. absurd (not_none e); no_int32 = int32_none v }
integers_held al v (some h) = record {
  held = held_if v (resolve al h) (int32_type v) (int32_held v);
  no_hint = λ q g e. let same : h ≡ g = cc in rw (← same) (none_if v (resolve al h) (int32_type v) q).0;
  no_int32 = λ q. int32_none v (none_if v (resolve al h) (int32_type v) q).1;
}
