-- Laws of resolution: k arrays around a type resolve to the arrays around what the type gives with k levels fewer, and one law for each
-- way that `try_resolve` and `resolve` go. Assumes nothing.
use Rattle.std.specs.Prelude as code
use Rattle.std.specs.Prelude.{Some, None}
use Rattle.std.specs.Option.{unwrap_or}
use Prim.Native.Nat.{ℕ, zero, suc, ◌+◌, ◌-◌, ◌≤◌, ◌<◌}
use mathlib.Core.Path.{◌≡◌, refl, ap, sym, ◌∙◌}
use mathlib.Core.List.{List}
use mathlib.Core.Option.{Option, none, some}
use native.Mathlib.Omega.{arith}
use lib.ListN.{get_or}
use borrow.Author.Tests.{eq-eqb, ne_eqb}
use Rattle.lustre.specs.Types.{Ty}
use Rattle.lustre.specs.Resolve.{Aliases, array_of, follow_alias, or_itself, resolve}
use Rattle.types.specs.Value.{Naming, bottom, up, asTy, Around}
use Rattle.types.specs.Place.{ty_at, Read}
use Rattle.types.specs.Scope.{slot, target, Table, Tries, Resolves}
use Rattle.types.specs.declared.Typ.{Typ}
use Rattle.types.proofs.Values.{bottom_cases, bottom_name}
use Rattle.types.proofs.Seen.{by_depth, try_depth, resolve_depth}

-- the first k lengths of l around a type that there may be
unfoldable pub wrapped : List ℕ → ℕ → Option Ty → Option Ty
wrapped l k none = none
wrapped l k (some t) = some (up l k t)

wrap_array : (l : List ℕ) (k : ℕ) (o : Option Ty) → array_of (get_or l k 0) (wrapped l k o) ≡ wrapped l (suc k) o
unfolding wrapped array_of up
wrap_array l k none = refl
wrap_array l k (some t) = refl

wrap_none : (l : List ℕ) (k : ℕ) {o : Option Ty} → o ≡ none → wrapped l k o ≡ none
unfolding wrapped
wrap_none l k e = rw e

wrap_zero : (l : List ℕ) (o : Option Ty) → wrapped l 0 o ≡ o
unfolding wrapped up
wrap_zero l none = refl
wrap_zero l (some t) = refl

module _ (al : Aliases) where
  pub no_levels : (f : ℕ) (t : Ty) → f ≡ 0 → by_depth al f t ≡ none
  unfolding by_depth
  no_levels f t e = rw e

  arrays_around : (l : List ℕ) (k f : ℕ) (t : Ty) → by_depth al f (up l k t) ≡ wrapped l k (by_depth al (f - k) t)
  unfolding by_depth up
  arrays_around l zero f t =
      let e : f - 0 ≡ f = omega arith in
      rw e (sym (wrap_zero l (by_depth al f t)))
  arrays_around l (suc k) zero t = sym (wrap_none l (suc k) (no_levels (0 - suc k) t (omega arith)))
  arrays_around l (suc k) (suc f) t =
      let e : suc f - suc k ≡ f - k = omega arith in
      rw e (ap (array_of (get_or l k 0)) (arrays_around l k f t) ∙ wrap_array l k (by_depth al (f - k) t))

  pub type_around : (ρ : Naming) (t : Typ) (f : ℕ) → by_depth al f (asTy ρ t) ≡ wrapped t.lengths t.levels (by_depth al (f - t.levels) (bottom ρ t.base t.name))
  unfolding asTy
  type_around ρ t f = arrays_around t.lengths t.levels f (bottom ρ t.base t.name)

wrap_around : {t u r : Typ} → Around t u r → (o : Option Ty) → wrapped t.lengths t.levels (wrapped u.lengths u.levels o) ≡ wrapped r.lengths r.levels o
unfolding wrapped
wrap_around a none = refl
wrap_around a (some s) = ap some (sym (a.is s))

-- ---- the bottom of a type

module _ (ks ws sc : List ℕ) (ρ : Naming) (al : Aliases) (T : Table ρ al ks ws sc) (b n : ℕ) where
  -- it stays where it is no name, or a name without alias
  pub basic_stays : (b ≡ 33 → ⊥) → (f : ℕ) → by_depth al (suc f) (bottom ρ b n) ≡ some (bottom ρ b n)
  unfolding by_depth
  basic_stays h f = bottom_cases (λ t. by_depth al (suc f) t ≡ some t) ρ b n (λ e. absurd (h e)) (λ e. refl) (λ x y. refl)

  pub name_stays : b ≡ 33 → slot sc n ≡ 0 → (f : ℕ) → by_depth al (suc f) (bottom ρ b n) ≡ some (bottom ρ b n)
  unfolding by_depth follow_alias target
  name_stays h z f = rw (bottom_name ρ b n h) (rw (T n, eq-eqb (slot sc n) 0 z))

  -- else it is what the type at its entry is, with a level fewer
  pub name_leads : b ≡ 33 → (slot sc n ≡ 0 → ⊥) → (f : ℕ) → by_depth al (suc f) (bottom ρ b n) ≡ by_depth al f (ty_at ρ ks ws (slot sc n))
  unfolding by_depth follow_alias target
  name_leads h z f = rw (bottom_name ρ b n h) (rw (T n, ne_eqb (slot sc n) 0 z))

-- ---- the ways of `try_resolve`

-- what it knows of t while it has u, at depth d
pub record Trying (ks ws sc : List ℕ) (t u : Typ) (d : ℕ) : Type 0 where
  pub low : d ≤ 64
  pub few : u.levels ≤ d
  pub is : (ρ : Naming) (al : Aliases) → Table ρ al ks ws sc → by_depth al 65 (asTy ρ t) ≡ wrapped u.lengths u.levels (by_depth al (65 - d) (bottom ρ u.base u.name))

module _ {ks ws sc : List ℕ} (t : Typ) where
  fails : ((ρ : Naming) (al : Aliases) → Table ρ al ks ws sc → by_depth al 65 (asTy ρ t) ≡ none) → Tries ks ws sc t None
  fails h = record { few = tt; is = λ ρ al T. sym (try_depth al (asTy ρ t) ∙ h ρ al T) }

  pub too_long : 64 < t.levels → Tries ks ws sc t None
  too_long h = fails (λ ρ al T. type_around al ρ t 65 ∙ wrap_none t.lengths t.levels (no_levels al (65 - t.levels) _ (omega arith)))

  pub try_starts : t.levels ≤ 64 → Trying ks ws sc t t t.levels
  try_starts h = record { low = h; few = omega arith; is = λ ρ al T. type_around al ρ t 65 }

  module _ {u : Typ} {d : ℕ} (q : Trying ks ws sc t u d) where
    ends : ((ρ : Naming) (al : Aliases) → Table ρ al ks ws sc → (f : ℕ) → by_depth al (suc f) (bottom ρ u.base u.name) ≡ some (bottom ρ u.base u.name)) → Tries ks ws sc t (Some u)
    unfolding wrapped asTy
    ends h = record {
      few = omega (arith, q.few, q.low);
      is = λ ρ al T.
          let e : 65 - d ≡ suc (64 - d) = omega (arith, q.low) in
          sym (try_depth al (asTy ρ t) ∙ q.is ρ al T ∙ rw e (ap (wrapped u.lengths u.levels) (h ρ al T (64 - d))));
    }

    pub basic_ends : (u.base ≡ 33 → ⊥) → Tries ks ws sc t (Some u)
    basic_ends h = ends (λ ρ al T. basic_stays ks ws sc ρ al T u.base u.name h)

    pub name_ends : u.base ≡ 33 → slot sc u.name ≡ 0 → Tries ks ws sc t (Some u)
    name_ends h z = ends (λ ρ al T. name_stays ks ws sc ρ al T u.base u.name h z)

    module _ {i : Typ} {at next : ℕ} (h : u.base ≡ 33) (e : at ≡ slot sc u.name) (z : at ≡ 0 → ⊥) (r : Read ks ws at i next) where
      leads : (ρ : Naming) (al : Aliases) → Table ρ al ks ws sc →
          by_depth al 65 (asTy ρ t) ≡ wrapped u.lengths u.levels (wrapped i.lengths i.levels (by_depth al (65 - (d + (1 + i.levels))) (bottom ρ i.base i.name)))
      leads ρ al T =
          let f : 65 - d ≡ suc (64 - d) = omega (arith, q.low) in
          let g : 65 - (d + (1 + i.levels)) ≡ 64 - d - i.levels = omega arith in
          q.is ρ al T ∙ ap (wrapped u.lengths u.levels)
          (rw f (name_leads ks ws sc ρ al T u.base u.name h (λ y. z (e ∙ y)) (64 - d))
          ∙ ap (by_depth al (64 - d)) (sym (rw e at (r.is ρ)))
          ∙ rw g (type_around al ρ i (64 - d)))

      pub runs_out : 64 < d + (1 + i.levels) → Tries ks ws sc t None
      runs_out o = fails (λ ρ al T. leads ρ al T ∙ wrap_none u.lengths u.levels (wrap_none i.lengths i.levels (no_levels al (65 - (d + (1 + i.levels))) _ (omega arith))))

      pub enters : {v : Typ} → d + (1 + i.levels) ≤ 64 → Around u i v → Trying ks ws sc t v (d + (1 + i.levels))
      enters o a = record {
        low = o;
        few = omega (arith, a.levels, q.few);
        is = λ ρ al T. leads ρ al T ∙ wrap_around a _ ∙ rw (a.base, a.name);
      }

-- ---- the ways of `resolve`

module _ {ks ws sc : List ℕ} (t : Typ) where
  stays : ((ρ : Naming) (al : Aliases) → Table ρ al ks ws sc → (f : ℕ) → by_depth al (suc f) (bottom ρ t.base t.name) ≡ some (bottom ρ t.base t.name)) → Resolves ks ws sc t t
  unfolding by_depth wrapped or_itself asTy
  stays h = record {
    few = omega arith;
    is = λ ρ al T. sym (resolve_depth al (asTy ρ t) ∙ ap (or_itself (asTy ρ t)) (type_around al ρ t 65) ∙ go ρ al T (65 - t.levels));
  }
    where
      go : (ρ : Naming) (al : Aliases) → Table ρ al ks ws sc → (f : ℕ) → or_itself (asTy ρ t) (wrapped t.lengths t.levels (by_depth al f (bottom ρ t.base t.name))) ≡ asTy ρ t
      go ρ al T zero = refl
      go ρ al T (suc f) = rw (h ρ al T f)

  pub basic_resolved : (t.base ≡ 33 → ⊥) → Resolves ks ws sc t t
  basic_resolved h = stays (λ ρ al T. basic_stays ks ws sc ρ al T t.base t.name h)

  pub name_resolved : t.base ≡ 33 → slot sc t.name ≡ 0 → Resolves ks ws sc t t
  name_resolved h z = stays (λ ρ al T. name_stays ks ws sc ρ al T t.base t.name h z)

  pub resolved_or : (r : code.Option Typ) → Tries ks ws sc t r → Resolves ks ws sc t (unwrap_or r t)
  unfolding resolve or_itself
  resolved_or (Some u) q = record { few = omega (arith, q.few); is = λ ρ al T. ap (or_itself (asTy ρ t)) (q.is ρ al T) }
  resolved_or None q = record { few = omega arith; is = λ ρ al T. ap (or_itself (asTy ρ t)) (q.is ρ al T) }
