-- Laws of following a name with its lengths only counted: a type's arrays and what is inside them, and one law for each way that `follow`,
-- `basic_kind` and `same_basic` go. Assumes nothing.
use Rattle.std.specs.Prelude as code
use Rattle.std.specs.Prelude.{Some, None, if◌then◌else◌}
use Prim.Native.Nat.{ℕ, zero, suc, ◌+◌, ◌-◌, ◌≤◌, ◌<◌}
use mathlib.Core.Path.{◌≡◌, refl, ap, sym, ◌∙◌}
use mathlib.Core.List.{List, []}
use mathlib.Core.Option.{Option, none, some}
use native.Mathlib.Omega.{arith}
use native.Mathlib.Decide.{ℕ_discrete}
use lib.Dec.{eqb}
use lib.ListN.{get_or, drop}
use borrow.Author.Tests.{eq-eqb, ne_eqb}
use Rattle.lustre.specs.Types.{Ty, basic, Array, Named, Tuple}
use Rattle.lustre.specs.Resolve.{Aliases, array_of, try_resolve, or_itself, resolve}
use Rattle.types.specs.Value.{Naming, bottom, up, asTy}
use Rattle.types.specs.Place.{arraysIn, ty_at, IsTypeAt, Last}
use Rattle.types.specs.Scope.{slot, Table, Targets, arrays, inside, shape, shaped, Follows, kind_of, KindOf, is_some}
use Rattle.types.specs.declared.Typ.{Typ}
use Rattle.types.specs.declared.aliases.Followed.{Followed}
use Rattle.types.proofs.Values.{bottom_basic, bottom_name, bottom_cases, view_flat}
use Rattle.types.proofs.Places.{type_array, type_bottom, arrays_array, arrays_bottom, type_next}
use Rattle.types.proofs.Seen.{by_depth, try_depth, resolve_depth}
use Rattle.types.proofs.Tries.{wrapped, type_around, no_levels, basic_stays, name_stays, name_leads, basic_resolved}

-- ---- shapes

-- k arrays more around a shape that there may be
unfoldable pub deeper : ℕ → Option (ℕ × Ty) → Option (ℕ × Ty)
deeper k none = none
deeper k (some p) = some (p.0 + k, p.1)

deeper_none : (k : ℕ) {o : Option Ty} → o ≡ none → deeper k (shape o) ≡ none
unfolding deeper shape
deeper_none k e = rw e

deeper_zero : (o : Option (ℕ × Ty)) → deeper 0 o ≡ o
unfolding deeper
deeper_zero none = refl
deeper_zero (some (m, t)) =
    let e : m + 0 ≡ m = omega arith in
    ap (λ (i : ℕ). some (i, t)) e

deeper_twice : (j k : ℕ) (o : Option (ℕ × Ty)) → deeper k (deeper j o) ≡ deeper (j + k) o
unfolding deeper
deeper_twice j k none = refl
deeper_twice j k (some (m, t)) =
    let e : m + j + k ≡ m + (j + k) = omega arith in
    ap (λ (i : ℕ). some (i, t)) e

shape_array : (n : ℕ) (o : Option Ty) → shape (array_of n o) ≡ deeper 1 (shape o)
unfolding shape deeper array_of arrays inside
shape_array n none = refl
shape_array n (some t) = refl

shape_bottom : (ρ : Naming) (b n : ℕ) → shape (some (bottom ρ b n)) ≡ some (0, bottom ρ b n)
unfolding shape arrays inside
shape_bottom ρ b n = bottom_cases (λ t. shape (some t) ≡ some (0, t)) ρ b n (λ e. refl) (λ e. refl) (λ h g. refl)

module _ (al : Aliases) (ρ : Naming) (ks ws : List ℕ) where
  -- what the type at a place resolves to has its arrays around what its last record does
  shape_at : (k at f : ℕ) → arraysIn (drop at ks) ≡ k → IsTypeAt ks ws at →
      shape (by_depth al f (ty_at ρ ks ws at)) ≡ deeper k (shape (by_depth al (f - k) (bottom ρ (get_or ks (at + k) 0) (get_or ws (at + k) 0))))
  unfolding by_depth shape
  shape_at zero at f e p = go (ℕ_discrete (get_or ks at 0) 32)
    where
      go : Dec (get_or ks at 0 ≡ 32) → shape (by_depth al f (ty_at ρ ks ws at)) ≡ deeper 0 (shape (by_depth al (f - 0) (bottom ρ (get_or ks (at + 0) 0) (get_or ws (at + 0) 0))))
      go (yes h) = absurd (let z = arrays_array ks ws at p h in omega (arith, e, z))
      go (no h) =
          let i : at + 0 ≡ at = omega arith in
          let j : f - 0 ≡ f = omega arith in
          rw (i, j, type_bottom ks ws at p h ρ) (sym (deeper_zero _))
  shape_at (suc k) at f e p = go (ℕ_discrete (get_or ks at 0) 32) f (shape_at k (at + 1))
    where
      go : Dec (get_or ks at 0 ≡ 32) → (f : ℕ) → ((f : ℕ) → arraysIn (drop (at + 1) ks) ≡ k → IsTypeAt ks ws (at + 1) → shape (by_depth al f (ty_at ρ ks ws (at + 1))) ≡ deeper k (shape (by_depth al (f - k) (bottom ρ (get_or ks (at + 1 + k) 0) (get_or ws (at + 1 + k) 0))))) →
          shape (by_depth al f (ty_at ρ ks ws at)) ≡ deeper (suc k) (shape (by_depth al (f - suc k) (bottom ρ (get_or ks (at + suc k) 0) (get_or ws (at + suc k) 0))))
      go (no h) f ih = absurd (let z = arrays_bottom ks ws at p h in omega (arith, e, z))
      go (yes h) zero ih = sym (deeper_none (suc k) (no_levels al (0 - suc k) _ (omega arith)))
      go (yes h) (suc f) ih =
          let i : at + suc k ≡ at + 1 + k = omega arith in
          let j : suc f - suc k ≡ f - k = omega arith in
          let m : k + 1 ≡ suc k = omega arith in
          rw (type_array ks ws at p h ρ, i, j) (shape_array (get_or ws at 0) (by_depth al f (ty_at ρ ks ws (at + 1))) ∙ ap (deeper 1) (ih f (omega (arith, e, arrays_array ks ws at p h)) (type_next ks ws at p h)) ∙ deeper_twice k 1 _ ∙ ap (λ (x : ℕ). deeper x (shape (by_depth al (f - k) (bottom ρ (get_or ks (at + 1 + k) 0) (get_or ws (at + 1 + k) 0))))) m)

-- ---- the ways of `follow`

-- what it knows of name number n while it has k lengths around a base, at depth d
pub record Following (ks ws sc : List ℕ) (n base name k d : ℕ) : Type 0 where
  pub low : d ≤ 64
  pub few : k ≤ d
  pub is : (ρ : Naming) (al : Aliases) → Table ρ al ks ws sc →
      shape (try_resolve al 65 [] (Named (ρ n))) ≡ deeper k (shape (by_depth al (65 - d) (bottom ρ base name)))

module _ {ks ws sc : List ℕ} (n : ℕ) where
  pub follow_starts : Following ks ws sc n 33 n 0 0
  follow_starts = record {
    low = omega arith;
    few = omega arith;
    is = λ ρ al T. ap shape (try_depth al (Named (ρ n)) ∙ ap (by_depth al 65) (sym (bottom_name ρ 33 n refl))) ∙ sym (deeper_zero _);
  }

  module _ {base name k d : ℕ} (q : Following ks ws sc n base name k d) where
    ends : ((ρ : Naming) (al : Aliases) → Table ρ al ks ws sc → (f : ℕ) → by_depth al (suc f) (bottom ρ base name) ≡ some (bottom ρ base name)) →
        (ρ : Naming) (al : Aliases) → Table ρ al ks ws sc → shape (try_resolve al 65 [] (Named (ρ n))) ≡ some (k, bottom ρ base name)
    unfolding deeper
    ends h ρ al T =
        let e : 65 - d ≡ suc (64 - d) = omega (arith, q.low) in
        let z : 0 + k ≡ k = omega arith in
        q.is ρ al T ∙ rw e (ap (λ (o : Option Ty). deeper k (shape o)) (h ρ al T (64 - d)) ∙ ap (deeper k) (shape_bottom ρ base name) ∙ ap (λ (i : ℕ). some (i, bottom ρ base name)) z)

    pub basic_ends : (base ≡ 33 → ⊥) → (ρ : Naming) (al : Aliases) → Table ρ al ks ws sc → shape (try_resolve al 65 [] (Named (ρ n))) ≡ some (k, bottom ρ base name)
    basic_ends h = ends (λ ρ al T. basic_stays ks ws sc ρ al T base name h)

    pub name_ends : base ≡ 33 → slot sc name ≡ 0 → (ρ : Naming) (al : Aliases) → Table ρ al ks ws sc → shape (try_resolve al 65 [] (Named (ρ n))) ≡ some (k, bottom ρ base name)
    name_ends h z = ends (λ ρ al T. name_stays ks ws sc ρ al T base name h z)

    module _ {at last : ℕ} (h : base ≡ 33) (e : at ≡ slot sc name) (z : at ≡ 0 → ⊥) (g : Targets ks ws sc) (l : Last ks ws at last) where
      there : IsTypeAt ks ws at
      there = rw e (g.stand name (λ y. z (e ∙ y)))

      leads : (ρ : Naming) (al : Aliases) → Table ρ al ks ws sc →
          shape (try_resolve al 65 [] (Named (ρ n))) ≡ deeper (k + (last - at)) (shape (by_depth al (65 - (d + (1 + (last - at)))) (bottom ρ (get_or ks last 0) (get_or ws last 0))))
      leads ρ al T =
          let f : 65 - d ≡ suc (64 - d) = omega (arith, q.low) in
          let i : arraysIn (drop at ks) ≡ last - at = omega (arith, l.behind) in
          let j : at + (last - at) ≡ last = omega (arith, l.behind) in
          let k' : 64 - d - (last - at) ≡ 65 - (d + (1 + (last - at))) = omega arith in
          let m : last - at + k ≡ k + (last - at) = omega arith in
          q.is ρ al T
          ∙ ap (λ (o : Option Ty). deeper k (shape o)) (rw f (name_leads ks ws sc ρ al T base name h (λ y. z (e ∙ y)) (64 - d) ∙ ap (λ (x : ℕ). by_depth al (64 - d) (ty_at ρ ks ws x)) (sym e)))
          ∙ ap (deeper k) (rw (j, k') at (shape_at al ρ ks ws (last - at) at (64 - d) i there))
          ∙ deeper_twice (last - at) k _
          ∙ ap (λ (x : ℕ). deeper x (shape (by_depth al (65 - (d + (1 + (last - at)))) (bottom ρ (get_or ks last 0) (get_or ws last 0))))) m

      pub runs_out : 64 < d + (1 + (last - at)) → (ρ : Naming) (al : Aliases) → Table ρ al ks ws sc → shape (try_resolve al 65 [] (Named (ρ n))) ≡ none
      runs_out o ρ al T = leads ρ al T ∙ deeper_none (k + (last - at)) (no_levels al (65 - (d + (1 + (last - at)))) _ (omega arith))

      pub enters : d + (1 + (last - at)) ≤ 64 → Following ks ws sc n (get_or ks last 0) (get_or ws last 0) (k + (last - at)) (d + (1 + (last - at)))
      enters o = record { low = o; few = omega (arith, q.few); is = leads }

-- ---- `resolves`

pub name_resolves : {ks ws sc : List ℕ} {n : ℕ} (r : code.Option Followed) → Follows ks ws sc n r → (ρ : Naming) (al : Aliases) → Table ρ al ks ws sc → code.is_some r ≡ is_some (try_resolve al 65 [] (Named (ρ n)))
unfolding shape
name_resolves {n = n} r q ρ al T = go r (try_resolve al 65 [] (Named (ρ n))) (q.is ρ al T)
  where
    go : (r : code.Option Followed) (o : Option Ty) → shape o ≡ shaped ρ r → code.is_some r ≡ is_some o
    go (Some f) (some t) e = refl
    go None none e = refl
    go (Some f) none e = cc
    go None (some t) e = cc

-- ---- `basic_kind`

-- the kind of a type by its shape
shape_kind : (t : Ty) → kind_of t ≡ (if eqb (arrays t) 0 then kind_of (inside t) else None)
unfolding kind_of arrays inside
shape_kind (basic k) = refl
shape_kind (Named x) = refl
shape_kind (Tuple n) = refl
shape_kind (Array n t) = rw (ne_eqb (arrays t + 1) 0 (λ e. omega (arith, e)))

kind_name : (ρ : Naming) (b n : ℕ) → b ≡ 33 → kind_of (bottom ρ b n) ≡ None
unfolding kind_of
kind_name ρ b n e = rw (bottom_name ρ b n e)

pub kind_basic : (ρ : Naming) (b n : ℕ) → (b ≡ 33 → ⊥) → kind_of (bottom ρ b n) ≡ Some b
unfolding kind_of
kind_basic ρ b n h = bottom_cases (λ t. kind_of t ≡ Some b) ρ b n (λ e. absurd (h e)) (λ e. ap Some (sym e)) (λ f g. refl)

-- the two of a shape, 0 and basic 0 where there is none
unfoldable counted : Option (ℕ × Ty) → ℕ
counted none = 0
counted (some p) = p.0

unfoldable cored : Option (ℕ × Ty) → Ty
cored none = basic 0
cored (some p) = p.1

kind_up : (l : List ℕ) (k : ℕ) (t : Ty) → (k ≡ 0 → ⊥) → kind_of (up l k t) ≡ None
unfolding kind_of up
kind_up l zero t h = absurd (h refl)
kind_up l (suc k) t h = refl

-- a name alone resolves as the name does
named : (t : Typ) → t.levels ≡ 0 → t.base ≡ 33 → (ρ : Naming) (al : Aliases) → resolve al (asTy ρ t) ≡ or_itself (Named (ρ t.name)) (try_resolve al 65 [] (Named (ρ t.name)))
unfolding resolve
named t h b ρ al =
    let e : asTy ρ t ≡ Named (ρ t.name) = view_flat ρ t h ∙ bottom_name ρ t.base t.name b in
    rw e

module _ {ks ws sc : List ℕ} (t : Typ) where
  pub array_kind : (t.levels ≡ 0 → ⊥) → KindOf ks ws sc t None
  unfolding wrapped or_itself asTy
  array_kind h = record {
    is = λ ρ al T.
        let b = bottom ρ t.base t.name in
        sym (ap kind_of (resolve_depth al (asTy ρ t) ∙ ap (or_itself (asTy ρ t)) (type_around al ρ t 65)) ∙ go ρ (by_depth al (65 - t.levels) b));
  }
    where
      go : (ρ : Naming) (o : Option Ty) → kind_of (or_itself (asTy ρ t) (wrapped t.lengths t.levels o)) ≡ None
      go ρ none = kind_up t.lengths t.levels (bottom ρ t.base t.name) h
      go ρ (some s) = kind_up t.lengths t.levels s h

  pub plain_kind : t.levels ≡ 0 → (t.base ≡ 33 → ⊥) → KindOf ks ws sc t (Some t.base)
  plain_kind h b = record { is = λ ρ al T. sym (ap kind_of (sym ((basic_resolved {ks = ks} {ws = ws} {sc = sc} t b).is ρ al T) ∙ view_flat ρ t h) ∙ kind_basic ρ t.base t.name b) }

  module _ (h : t.levels ≡ 0) (b : t.base ≡ 33) where
    pub lost_kind : Follows ks ws sc t.name None → KindOf ks ws sc t None
    unfolding or_itself shape kind_of
    lost_kind q = record { is = λ ρ al T. sym (ap kind_of (named t h b ρ al) ∙ go ρ (try_resolve al 65 [] (Named (ρ t.name))) (q.is ρ al T)) }
      where
        go : (ρ : Naming) (o : Option Ty) → shape o ≡ none → kind_of (or_itself (Named (ρ t.name)) o) ≡ None
        go ρ none e = refl
        go ρ (some s) e = absurd cc

    module _ {f : Followed} (q : Follows ks ws sc t.name (Some f)) where
      -- the kind of what the name leads to
      followed : (ρ : Naming) (al : Aliases) → Table ρ al ks ws sc →
          kind_of (resolve al (asTy ρ t)) ≡ (if eqb f.levels 0 then kind_of (bottom ρ f.base f.name) else None)
      unfolding or_itself shape kind_of counted cored
      followed ρ al T = ap kind_of (named t h b ρ al) ∙ go (try_resolve al 65 [] (Named (ρ t.name))) (q.is ρ al T)
        where
          go : (o : Option Ty) → shape o ≡ some (f.levels, bottom ρ f.base f.name) →
              kind_of (or_itself (Named (ρ t.name)) o) ≡ (if eqb f.levels 0 then kind_of (bottom ρ f.base f.name) else None)
          go none e = absurd cc
          go (some s) e =
              let x : arrays s ≡ f.levels = ap counted e in
              let y : inside s ≡ bottom ρ f.base f.name = ap cored e in
              shape_kind s ∙ rw (x, y)

      pub deep_kind : (f.levels ≡ 0 → ⊥) → KindOf ks ws sc t None
      deep_kind l = record { is = λ ρ al T. sym (rw (ne_eqb f.levels 0 l) at (followed ρ al T)) }

      pub named_kind : f.levels ≡ 0 → f.base ≡ 33 → KindOf ks ws sc t None
      named_kind l n = record { is = λ ρ al T. sym (rw (eq-eqb f.levels 0 l) at (followed ρ al T) ∙ kind_name ρ f.base f.name n) }

      pub found_kind : f.levels ≡ 0 → (f.base ≡ 33 → ⊥) → KindOf ks ws sc t (Some f.base)
      found_kind l n = record { is = λ ρ al T. sym (rw (eq-eqb f.levels 0 l) at (followed ρ al T) ∙ kind_basic ρ f.base f.name n) }

pub ruleset kinds = (array_kind, plain_kind, lost_kind, deep_kind, named_kind, found_kind)

-- ---- `same_basic`

pub basics_same : (a b : Typ) → a.levels ≡ 0 → b.levels ≡ 0 → a.base < 33 → a.base ≡ b.base → (ρ : Naming) → asTy ρ a ≡ asTy ρ b
basics_same a b p q h e ρ =
    view_flat ρ a p ∙ bottom_basic ρ a.base a.name (λ y. omega arith) (λ y. omega arith) ∙ ap basic e
    ∙ sym (view_flat ρ b q ∙ bottom_basic ρ b.base b.name (λ y. omega arith) (λ y. omega arith))
