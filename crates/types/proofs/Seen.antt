-- The set of aliases entered decides nothing: where an alias is entered again, the levels run out. Assumes nothing.
use Prim.Native.Nat.{ℕ, zero, suc}
use mathlib.Core.Path.{◌≡◌, refl, ap, sym, ◌∙◌}
use mathlib.Core.Bool.{Bool, true, false}
use mathlib.Core.List.{List, [], ◌∷◌}
use mathlib.Core.Option.{Option, none, some}
use native.Mathlib.Omega.{arith}
use Rattle.lustre.specs.Name.{Name, mem, ◌is◌, ◌among◌}
use Rattle.lustre.specs.Types.{Ty, basic, Array, Named, Tuple}
use Rattle.lustre.specs.Resolve.{Aliases, array_of, follow_alias, try_resolve, or_itself, resolve}
use Rattle.types.proofs.Truths.{never}
use Rattle.demands.proofs.Orders.{is_test}

-- `try_resolve` with no set of the aliases entered
unfoldable pub by_depth : Aliases → ℕ → Ty → Option Ty
by_depth al zero t = none
by_depth al (suc f) (basic k) = some (basic k)
by_depth al (suc f) (Tuple n) = some (Tuple n)
by_depth al (suc f) (Array n t) = array_of n (by_depth al f t)
by_depth al (suc f) (Named x) = follow_alias x (by_depth al f) (al x)

module _ (al : Aliases) where
  none_array : (n : ℕ) (o : Option Ty) → array_of n o ≡ none → o ≡ none
  unfolding array_of
  none_array n none e = refl
  none_array n (some t) e = absurd (let z : ◌≡◌ {A = ℕ} 0 1 = cc in omega arith)

  array_none : (n : ℕ) {o : Option Ty} → o ≡ none → array_of n o ≡ none
  unfolding array_of
  array_none n e = rw e

  -- what fails with more levels fails with fewer
  fewer_levels : (f : ℕ) (t : Ty) → by_depth al (suc f) t ≡ none → by_depth al f t ≡ none
  unfolding by_depth follow_alias
  fewer_levels zero t e = refl
  fewer_levels (suc f) (basic k) e = e
  fewer_levels (suc f) (Tuple n) e = e
  fewer_levels (suc f) (Array n t) e = array_none n (fewer_levels f t (none_array n (by_depth al (suc f) t) e))
  fewer_levels (suc f) (Named x) e = go (fewer_levels f) (al x) e
    where
      go : ((t : Ty) → by_depth al (suc f) t ≡ none → by_depth al f t ≡ none) → (o : Option Ty) →
          follow_alias x (by_depth al (suc f)) o ≡ none → follow_alias x (by_depth al f) o ≡ none
      go ih none d = d
      go ih (some t) d = ih t d

  -- a type whose failure brings its failure with one level more always fails
  always : (t : Ty) → ((f : ℕ) → by_depth al f t ≡ none → by_depth al (suc f) t ≡ none) → (f : ℕ) → by_depth al f t ≡ none
  unfolding by_depth
  always t h zero = refl
  always t h (suc f) = h f (always t h f)

  -- each alias entered fails where what is left of it does
  abbrev Inside : List Name → Ty → Type 0
  Inside seen t = (v : Name) → (v among seen) ≡ true → (f : ℕ) → by_depth al f t ≡ none → by_depth al (suc f) (Named v) ≡ none

  seen_depth : (f : ℕ) (seen : List Name) (t : Ty) → Inside seen t → try_resolve al f seen t ≡ by_depth al f t
  unfolding try_resolve by_depth follow_alias mem
  seen_depth zero seen t h = refl
  seen_depth (suc f) seen (basic k) h = refl
  seen_depth (suc f) seen (Tuple n) h = refl
  seen_depth (suc f) seen (Array n t) h =
      ap (array_of n) (seen_depth f seen t (λ v m g e. fewer_levels (suc g) (Named v) (h v m (suc g) (array_none n e))))
  seen_depth (suc f) seen (Named x) h = go (seen_depth f (x ∷ seen)) (al x) refl (x among seen) refl
    where
      go : ((t : Ty) → Inside (x ∷ seen) t → try_resolve al f (x ∷ seen) t ≡ by_depth al f t) → (o : Option Ty) → al x ≡ o → (b : Bool) → (x among seen) ≡ b →
          follow_alias x (λ t. elim b [ true ↦ none | false ↦ try_resolve al f (x ∷ seen) t ]) o ≡ follow_alias x (by_depth al f) o
      go ih none p b q = refl
      go ih (some t) p true q = sym (ap (follow_alias x (by_depth al f)) (sym p) ∙ always (Named x) (h x q) (suc f))
      go ih (some t) p false q = ih t (λ v m g e. enter v g e (v is x) refl m)
        where
          under : (g : ℕ) → by_depth al g t ≡ none → by_depth al (suc g) (Named x) ≡ none
          under g e = ap (follow_alias x (by_depth al g)) p ∙ e

          enter : (v : Name) (g : ℕ) → by_depth al g t ≡ none → (b : Bool) → (v is x) ≡ b → (elim b [ true ↦ true | false ↦ v among seen ]) ≡ true → by_depth al (suc g) (Named v) ≡ none
          enter v g e true s m = rw (is_test.same v x s) (under g e)
          enter v g e false s m = fewer_levels (suc g) (Named v) (h v m (suc g) (under g e))

pub try_depth : (al : Aliases) (t : Ty) → try_resolve al 65 [] t ≡ by_depth al 65 t
unfolding mem
try_depth al t = seen_depth al 65 [] t (λ v m. absurd (never m))

pub resolve_depth : (al : Aliases) (t : Ty) → resolve al t ≡ or_itself t (by_depth al 65 t)
unfolding resolve
resolve_depth al t = ap (or_itself t) (try_depth al t)
