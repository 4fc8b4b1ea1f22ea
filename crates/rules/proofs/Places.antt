-- A type that stands in the records is the type that `types` reads there; and ports one by one.
-- Assumes nothing.
use Prim.Native.Nat.{ℕ, ◌+◌, ◌≤◌, ◌<◌}
use native.Mathlib.Omega.{arith}
use native.Mathlib.Numerals.{add-one}
use mathlib.Core.Path.{◌≡◌, refl, ap, ◌∙◌}
use mathlib.Core.Bool.{true}
use mathlib.Core.List.{List, ◌∷◌}
use lib.ListN.{length, get_or, drop}
use lib.Seq.{drop-cons}
use borrow.Author.Tests.{lt-ltb, le-leb, ne_eqb}
use Rattle.lustre.specs.Types.{Ty, basic, Array, Named, Tuple, levels}
use Rattle.standing.specs.Standing.{Source, word, TypeAt}
use Rattle.standing.proofs.Inversions.{type_record, type_kind, array_type_here, named_here}
use Rattle.types.specs.Value.{Naming, bottom}
use Rattle.types.specs.Place.{arraysIn, standsIn, ty_of, ty_at, IsTypeAt, Last, Read}
use Rattle.types.specs.declared.Typ.{Typ}
use Rattle.rules.specs.World.{Typed}
use Rattle.rules.specs.Post.{TypeIs}

-- what stands at the start of kinds and words is t
record Stands (ρ : Naming) (t : Ty) (ks ws : List ℕ) : Type 0 where
  whole : standsIn ks ws ≡ true
  levels : arraysIn ks + 1 ≡ levels t
  is : ty_of ρ ks ws ≡ t

-- what so stands at a place, with at most 68 levels
type_at : {ρ : Naming} {t : Ty} (ks ws : List ℕ) (at : ℕ) → Stands ρ t (drop at ks) (drop at ws) → levels t ≤ 68 → IsTypeAt ks ws at × (ty_at ρ ks ws at ≡ t)
type_at ks ws at s h = (record { stands = s.whole; few = omega (arith, s.levels) }, s.is)

module _ (S : Source) where
  -- the kinds and the words from a record on
  kinds_from : (at : ℕ) → at < length S.ks → drop at S.ks ≡ get_or S.ks at 0 ∷ drop (at + 1) S.ks
  kinds_from at h = rw (add-one at, drop-cons S.ks at 0)

  words_from : (at : ℕ) → at < length S.ws → drop at S.ws ≡ get_or S.ws at 0 ∷ drop (at + 1) S.ws
  words_from at h = rw (add-one at, drop-cons S.ws at 0)

  -- a basic type's kind is one of 20 to 31
  basic_range : (b at : ℕ) → TypeAt S (basic b) at → (20 ≤ b) × (b ≤ 31)
  unfolding TypeAt
  basic_range b at s =
      let r = type_kind S (basic b) at s in
      let q = s.0.kind in
      let no_array : b ≡ 32 → ⊥ = λ e. (let h = (array_type_here S (basic b) at s (q ∙ e)).is in let z : ◌≡◌ {A = ℕ} 0 1 = cc in omega arith) in
      let no_name : b ≡ 33 → ⊥ = λ e. (let h = (named_here S (basic b) at s (q ∙ e)).holds in let z : ◌≡◌ {A = ℕ} 0 1 = cc in omega arith) in
      (omega (arith, r.0), omega (arith, r.1))

  -- what stands at a position stands at the start of the kinds and words from there on
  stands : (t : Ty) (at : ℕ) → TypeAt S t at → Stands S.text t (drop at S.ks) (drop at S.ws)
  unfolding TypeAt standsIn arraysIn ty_of levels bottom
  stands (basic b) at s =
      let r = basic_range b at s in
      let n₁ = ne_eqb b 32 (λ e. omega (arith, r.1)) in
      let n₂ = ne_eqb b 33 (λ e. omega (arith, r.1)) in
      let n₃ = ne_eqb b 34 (λ e. omega (arith, r.1)) in
      rw (kinds_from at s.0.in_kinds, words_from at s.0.in_words, s.0.kind)
      (record { whole = rw (n₁, n₂, le-leb 20 b r.0, le-leb b 31 r.1); levels = rw n₁; is = rw (n₁, n₂, n₃) })
  stands (Array n t) at s =
      let r = stands t (at + 1) s.3 in
      rw (kinds_from at s.0.in_kinds, words_from at s.0.in_words, s.0.kind, s.1)
      (record { whole = rw (lt-ltb n 4_294_967_296 s.2) r.whole; levels = omega (arith, r.levels); is = ap (Array n) r.is })
  stands (Named x) at s =
      rw (kinds_from at s.0.in_kinds, words_from at s.0.in_words, s.0.kind)
      (record { whole = lt-ltb (word S at) 512 s.1.small; levels = refl; is = ap Named s.1.text })
  stands (Tuple n) at s = absurd s

module _ {S : Source} {t : Ty} {at : ℕ} (g : Typed S t at) where
  -- it begins within the records
  pub type_in : at < length S.ks
  type_in = (type_record S t at g.stands).in_kinds

  -- what `read_type` asks for
  pub type_there : IsTypeAt S.ks S.ws at
  type_there = (type_at S.ks S.ws at (stands S t at g.stands) g.few).0

  pub type_is : ty_at S.text S.ks S.ws at ≡ t
  type_is = (type_at S.ks S.ws at (stands S t at g.stands) g.few).1

  -- the record that ends it is the last of it
  pub last_ends : {r : ℕ} → Last S.ks S.ws at r → r + 1 ≡ at + levels t
  last_ends d = omega (arith, d.behind, (stands S t at g.stands).levels)

  module _ {r : Typ} {next : ℕ} (d : Read S.ks S.ws at r next) where
    -- and what it gives
    pub read_is : TypeIs S.text t 67 r
    read_is = record { is = d.is S.text ∙ type_is; low = d.few }

    pub read_next : next ≡ at + levels t
    read_next = d.after S.text ∙ ap (λ (u : Ty). at + levels u) type_is
