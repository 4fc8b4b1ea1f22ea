-- Laws of types in the records. Assumes nothing.
use Prim.Native.Nat.{ℕ, zero, suc, ◌+◌, ◌-◌, ◌≤◌, ◌<◌}
use mathlib.Core.Path.{◌≡◌, refl, ap, sym, ◌∙◌}
use mathlib.Core.Bool.{Bool, true, false, ◌&&◌}
use mathlib.Core.List.{List, [], ◌∷◌}
use native.Mathlib.Omega.{arith}
use native.Mathlib.Numerals.{add-one}
use native.Mathlib.Decide.{dec_lt}
use native.Mathlib.Nat.{add-zero}
use lib.Dec.{eqb, ltb}
use lib.ListN.{length, get_or, set, drop, drop_of_length-le}
use lib.Seq.{drop-cons}
use borrow.Author.Tests.{eq-eqb, ne_eqb, ltb-true, eqb-true, eqb-false}
use Rattle.lustre.specs.Types.{Array, levels}
use Rattle.types.specs.Value.{Naming, bottom, up, asTy}
use Rattle.types.specs.Place.{arraysIn, standsIn, ty_of, ty_at, IsTypeAt, Last, Read}
use Rattle.types.specs.declared.Typ.{Typ}
use Rattle.types.proofs.Truths.{never, and_both}
use Rattle.types.proofs.Values.{levels_as, up_push}

stands_empty : (ks : List ℕ) → standsIn ks [] ≡ true → ⊥
unfolding standsIn
stands_empty [] e = never e
stands_empty (k ∷ ks) e = never e

module _ (ks ws : List ℕ) (at : ℕ) (p : IsTypeAt ks ws at) where
  -- the place is in the records
  pub in_kinds : at < length ks
  unfolding standsIn
  in_kinds = go (dec_lt at (length ks))
    where
      go : Dec (at < length ks) → at < length ks
      go (yes h) = h
      go (no h) = absurd (never (ap (λ (l : List ℕ). standsIn l (drop at ws)) (sym (drop_of_length-le ks {i = at} (omega arith))) ∙ p.stands))

  pub in_words : at < length ws
  in_words = go (dec_lt at (length ws))
    where
      go : Dec (at < length ws) → at < length ws
      go (yes h) = h
      go (no h) = absurd (stands_empty (drop at ks) (ap (standsIn (drop at ks)) (sym (drop_of_length-le ws {i = at} (omega arith))) ∙ p.stands))

  -- the records from the place on, the first taken off
  kinds_on : drop at ks ≡ get_or ks at 0 ∷ drop (at + 1) ks
  kinds_on = rw (add-one at) (drop-cons ks at 0 in_kinds)

  words_on : drop at ws ≡ get_or ws at 0 ∷ drop (at + 1) ws
  words_on = rw (add-one at) (drop-cons ws at 0 in_words)

  -- an array
  module _ (k : get_or ks at 0 ≡ 32) where
    pub arrays_array : arraysIn (drop at ks) ≡ suc (arraysIn (drop (at + 1) ks))
    unfolding arraysIn
    arrays_array = rw (kinds_on, eq-eqb (get_or ks at 0) 32 k)

    pub type_array : (ρ : Naming) → ty_at ρ ks ws at ≡ Array (get_or ws at 0) (ty_at ρ ks ws (at + 1))
    unfolding ty_of
    type_array ρ = rw (kinds_on, words_on, eq-eqb (get_or ks at 0) 32 k)

    stands_array : (ltb (get_or ws at 0) 4294967296 && standsIn (drop (at + 1) ks) (drop (at + 1) ws)) ≡ true
    unfolding standsIn
    stands_array = rw (kinds_on, words_on, eq-eqb (get_or ks at 0) 32 k) at p.stands

    length_small : get_or ws at 0 < 4294967296
    length_small = ltb-true (get_or ws at 0) 4294967296 (and_both (ltb (get_or ws at 0) 4294967296) (standsIn (drop (at + 1) ks) (drop (at + 1) ws)) stands_array).0

    pub type_next : IsTypeAt ks ws (at + 1)
    type_next = record {
      stands = (and_both (ltb (get_or ws at 0) 4294967296) (standsIn (drop (at + 1) ks) (drop (at + 1) ws)) stands_array).1;
      few = omega (arith, arrays_array, p.few);
    }

  -- a basic type or a name
  module _ (k : get_or ks at 0 ≡ 32 → ⊥) where
    pub arrays_bottom : arraysIn (drop at ks) ≡ 0
    unfolding arraysIn
    arrays_bottom = rw (kinds_on, ne_eqb (get_or ks at 0) 32 k)

    pub type_bottom : (ρ : Naming) → ty_at ρ ks ws at ≡ bottom ρ (get_or ks at 0) (get_or ws at 0)
    unfolding ty_of
    type_bottom ρ = rw (kinds_on, words_on, ne_eqb (get_or ks at 0) 32 k)

    name_small : get_or ks at 0 ≡ 33 → get_or ws at 0 < 512
    unfolding standsIn
    name_small e = ltb-true (get_or ws at 0) 512 (rw (kinds_on, words_on, ne_eqb (get_or ks at 0) 32 k, eq-eqb (get_or ks at 0) 33 e) at p.stands)

  kind_array : 0 < arraysIn (drop at ks) → get_or ks at 0 ≡ 32
  kind_array h = go (eqb (get_or ks at 0) 32) refl
    where
      go : (b : Bool) → eqb (get_or ks at 0) 32 ≡ b → get_or ks at 0 ≡ 32
      go true e = eqb-true (get_or ks at 0) 32 e
      go false e = absurd (omega (arith, arrays_bottom (eqb-false (get_or ks at 0) 32 e), h))

  kind_bottom : arraysIn (drop at ks) ≡ 0 → get_or ks at 0 ≡ 32 → ⊥
  kind_bottom z k = omega (arith, arrays_array k, z)

suc_is : (n : ℕ) → 1 + n ≡ suc n
suc_is n = omega arith

-- past i of the arrays at a place stands a type with the others
record Later (ks ws : List ℕ) (at i j : ℕ) : Type 0 where
  pub there : IsTypeAt ks ws j
  pub left : arraysIn (drop j ks) + i ≡ arraysIn (drop at ks)

module _ (ks ws : List ℕ) (at : ℕ) (p : IsTypeAt ks ws at) where
  later_by : (i : ℕ) → i ≤ arraysIn (drop at ks) → Later ks ws at i (at + i)
  later_by zero h = rw (add-zero at) (record { there = p; left = add-zero (arraysIn (drop at ks)) })
  later_by (suc i) h =
      let q = later_by i (omega arith) in
      let k : get_or ks (at + i) 0 ≡ 32 = kind_array ks ws (at + i) q.there (omega (arith, q.left)) in
      let e : at + suc i ≡ at + i + 1 = omega arith in
      rw e (record { there = type_next ks ws (at + i) q.there k; left = omega (arith, q.left, arrays_array ks ws (at + i) q.there k) })

  later : (j : ℕ) → at ≤ j → j ≤ at + arraysIn (drop at ks) → Later ks ws at (j - at) j
  later j l h =
      let e : at + (j - at) ≡ j = omega arith in
      rw e at (later_by (j - at) (omega arith))

  -- the types that end where the type at the place ends
  inner_kind : (j : ℕ) → at ≤ j → j < at + arraysIn (drop at ks) → get_or ks j 0 ≡ 32
  inner_kind j l h =
      let q = later j l (omega arith) in
      kind_array ks ws j q.there (omega (arith, q.left))

  pub inner_small : (j : ℕ) → at ≤ j → j < at + arraysIn (drop at ks) → get_or ws j 0 < 4294967296
  inner_small j l h = length_small ks ws j (later j l (omega arith)).there (inner_kind j l h)

  inner_type : (ρ : Naming) (j : ℕ) → at ≤ j → j < at + arraysIn (drop at ks) → ty_at ρ ks ws j ≡ Array (get_or ws j 0) (ty_at ρ ks ws (j + 1))
  inner_type ρ j l h = type_array ks ws j (later j l (omega arith)).there (inner_kind j l h) ρ

  module _ (last : ℕ) (e : last ≡ at + arraysIn (drop at ks)) where
    last_there : IsTypeAt ks ws last
    last_there = (later last (omega arith) (omega arith)).there

    pub last_in : Last ks ws at last
    last_in = record { behind = e; in_kinds = in_kinds ks ws last last_there; in_words = in_words ks ws last last_there }

    last_kind : get_or ks last 0 ≡ 32 → ⊥
    last_kind = kind_bottom ks ws last last_there (omega (arith, (later last (omega arith) (omega arith)).left))

    pub last_known : get_or ks last 0 ≡ 33 → get_or ws last 0 < 512
    last_known = name_small ks ws last last_there last_kind

    pub last_type : (ρ : Naming) → ty_at ρ ks ws last ≡ bottom ρ (get_or ks last 0) (get_or ws last 0)
    last_type = type_bottom ks ws last last_there last_kind

    -- the lengths that `read_type` has read, i of them and one more
    pub read_more : (l : List ℕ) (i : ℕ) → i < length l → i < last - at →
        ((ρ : Naming) → up l i (bottom ρ (get_or ks last 0) (get_or ws last 0)) ≡ ty_at ρ ks ws (last - i)) →
        (ρ : Naming) → up (set l i (get_or ws (last - 1 - i) 0)) (i + 1) (bottom ρ (get_or ks last 0) (get_or ws last 0)) ≡ ty_at ρ ks ws (last - (i + 1))
    read_more l i h k f ρ =
        let j : last - 1 - i ≡ last - (i + 1) = omega arith in
        let q : last - (i + 1) + 1 ≡ last - i = omega arith in
        rw j (up_push l i (get_or ws (last - (i + 1)) 0) _ h ∙ ap (Array (get_or ws (last - (i + 1)) 0)) (f ρ)
        ∙ sym (rw q at (inner_type ρ (last - (i + 1)) (omega arith) (omega arith))))

    -- what `read_type` has read
    pub read_all : {t : Typ} → t.levels + at ≡ last →
        ((ρ : Naming) → asTy ρ t ≡ ty_at ρ ks ws at) → Read ks ws at t (last + 1)
    read_all {t} l f = record {
      few = omega (arith, p.few);
      is = f;
      after = λ ρ. omega (arith, levels_as ρ t, ap levels (f ρ));
    }
