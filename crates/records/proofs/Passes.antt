-- What reading a part, parts that a count announces and the parts behind a record answers: one law for each return, and the loops' invariant.
-- Assumes nothing.
use mathlib.Core.Path.{◌≡◌, refl, ap, ap₂, sym, subst, ◌∙◌}
use mathlib.Core.List.{List, [], ◌∷◌, ◌++◌, map}
use mathlib.Core.Option.{none, some}
use Prim.Native.Nat.{ℕ, ◌+◌, ◌≤◌, ◌<◌}
use native.Mathlib.Omega.{arith}
use lib.ListN.{length, length-map, replicate, length-replicate, get_or, drop, drop_of_length-le}
use Rattle.std.proofs.lemmas.List.{get_or-map, get_or-replicate}
use lib.Seq.{drop-cons}
use native.Mathlib.Numerals.{add-one}
use Rattle.std.proofs.Common.{Option, Ok, Err}
use Rattle.lustre.specs.Grammar.{Class, parts, each}
use Rattle.lustre.specs.Levels.{inner_of}
use Rattle.records.specs.Places.{class_of, Want, Walk, mark, shape_of, on_shape, wants, go, after, EndsIn, Passed}
use Rattle.records.specs.declared.Reached.{Reached}
use Rattle.records.specs.declared.tables.Class as Coded
use Rattle.records.proofs.Grammar.{each_counts}
use Rattle.records.proofs.Spells.{number_at}
use Rattle.records.proofs.Steps.{go_none, go_out, go_in, wants_many}

-- with nothing pending the walk is where the call stopped
after_none : (ks ws : List ℕ) (r : Walk) → after ks ws [] r ≡ r
after_none ks ws (Ok r) = go_none ks ws r.next r.deep
after_none ks ws (Err p) = refl

pub one_passed : (ks ws : List ℕ) (w : Want) (at : ℕ) (deep : Option ℕ) (from : ℕ) (r : Walk) → Passed ks ws (w ∷ []) at deep from r → go ks ws (w ∷ []) at deep ≡ r
one_passed ks ws w at deep from r p = p.place [] ∙ after_none ks ws r

-- what a part is read into, by what its record asks to follow it
module _ (ks ws : List ℕ) (same : length ks ≡ length ws) (w : Want) (at : ℕ) (deep : Option ℕ) where
  pub part_out : length ks ≤ at → Passed ks ws (w ∷ []) at deep (at + 1) (Err at)
  part_out h = record { place = λ st. go_out ks ws w st at deep h; within = tt }

  module _ (h : at < length ks) where
    pub part_none : shape_of w.0 (get_or ks at 0) ≡ none → Passed ks ws (w ∷ []) at deep (at + 1) (Err at)
    unfolding on_shape
    part_none q = record { place = λ st. go_in ks ws w st at deep h same ∙ rw q; within = tt }

    -- the call on what follows begins past the record, with its mark
    module _ (next : ℕ) (now : Option ℕ) (en : next ≡ at + 1) (em : now ≡ mark w at deep) (r : Walk) where
      onward : (vs : List Want) → Passed ks ws vs next now next r → ((st : List Want) → go ks ws (w ∷ st) at deep ≡ go ks ws (vs ++ st) (at + 1) (mark w at deep)) → Passed ks ws (w ∷ []) at deep (at + 1) r
      onward vs p q = record {
        place = λ st. q st ∙ ap₂ (go ks ws (vs ++ st)) (sym en) (sym em) ∙ p.place st;
        within = subst (λ (i : ℕ). EndsIn i (length ks) r) en p.within;
      }

      pub part_each : (d : Class) (v : Want) → shape_of w.0 (get_or ks at 0) ≡ some (each d) → inner_of w.0 w.1 d ≡ v → Passed ks ws (replicate (get_or ws at 0) v) next now next r → Passed ks ws (w ∷ []) at deep (at + 1) r
      unfolding on_shape
      part_each d v q e p = onward _ p (λ st. go_in ks ws w st at deep h same
          ∙ rw (q, number_at (λ n. []) ks ws at (each_counts w.0 (get_or ks at 0) d q), wants_many w d (get_or ws at 0), e))

      pub part_parts : (cs : List Class) → shape_of w.0 (get_or ks at 0) ≡ some (parts cs) → Passed ks ws (wants w cs) next now next r → Passed ks ws (w ∷ []) at deep (at + 1) r
      unfolding on_shape
      part_parts cs q p = onward _ p (λ st. go_in ks ws w st at deep h same ∙ rw q)

-- w is the one at i of the wants
abbrev pub At : ℕ → Want → List Want → Type 0
At i w all = (i < length all) × (get_or all i w ≡ w)

-- so are each of those that a count announces, and the parts behind a record
pub many_at : (n i : ℕ) (w : Want) → i < n → At i w (replicate n w)
many_at n i w h = (omega (arith, length-replicate n w), get_or-replicate n i w w h)

pub behind_at : (w : Want) (cs : List Coded.Class) (i : ℕ) (d : Coded.Class) (v : Want) → i < length cs → inner_of w.0 w.1 (class_of (get_or cs i d)) ≡ v → At i v (wants w (map class_of cs))
behind_at w cs i d v h e =
    let m : length (map class_of cs) ≡ length cs = length-map cs class_of in
    (omega (arith, length-map (map class_of cs) (inner_of w.0 w.1), m), get_or-map (inner_of w.0 w.1) (map class_of cs) i (class_of d) v (omega (arith, m)) ∙ ap (inner_of w.0 w.1) (get_or-map class_of cs i d (class_of d) h) ∙ e)

-- The first i of the wants have been passed: the walk over all of them goes on with those behind, whatever is still pending.
pub record Left (ks ws : List ℕ) (all : List Want) (from : Reached) (i : ℕ) (r : Reached) : Type 0 where
  pub place : (st : List Want) → go ks ws (all ++ st) from.next from.deep ≡ go ks ws (drop i all ++ st) r.next r.deep
  pub started : from.next ≤ r.next
  pub inside : r.next ≤ length ks

module _ (ks ws : List ℕ) (all : List Want) (from : Reached) where
  pub left_all : from.next ≤ length ks → Left ks ws all from 0 from
  left_all h = record { place = λ st. refl; started = omega arith; inside = h }

  module _ (i : ℕ) (r : Reached) (s : Left ks ws all from i r) where
    pub left_none : (n : ℕ) → length all ≡ n → n ≤ i → Passed ks ws all from.next from.deep from.next (Ok r)
    left_none n e h = record { place = λ st. s.place st ∙ ap (λ (l : List Want). go ks ws (l ++ st) r.next r.deep) (drop_of_length-le all (omega arith)); within = (s.started, s.inside) }

    -- the next of the wants
    module _ (w : Want) (o : At i w all) where
      passed : (q : Walk) → Passed ks ws (w ∷ []) r.next r.deep (r.next + 1) q → (st : List Want) → go ks ws (all ++ st) from.next from.deep ≡ after ks ws (drop (i + 1) all ++ st) q
      passed q p st =
          let f : drop i all ≡ w ∷ drop (i + 1) all = rw (add-one i, drop-cons all i w o.0, o.1) in
          s.place st ∙ ap (λ (l : List Want). go ks ws (l ++ st) r.next r.deep) f ∙ p.place (drop (i + 1) all ++ st)

      pub left_more : (n : Reached) → Passed ks ws (w ∷ []) r.next r.deep (r.next + 1) (Ok n) → Left ks ws all from (i + 1) n
      left_more n p = record { place = passed (Ok n) p; started = omega (arith, s.started, p.within.0); inside = p.within.1 }

      pub left_bad : (n : ℕ) → Passed ks ws (w ∷ []) r.next r.deep (r.next + 1) (Err n) → Passed ks ws all from.next from.deep from.next (Err n)
      left_bad n p = record { place = passed (Err n) p; within = tt }
