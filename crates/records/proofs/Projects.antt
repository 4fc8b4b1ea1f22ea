-- Refusals 5 and 6 by the walk over the records of the shorter slice: a law for each answer of `check_structure`.
-- Assumes nothing.
use mathlib.Core.Path.{◌≡◌, refl, ap, ap₂, sym, subst, ◌∙◌}
use mathlib.Core.List.{List, [], ◌∷◌}
use mathlib.Core.Option as maybe
use Prim.Native.Nat.{ℕ, ◌+◌, ◌≤◌, ◌<◌, min}
use native.Mathlib.Omega.{arith}
use lib.ListN.{length, take, length-take}
use lib.Seq.{take_all}
use Rattle.std.proofs.Common.{None, Some, Result, Ok, Err}
use Rattle.lustre.specs.Name.{Name}
use Rattle.lustre.specs.Records.{Rec, spell}
use Rattle.lustre.specs.Grammar.{one, a_project, Got, got, stuck, read_project, whole}
use Rattle.lustre.specs.Project.{Project}
use Rattle.lustre.specs.Answer.{place_in, no_project, too_deep_at}
use Rattle.lustre.specs.declared.Refusal.{Refusal}
use Rattle.lustre.specs.declared.Refusal.TheVariants.{NoProject, TooDeep}
use Rattle.records.specs.Places.{Walk, go, Passed}
use Rattle.records.specs.Tables.{placed, structured, Structured}
use Rattle.records.specs.declared.Reached.{Reached}
use Rattle.records.proofs.Spells.{spell_take, spell_kinds, spell_words, spell_length}
use Rattle.records.proofs.Passes.{one_passed}
use Rattle.records.proofs.Agree.{Match, marked, go_names, go_agree}

-- the place of refusal 5, by where the walk stops
stuck_at : (n p : ℕ) (g : Got Project) → Match n (Err p) g → place_in n (whole g) ≡ maybe.some p
unfolding place_in whole
stuck_at n p (got P rest) m = absurd m
stuck_at n p (stuck rest) m = ap maybe.some (omega arith)

left_at : (n : ℕ) (r : Reached) (g : Got Project) → Match n (Ok r) g → r.next < n → place_in n (whole g) ≡ maybe.some r.next
unfolding place_in whole
left_at n r (got P []) m h = absurd (omega arith)
left_at n r (got P (x ∷ rest)) m h = ap maybe.some (omega arith)
left_at n r (stuck rest) m h = absurd m

none_left : (n : ℕ) (r : Reached) (g : Got Project) → Match n (Ok r) g → n ≤ r.next → place_in n (whole g) ≡ maybe.none
unfolding place_in whole
none_left n r (got P []) m h = refl
none_left n r (got P (x ∷ rest)) m h = absurd (omega arith)
none_left n r (stuck rest) m h = absurd m

-- the place of refusal 6, by the mark
none_marked : (o : maybe.Option ℕ) → None ≡ placed o → o ≡ maybe.none
none_marked maybe.none q = refl
none_marked (maybe.some p) q = cc

marked_at : (d : ℕ) (o : maybe.Option ℕ) → Some d ≡ placed o → o ≡ maybe.some d
marked_at d maybe.none q = cc
marked_at d (maybe.some p) q = cc

-- the records of slices of one length
module _ (ks ws : List ℕ) (same : length ks ≡ length ws) (r : Walk) (p : Passed ks ws ((one a_project, 1) ∷ []) 0 None 1 r) (ρ : ℕ → Name) where
  abbrev rs : List Rec
  rs = spell ρ ks ws

  walked : go ks ws ((one a_project, 1) ∷ []) 0 None ≡ r
  walked = one_passed ks ws (one a_project, 1) 0 None 1 r p

  matched : (q : Walk) → r ≡ q → Match (length rs) q (read_project rs)
  unfolding read_project
  matched q e = let n : 0 + length rs ≡ length rs = omega arith in
      subst (λ (m : ℕ). Match m q (read_project rs)) n (subst (λ (q : Walk). Match (0 + length rs) q (read_project rs)) (walked ∙ e) (go_agree ρ ks ws (one a_project) 1 0 None))

  is_stuck : (q : ℕ) → r ≡ Err q → no_project rs ≡ maybe.some q
  unfolding no_project
  is_stuck q e = stuck_at (length rs) q (read_project rs) (matched (Err q) e)

  module _ (e : Reached) (q : r ≡ Ok e) where
    is_left : e.next < length ks → no_project rs ≡ maybe.some e.next
    unfolding no_project
    is_left h = left_at (length rs) e (read_project rs) (matched (Ok e) q) (omega (arith, spell_length ρ ks ws same))

    is_project : length ks ≤ e.next → no_project rs ≡ maybe.none
    unfolding no_project
    is_project h = none_left (length rs) e (read_project rs) (matched (Ok e) q) (omega (arith, spell_length ρ ks ws same))

    is_marked : e.deep ≡ placed (too_deep_at rs)
    unfolding too_deep_at
    is_marked = marked rs ((one a_project, 1) ∷ []) 0 e (sym (go_names ρ ks ws ((one a_project, 1) ∷ []) 0 None) ∙ walked ∙ q)

-- the records of slices cut to the shorter's length are all
module _ (ks ws : List ℕ) (n : ℕ) (s : n ≡ min (length ks) (length ws)) where
  cut_length : length (take n ks) ≡ n
  cut_length = omega (arith, length-take n ks)

  pub cut_same : length (take n ks) ≡ length (take n ws)
  cut_same = omega (arith, cut_length, length-take n ws)

  cut : (a : Result (Unit {0}) Refusal) → Structured (take n ks) (take n ws) a → Structured ks ws a
  cut a h ρ =
      let e = spell_take ρ n ks ws ∙ take_all n (spell ρ ks ws) (omega (arith, spell_kinds ρ ks ws, spell_words ρ ks ws)) in
      h ρ ∙ ap (λ (rs : List Rec). structured (no_project rs) (too_deep_at rs)) e

  module _ (r : Walk) (p : Passed (take n ks) (take n ws) ((one a_project, 1) ∷ []) 0 None 1 r) where
    pub refused : (q : ℕ) → r ≡ Err q → Structured ks ws (Err (NoProject q))
    refused q e = cut _ (λ ρ. rw (is_stuck (take n ks) (take n ws) cut_same r p ρ q e))

    module _ (e : Reached) (q : r ≡ Ok e) where
      pub left_over : e.next < n → Structured ks ws (Err (NoProject e.next))
      left_over h = cut _ (λ ρ. rw (is_left (take n ks) (take n ws) cut_same r p ρ e q (omega (arith, cut_length))))

      module _ (h : n ≤ e.next) where
        judged : (o : maybe.Option ℕ) → ((ρ : ℕ → Name) → too_deep_at (spell ρ (take n ks) (take n ws)) ≡ o) → Structured ks ws (structured maybe.none o)
        judged o m = cut _ (λ ρ. ap₂ structured (sym (is_project (take n ks) (take n ws) cut_same r p ρ e q (omega (arith, cut_length)))) (sym (m ρ)))

        mark : (ρ : ℕ → Name) → e.deep ≡ placed (too_deep_at (spell ρ (take n ks) (take n ws)))
        mark ρ = is_marked (take n ks) (take n ws) cut_same r p ρ e q

        pub too_far : (d : ℕ) → e.deep ≡ Some d → Structured ks ws (Err (TooDeep d))
        too_far d m = judged (maybe.some d) (λ ρ. marked_at d _ (sym m ∙ mark ρ))

        pub accepted : e.deep ≡ None → Structured ks ws (Ok tt)
        accepted m = judged maybe.none (λ ρ. none_marked _ (sym m ∙ mark ρ))
