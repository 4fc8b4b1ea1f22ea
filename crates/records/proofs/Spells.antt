-- Spelled records: their kinds and numbers whatever the names are, how many they are, and the records of parts of kinds and words.
-- Assumes nothing.
use mathlib.Core.Path.{◌≡◌, refl, ap}
use mathlib.Core.List.{List, [], ◌∷◌}
use mathlib.Core.Option.{Option, none, some}
use Prim.Native.Nat.{ℕ, zero, suc, ◌+◌, ◌≤◌, ◌<◌}
use native.Mathlib.Nat.{not-suc-le-zero, le_of_suc-le-suc, suc_inj, suc-ne-zero}
use native.Mathlib.Numerals.{add-one}
use native.Mathlib.Omega.{arith}
use lib.ListN.{length, get_or, take, drop, drop_of_length-le}
use Rattle.lustre.specs.Name.{Name}
use Rattle.lustre.specs.Records.{Rec, WordClass, no_word, a_name, a_count, a_length, a_truth, any_word, a_byte, word_class, spell_as, spell}

-- a spelled record keeps its kind, and its number does not depend on the text
pub spelled : (o : Option WordClass) (k w : ℕ) (t u : Name) → ((spell_as o k w t).kind ≡ k) × ((spell_as o k w t).number ≡ (spell_as o k w u).number)
unfolding spell_as
spelled none k w t u = (refl, refl)
spelled (some no_word) k w t u = (refl, refl)
spelled (some a_name) k w t u = (refl, refl)
spelled (some a_count) k w t u = (refl, refl)
spelled (some a_length) k w t u = (refl, refl)
spelled (some a_truth) k w t u = (refl, refl)
spelled (some any_word) k w t u = (refl, refl)
spelled (some a_byte) k w t u = (refl, refl)

-- a count is a number, and a name a text
numbered : (k w : ℕ) (t : Name) → (spell_as (some a_count) k w t).number ≡ w
unfolding spell_as
numbered k w t = refl

named : (k w : ℕ) (t : Name) → (spell_as (some a_name) k w t).text ≡ t
unfolding spell_as
named k w t = refl

module _ (ρ : ℕ → Name) where
  spell_nil : (ks : List ℕ) → spell ρ ks [] ≡ []
  unfolding spell
  spell_nil [] = refl
  spell_nil (k ∷ ks) = refl

  -- the records of the first, and of the last kinds and words are the first, and the last records
  pub spell_take : (n : ℕ) (ks ws : List ℕ) → spell ρ (take n ks) (take n ws) ≡ take n (spell ρ ks ws)
  unfolding spell
  spell_take zero ks ws = refl
  spell_take (suc n) [] ws = refl
  spell_take (suc n) (k ∷ ks) [] = refl
  spell_take (suc n) (k ∷ ks) (w ∷ ws) = ap {B = List Rec} (λ l. spell_as (word_class k) k w (ρ w) ∷ l) (spell_take n ks ws)

  pub spell_drop : (n : ℕ) (ks ws : List ℕ) → spell ρ (drop n ks) (drop n ws) ≡ drop n (spell ρ ks ws)
  unfolding spell
  spell_drop zero ks ws = refl
  spell_drop (suc n) [] ws = refl
  spell_drop (suc n) (k ∷ ks) [] = spell_nil (drop n ks)
  spell_drop (suc n) (k ∷ ks) (w ∷ ws) = spell_drop n ks ws

  -- there are as many records as there are kinds and words
  pub spell_length : (ks ws : List ℕ) → length ks ≡ length ws → length (spell ρ ks ws) ≡ length ks
  unfolding spell
  spell_length [] ws e = refl
  spell_length (k ∷ ks) [] e = absurd (suc-ne-zero (length ks) e)
  spell_length (k ∷ ks) (w ∷ ws) e = ap suc (spell_length ks ws (suc_inj e))

  pub spell_kinds : (ks ws : List ℕ) → length (spell ρ ks ws) ≤ length ks
  unfolding spell
  spell_kinds [] ws = omega arith
  spell_kinds (k ∷ ks) [] = omega arith
  spell_kinds (k ∷ ks) (w ∷ ws) = let h = spell_kinds ks ws in omega arith

  pub spell_words : (ks ws : List ℕ) → length (spell ρ ks ws) ≤ length ws
  unfolding spell
  spell_words [] ws = omega arith
  spell_words (k ∷ ks) [] = omega arith
  spell_words (k ∷ ks) (w ∷ ws) = let h = spell_words ks ws in omega arith

  -- the record at a position, before those behind it
  abbrev pub rec_at : List ℕ → List ℕ → ℕ → Rec
  rec_at ks ws at = spell_as (word_class (get_or ks at 0)) (get_or ks at 0) (get_or ws at 0) (ρ (get_or ws at 0))

  pub kind_at : (ks ws : List ℕ) (at : ℕ) → (rec_at ks ws at).kind ≡ get_or ks at 0
  kind_at ks ws at = (spelled (word_class (get_or ks at 0)) (get_or ks at 0) (get_or ws at 0) (ρ (get_or ws at 0)) []).0

  pub number_at : (ks ws : List ℕ) (at : ℕ) → word_class (get_or ks at 0) ≡ some a_count → (rec_at ks ws at).number ≡ get_or ws at 0
  number_at ks ws at q = rw q (numbered (get_or ks at 0) (get_or ws at 0) (ρ (get_or ws at 0)))

  pub text_at : (ks ws : List ℕ) (at : ℕ) → word_class (get_or ks at 0) ≡ some a_name → (rec_at ks ws at).text ≡ ρ (get_or ws at 0)
  text_at ks ws at q = rw q (named (get_or ks at 0) (get_or ws at 0) (ρ (get_or ws at 0)))

  pub spell_at : (ks ws : List ℕ) (at : ℕ) → at < length ks → length ks ≡ length ws → drop at (spell ρ ks ws) ≡ rec_at ks ws at ∷ drop (at + 1) (spell ρ ks ws)
  unfolding spell
  spell_at [] ws at h e = absurd (not-suc-le-zero h)
  spell_at (k ∷ ks) [] at h e = absurd (suc-ne-zero (length ks) e)
  spell_at (k ∷ ks) (w ∷ ws) zero h e = refl
  spell_at (k ∷ ks) (w ∷ ws) (suc at) h e = rw (add-one (suc at)) (rw (add-one at) at (spell_at ks ws at (le_of_suc-le-suc h) (suc_inj e)))

  pub spell_past : (ks ws : List ℕ) (at : ℕ) → length ks ≤ at → drop at (spell ρ ks ws) ≡ []
  spell_past ks ws at h = drop_of_length-le (spell ρ ks ws) {i = at} (let l = spell_kinds ks ws in omega arith)
