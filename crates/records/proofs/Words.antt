-- The first record out of range is found one by one: a law for each answer of `first_bad_from`. Assumes nothing.
use mathlib.Core.Path.{◌≡◌, refl}
use mathlib.Core.Bool.{Bool, true, false}
use mathlib.Core.List.{List, [], ◌∷◌}
use mathlib.Core.Option.{none, some}
use Prim.Native.Nat.{ℕ, ◌+◌, ◌≤◌, ◌<◌}
use native.Mathlib.Numerals.{add-one}
use lib.ListN.{length, get_or, drop, drop_of_length-le}
use lib.Seq.{drop-cons}
use Rattle.lustre.specs.Records.{word_class, in_class, bad_record}

module _ (names i : ℕ) (ks ws : List ℕ) where
  no_words : (ks : List ℕ) → bad_record names i ks [] ≡ none
  unfolding bad_record
  no_words [] = refl
  no_words (k ∷ ks) = refl

  -- past the kinds or the words none is found
  pub bad_kinds : length ks ≤ i → bad_record names i (drop i ks) (drop i ws) ≡ none
  unfolding bad_record
  bad_kinds h = rw (drop_of_length-le ks h)

  pub bad_words : length ws ≤ i → bad_record names i (drop i ks) (drop i ws) ≡ none
  bad_words h = rw (drop_of_length-le ws h) (no_words (drop i ks))

  -- a record in range is passed, any other is found
  module _ (h : i < length ks) (g : i < length ws) (r : Bool) (e : r ≡ in_class names (word_class (get_or ks i 0)) (get_or ws i 0)) where
    pub bad_next : r ≡ true → bad_record names i (drop i ks) (drop i ws) ≡ bad_record names (i + 1) (drop (i + 1) ks) (drop (i + 1) ws)
    unfolding bad_record
    bad_next t = rw (drop-cons ks i 0 h, drop-cons ws i 0 g, ← e, t, bad_record, add-one i)

    pub bad_here : r ≡ false → bad_record names i (drop i ks) (drop i ws) ≡ some i
    unfolding bad_record
    bad_here t = rw (drop-cons ks i 0 h, drop-cons ws i 0 g, ← e, t, bad_record)
