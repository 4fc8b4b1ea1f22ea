-- The numbering of accepted names, with texts longer than any name past the last one, and what refusals 4 and 8 leave: words in range,
-- which the numbering spells as the names do. Assumes nothing.
use Rattle.std.specs.Prelude.{if◌then◌else◌}
use Prim.Native.Nat.{ℕ, zero, suc, ◌+◌, ◌-◌, ◌≤◌, ◌<◌}
use native.Mathlib.Omega.{arith}
use mathlib.Core.Path.{◌≡◌, refl, ap₂}
use mathlib.Core.Bool.{Bool, true, false, ◌&&◌, not, and-eq-true_iff}
use mathlib.Core.List.{List, [], ◌∷◌, map}
use mathlib.Core.Option.{Option, none, some}
use lib.Dec.{ltb, leb}
use lib.ListN.{length, get_or, replicate, length-replicate}
use borrow.Author.Tests.{leb-true, ltb-true, lt-ltb, le-ltb}
use Rattle.lustre.specs.Name.{Name, ◌among◌}
use Rattle.lustre.specs.Names.{Piece, split, barred, above, is_name, bad_piece, bad_name, names_of, name_at, number_of}
use Rattle.lustre.specs.Records.{Rec, WordClass, no_word, a_name, a_count, a_length, a_truth, any_word, a_byte, word_class, in_class, bad_record, spell, spell_as}
use Rattle.demands.specs.Naming.{Named}
use Rattle.input.specs.Accepted.{Numbering}

-- where nothing is refused, neither is this one nor any behind it
pass : (n : ℕ) (b : Bool) (rest : Option ℕ) → ◌≡◌ {A = Option ℕ} (elim b [ true ↦ rest | false ↦ some n ]) none → (b ≡ true) × (rest ≡ none)
pass n true rest e = (refl, e)
pass n false rest e = (cc, cc)

-- a piece that is a name has at most 64 bytes
short_piece : (n : ℕ) (before : Option Name) (p : Piece) → is_name n before p ≡ true → length p.bytes ≤ 64
unfolding is_name
short_piece n before p e =
    let some_bytes = p.closed && leb 1 (length p.bytes) in
    let few = leb (length p.bytes) 64 in
    let higher = above before p.bytes in
    let free = not (p.bytes among barred) in
    let all = (and-eq-true_iff (some_bytes && few && higher && free) (ltb n 512)).0 e in
    let sized = (and-eq-true_iff (some_bytes && few) higher).0 ((and-eq-true_iff (some_bytes && few && higher) free).0 all.0).0 in
    leb-true (length p.bytes) 64 ((and-eq-true_iff some_bytes few).0 sized.0).1

-- each name of pieces that refusal 3 passes has at most 64 bytes, and so has each of a text
short_pieces : (n : ℕ) (before : Option Name) (ps : List Piece) → bad_piece n before ps ≡ none → (i : ℕ) → length (name_at (map (λ p. p.bytes) ps) i) ≤ 64
unfolding bad_piece
short_pieces n before [] e i = omega arith
short_pieces n before (p ∷ ps) e zero = short_piece n before p (pass n (is_name n before p) _ e).0
short_pieces n before (p ∷ ps) e (suc i) = short_pieces (n + 1) (some p.bytes) ps (pass n (is_name n before p) _ e).1 i

pub short_names : (text : List ℕ) → bad_name text ≡ none → (i : ℕ) → length (name_at (names_of text) i) ≤ 64
unfolding bad_name names_of
short_names text e i = short_pieces 0 none (split text) e i

-- a text for each number, longer than any name
abbrev padding : ℕ → Name
padding n = replicate (n + 65) 0

module _ (names : List Name) where
  -- the text of a number: its name, or padding where it has none
  text_of : ℕ → Name
  text_of n = if ltb n (length names) then name_at names n else padding n

  -- the number of a text, by its length where it is padding
  number_in : Name → ℕ
  number_in x = if ltb 64 (length x) then length x - 65 else number_of names x

  module _ (h : Named names) (short : (i : ℕ) → length (name_at names i) ≤ 64) where
    -- below the number of names the text is the name
    text_is : (n : ℕ) → n < length names → text_of n ≡ name_at names n
    unfolding text_of
    text_is n l = rw (lt-ltb n (length names) l)

    -- the number of a number's text is the number
    number_back : (n : ℕ) → number_in (text_of n) ≡ n
    unfolding text_of number_in
    number_back n = go (ltb n (length names)) refl
      where
        go : (t : Bool) → ltb n (length names) ≡ t → number_in (if t then name_at names n else padding n) ≡ n
        go true e = rw (le-ltb 64 (length (name_at names n)) (short n)) (h.back n (ltb-true n (length names) e))
        go false e = let long : length (padding n) ≡ n + 65 = length-replicate (n + 65) 0 in rw (long, lt-ltb 64 (n + 65) (omega arith)) (omega arith)

    -- accepted names are so numbered
    pub numbered : Numbering names
    numbered = record {
      text = text_of;
      number = number_in;
      back = number_back;
      is = text_is;
      increasing = λ i j l k. rw (text_is i (omega arith), text_is j k) (h.increasing i j l k);
    }

-- where no record is bad, the word of each is in its kind's range
pub ranged : (names at : ℕ) (ks ws : List ℕ) → length ks ≡ length ws → bad_record names at ks ws ≡ none → (i : ℕ) → i < length ks → in_class names (word_class (get_or ks i 0)) (get_or ws i 0) ≡ true
unfolding bad_record
ranged names at [] ws s e i l = absurd (omega arith)
ranged names at (k ∷ ks) [] s e i l = absurd (omega arith)
ranged names at (k ∷ ks) (w ∷ ws) s e zero l = (pass at (in_class names (word_class k) w) _ e).0
ranged names at (k ∷ ks) (w ∷ ws) s e (suc i) l = ranged names (at + 1) ks ws (omega arith) (pass at (in_class names (word_class k) w) _ e).1 i (omega arith)

-- two numberings that agree below the number of names
module _ (ρ σ : ℕ → Name) (names : ℕ) (same : (n : ℕ) → n < names → ρ n ≡ σ n) where
  -- they spell a word in range alike
  same_word : (o : Option WordClass) (k w : ℕ) → in_class names o w ≡ true → spell_as o k w (ρ w) ≡ spell_as o k w (σ w)
  unfolding spell_as in_class
  same_word none k w e = refl
  same_word (some no_word) k w e = refl
  same_word (some a_name) k w e = rw (same w (ltb-true w names e))
  same_word (some a_count) k w e = refl
  same_word (some a_length) k w e = refl
  same_word (some a_truth) k w e = refl
  same_word (some any_word) k w e = refl
  same_word (some a_byte) k w e = refl

  -- they spell records without a bad one alike
  pub same_spelling : (at : ℕ) (ks ws : List ℕ) → bad_record names at ks ws ≡ none → spell ρ ks ws ≡ spell σ ks ws
  unfolding bad_record spell
  same_spelling at [] ws e = refl
  same_spelling at (k ∷ ks) [] e = refl
  same_spelling at (k ∷ ks) (w ∷ ws) e =
      let p = pass at (in_class names (word_class k) w) _ e in
      ap₂ (λ (r : Rec) (rs : List Rec). r ∷ rs) (same_word (word_class k) k w p.0) (same_spelling (at + 1) ks ws p.1)
