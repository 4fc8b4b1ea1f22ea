-- Laws of the numbers, words and parts that a file holds.
-- Assumes nothing.
use Rattle.std.specs.Prelude.{if◌then◌else◌, Some, None}
use Rattle.std.specs.Prelude as Rust
use Prim.Native.Nat.{ℕ, zero, suc, ◌+◌, ◌*◌, ◌-◌, ◌/◌, ◌≤◌, ◌<◌}
use native.Mathlib.Omega.{arith}
use native.Mathlib.Decide.{dec_lt}
use mathlib.Core.Path.{◌≡◌, refl, sym, ap, ◌∙◌}
use mathlib.Core.List.{List, [], ◌∷◌, ◌++◌}
use mathlib.Core.Bool.{Bool, true, false, ◌&&◌}
use mathlib.Core.Option.{some, none}
use borrow.Author.Tests.{leb-true, eqb-true, le-leb, lt-leb, eq-eqb, ne_eqb}
use lib.Dec.{leb, eqb}
use lib.ListN.{length, get_or, take, drop, set, length-take, length-drop, drop_of_length-le}
use lib.Seq.{drop-drop, length-take-le}
use Rattle.std.specs.Int.{w32, w64, from_le_bytes}
use Rattle.std.specs.Simd.{first_chunks}
use Rattle.std.proofs.lemmas.List.{take_more_set}
use Rattle.std.proofs.lemmas.Grind.{common_steps}
use native.Mathlib.Numerals.{add-one}
use Rattle.format.specs.File.{number_in, words_in, records_in, text_in, right, parts, parse, sizes_of, kinds_of, text_of, decoded, words_after, Decoded}
use Rattle.format.specs.declared.Sizes.{Sizes}

-- a number is its first byte and 256 times the number of the others
number_step : (bs : List ℕ) (k : ℕ) → number_in (drop k bs) ≡ get_or bs k 0 + 256 * number_in (drop (suc k) bs)
unfolding number_in
number_step [] zero = refl
number_step [] (suc k) = refl
number_step (b ∷ bs) zero = refl
number_step (b ∷ bs) (suc k) = number_step bs k

-- four bytes are read as their number
pub number_four : (bs : List ℕ) → length bs ≡ 4 → from_le_bytes w32 bs ≡ number_in bs
unfolding number_in
number_four bs h =
    let end : number_in (drop 4 bs) ≡ 0 = ap number_in (drop_of_length-le bs {i = 4} (omega arith)) in
    omega (arith, number_step bs 0, number_step bs 1, number_step bs 2, number_step bs 3)

-- and eight
number_eight : (bs : List ℕ) → length bs ≡ 8 → from_le_bytes w64 bs ≡ number_in bs
unfolding number_in
number_eight bs h =
    let end : number_in (drop 8 bs) ≡ 0 = ap number_in (drop_of_length-le bs {i = 8} (omega arith)) in
    omega (arith, number_step bs 0, number_step bs 1, number_step bs 2, number_step bs 3, number_step bs 4, number_step bs 5, number_step bs 6, number_step bs 7)

-- the i-th eight bytes
eight_at : (n i : ℕ) (bs d : List ℕ) → i < n → get_or (first_chunks 8 n bs) i d ≡ take 8 (drop (8 * i) bs)
eight_at zero i bs d h = elim h [ ]
eight_at (suc n) zero bs d h = refl
eight_at (suc n) (suc i) bs d h =
    let e : 8 + 8 * i ≡ 8 * suc i = omega arith in
    eight_at n i (drop 8 bs) d (omega arith) ∙ ap (take 8) (drop-drop (8 * i) 8 bs ∙ ap (λ k. drop k bs) e)

-- the words of n + 1 are those of n and one more
words_more : (n : ℕ) (bs : List ℕ) → words_in (suc n) bs ≡ words_in n bs ++ number_in (take 8 (drop (8 * n) bs)) ∷ []
unfolding words_in
words_more zero bs = refl
words_more (suc n) bs =
    let e : 8 + 8 * n ≡ 8 * suc n = omega arith in
    ap (λ (ws : List ℕ). number_in (take 8 bs) ∷ ws)
    (words_more n (drop 8 bs) ∙ ap (λ (xs : List ℕ). words_in n (drop 8 bs) ++ number_in (take 8 xs) ∷ []) (drop-drop (8 * n) 8 bs ∙ ap (λ (k : ℕ). drop k bs) e))

-- n words
pub words_length : (n : ℕ) (bs : List ℕ) → length (words_in n bs) ≡ n
unfolding words_in
words_length zero bs = refl
words_length (suc n) bs = ap suc (words_length n (drop 8 bs))

-- no words
pub no_words : (bs : List ℕ) → [] ≡ words_in 0 bs
unfolding words_in
no_words bs = refl

-- one word more, read of the i-th eight bytes
pub one_word : (i w : ℕ) (bs d words : List ℕ) (eights : List (List ℕ)) → take i words ≡ words_in i bs → i < length words → 8 * length words ≤ length bs → eights ≡ first_chunks 8 (length bs / 8) bs → w ≡ from_le_bytes w64 (get_or eights i d) → take (i + 1) (set words i w) ≡ words_in (i + 1) bs
one_word i w bs d words eights h room long chunks e =
    let eight : length (take 8 (drop (8 * i) bs)) ≡ 8 = simp (length-take, length-drop) (omega arith) in
    let at : get_or eights i d ≡ take 8 (drop (8 * i) bs) = ap (λ xs. get_or xs i d) chunks ∙ eight_at (length bs / 8) i bs d (omega arith) in
    let is : w ≡ number_in (take 8 (drop (8 * i) bs)) = e ∙ ap (from_le_bytes w64) at ∙ number_eight _ eight in
    let more = words_more i bs in
    rw (take_more_set, h, is, add-one) (sym more)

-- both of two tests that pass together
pub both : (a b : Bool) → a && b ≡ true → (a ≡ true) × (b ≡ true)
both true true e = (refl, refl)
both true false e = (refl, e)
both false true e = (e, refl)
both false false e = (e, e)

-- a file of n records and t text bytes
pub record Fits (file : List ℕ) (n t : ℕ) : Type 0 where
  pub few : n ≤ 4096
  pub short : t ≤ 16384
  pub whole : length file ≡ 8 + 9 * n + t

-- the test passes only if the file is one
pub right_fits : (file : List ℕ) (n t : ℕ) → right file n t ≡ true → Fits file n t
unfolding right
right_fits file n t e =
    let outer = both (leb n 4096 && leb t 16384) (eqb (length file) (8 + 9 * n + t)) e in
    let inner = both (leb n 4096) (leb t 16384) outer.0 in
    record { few = leb-true n 4096 inner.0; short = leb-true t 16384 inner.1; whole = eqb-true (length file) (8 + 9 * n + t) outer.1 }

-- and it passes if it is
pub fits_right : {file : List ℕ} {n t : ℕ} → Fits file n t → right file n t ≡ true
unfolding right
fits_right {file} {n} {t} f = simp (le-leb n 4096 f.few, le-leb t 16384 f.short, eq-eqb (length file) (8 + 9 * n + t) f.whole)

-- a file without bytes has its parts for sizes zero
parse_blank : (file : List ℕ) → length file ≡ 0 → parse file ≡ some (parts file 0 0)
unfolding parse
parse_blank file e = rw (eq-eqb (length file) 0 e)

-- what any other holds
parse_full : (file : List ℕ) → 0 < length file
    → parse file ≡ (if right file (records_in file) (text_in file) then some (parts file (records_in file) (text_in file)) else none)
unfolding parse
parse_full file h = rw (ne_eqb (length file) 0 (λ e. omega arith))

-- a file that fails the test is not parsed
unparsed : (file : List ℕ) → 0 < length file → right file (records_in file) (text_in file) ≡ false → parse file ≡ none
unparsed file h r = parse_full file h ∙ rw r

-- one that passes it has its parts
pub fine : (file : List ℕ) (n t : ℕ) → n ≡ records_in file → t ≡ text_in file → Fits file n t → parse file ≡ some (parts file n t)
fine file n t e i f = parse_full file (omega (arith, f.whole)) ∙ simp (← e, ← i, fits_right f)

-- one that does not fit fails it
wrong : (file : List ℕ) (n t : ℕ) → 0 < length file → n ≡ records_in file → t ≡ text_in file → (Fits file n t → ⊥) → parse file ≡ none
wrong file n t full e i h = go (right file (records_in file) (text_in file)) refl
  where
    go : (b : Bool) → right file (records_in file) (text_in file) ≡ b → parse file ≡ none
    go true r = absurd (h (rw (e, i) (right_fits file (records_in file) (text_in file) r)))
    go false r = unparsed file full r

-- What is known of a file with sizes n and t: behind its first eight bytes there are n records and t text bytes, and these are its parts. A file
-- without bytes has none behind them.
pub record Known (file : List ℕ) (n t : ℕ) : Type 0 where
  pub few : n ≤ 4096
  pub short : t ≤ 16384
  pub behind : length file - 8 ≡ 9 * n + t
  pub parsed : parse file ≡ some (parts file n t)

-- a file without bytes
known_blank : (file : List ℕ) → length file ≡ 0 → Known file 0 0
known_blank file e = record { few = omega arith; short = omega arith; behind = omega arith; parsed = parse_blank file e }

-- a file that fits
known_fits : (file : List ℕ) (n t : ℕ) → n ≡ records_in file → t ≡ text_in file → Fits file n t → Known file n t
known_fits file n t e i f = record { few = f.few; short = f.short; behind = omega (arith, f.whole); parsed = fine file n t e i f }

-- a file that holds nothing, or its parts
pub data Either (file : List ℕ) : Type 0 where
  nothing : parse file ≡ none → Either file
  model : (n t : ℕ) → Known file n t → Either file

-- each file is one of the two
pub either : (file : List ℕ) → Either file
either file = by (dec_lt 0 (length file))
  where
    go : (b : Bool) → 0 < length file → right file (records_in file) (text_in file) ≡ b → Either file
    go true h r = model (records_in file) (text_in file) (known_fits file (records_in file) (text_in file) refl refl (right_fits file (records_in file) (text_in file) r))
    go false h r = nothing (unparsed file h r)

    by : Dec (0 < length file) → Either file
    by (yes h) = go (right file (records_in file) (text_in file)) h refl
    by (no h) = model 0 0 (known_blank file (omega arith))

-- a part of n elements from k on, of which there are enough behind the first k
part_length : (n k : ℕ) (l : List ℕ) → n ≤ length l - k → length (take n (drop k l)) ≡ n
part_length n k l h = length-take-le n (drop k l) (simp length-drop h)

-- the kinds of a file of n records are n
pub kinds_length : {file : List ℕ} {n t : ℕ} → Known file n t → length (parts file n t).kinds ≡ n
unfolding parts
kinds_length {file} {n} {t} k = part_length n 8 file (omega (arith, k.behind))

-- its text is t bytes long
text_length : {file : List ℕ} {n t : ℕ} → Known file n t → length (parts file n t).text ≡ t
unfolding parts
text_length {file} {n} {t} k = part_length t (8 + 9 * n) file (omega (arith, k.behind))

-- the sizes of a known file
pub sizes_known : {file : List ℕ} {n t : ℕ} → Known file n t → sizes_of (parse file) ≡ Some (record { records = n; text = t })
unfolding sizes_of
sizes_known {file} {n} {t} k =
    ap sizes_of k.parsed
    ∙ ap (λ (j : ℕ). Some (record { records = j; text = length (parts file n t).text })) (kinds_length k)
    ∙ ap (λ (j : ℕ). Some (record { records = n; text = j })) (text_length k)

-- nothing that was parsed has none
pub sizes_none : (file : List ℕ) → parse file ≡ none → None ≡ sizes_of (parse file)
unfolding sizes_of
sizes_none file e = sym (ap sizes_of e)

-- those of a file without bytes
pub sizes_blank : (file : List ℕ) → length file ≡ 0 → sizes_of (parse file) ≡ Some (record { records = 0; text = 0 })
sizes_blank file e = sizes_known (known_blank file e)

-- a wrong file has none
sizes_wrong : (file : List ℕ) → 0 < length file → (Fits file (records_in file) (text_in file) → ⊥) → sizes_of (parse file) ≡ None
unfolding sizes_of
sizes_wrong file full h = ap sizes_of (wrong file _ _ full refl refl h)

-- nor has a short one
pub sizes_short : (file : List ℕ) → 0 < length file → length file < 8 → sizes_of (parse file) ≡ None
sizes_short file full short = sizes_wrong file full (λ f. omega (arith, f.whole))

-- the two numbers at the start of a file, as the code reads them
abbrev records_read : List ℕ → ℕ
records_read file = from_le_bytes w32 (take 4 file)

abbrev text_read : List ℕ → ℕ
text_read file = from_le_bytes w32 (take 4 (drop 4 file))

-- they are those of the definition
read_is : (file : List ℕ) → 8 ≤ length file → (records_read file ≡ records_in file) × (text_read file ≡ text_in file)
read_is file h = (number_four (take 4 file) (simp length-take (omega arith)), number_four (take 4 (drop 4 file)) (simp (length-take, length-drop) (omega arith)))

-- too many records
pub sizes_large : (file : List ℕ) → 8 ≤ length file → 4096 < records_read file → sizes_of (parse file) ≡ None
sizes_large file h l = let e = read_is file h in sizes_wrong file (omega arith) (λ f. omega (arith, e.0, f.few))

-- too much text
pub sizes_wide : (file : List ℕ) → 8 ≤ length file → 16384 < text_read file → sizes_of (parse file) ≡ None
sizes_wide file h l = let e = read_is file h in sizes_wrong file (omega arith) (λ f. omega (arith, e.1, f.short))

-- another length
pub sizes_off : (file : List ℕ) → 8 ≤ length file → (length file ≡ 8 + 9 * records_read file + text_read file → ⊥) → sizes_of (parse file) ≡ None
sizes_off file h l = let e = read_is file h in sizes_wrong file (omega arith) (λ f. l (omega (arith, e.0, e.1, f.whole)))

-- a file that is right
pub sizes_right : (file : List ℕ) → records_read file ≤ 4096 → text_read file ≤ 16384 → length file ≡ 8 + 9 * records_read file + text_read file → sizes_of (parse file) ≡ Some (record { records = records_read file; text = text_read file })
sizes_right file few short whole =
    let e = read_is file (omega arith) in
    sizes_known (known_fits file _ _ e.0 e.1 (record { few = few; short = short; whole = whole }))

-- the sizes of every file, by the tests of the code
pub ruleset sizes = (sizes_blank, sizes_short, sizes_large, sizes_wide, sizes_off, sizes_right)

-- what is known of a file whose sizes are known
known : (file : List ℕ) (s : Sizes) → Some s ≡ sizes_of (parse file) → Known file s.records s.text
unfolding sizes_of
known file s e = go (either file)
  where
    go : Either file → Known file s.records s.text
    go (model m u k) =
        let same : Some (record { records = m; text = u }) ≡ Some s = sym (e ∙ sizes_known k) in
        let a : m ≡ s.records = cc in
        let b : u ≡ s.text = cc in
        rw (a, b) at k
    go (nothing p) = let w : ◌≡◌ {A = Rust.Option Sizes} (Some s) None = e ∙ ap sizes_of p in cc

-- a file without sizes is not parsed
lost : (file : List ℕ) → None ≡ sizes_of (parse file) → parse file ≡ none
lost file e = go (either file)
  where
    go : Either file → parse file ≡ none
    go (model m u k) = let w : ◌≡◌ {A = Rust.Option Sizes} None (Some (record { records = m; text = u })) = e ∙ sizes_known k in cc
    go (nothing p) = p

-- how long a file is behind its first eight bytes
pub known_length : (file : List ℕ) (s : Sizes) → Some s ≡ sizes_of (parse file) → length file - 8 ≡ 9 * s.records + s.text
known_length file s e = (known file s e).behind

-- the records are few
pub known_few : (file : List ℕ) (s : Sizes) → Some s ≡ sizes_of (parse file) → s.records ≤ 4096
known_few file s e = (known file s e).few

-- its text is within it
pub text_within : (file : List ℕ) (s : Sizes) → Some s ≡ sizes_of (parse file) → length (take s.text (drop (8 + 9 * s.records) file)) ≡ s.text
unfolding parts
text_within file s e = text_length (known file s e)

-- and so are its words
pub words_within : (file : List ℕ) (s : Sizes) → Some s ≡ sizes_of (parse file) → 8 * s.records ≤ length (drop (8 + s.records) file)
words_within file s e = simp length-drop (omega (arith, known_length file s e))

-- the kinds and the text of a right file
pub kinds_known : (file : List ℕ) (s : Sizes) → Some s ≡ sizes_of (parse file) → take s.records (drop 8 file) ≡ kinds_of (parse file)
unfolding kinds_of parts
kinds_known file s e = sym (ap kinds_of (known file s e).parsed)

pub text_known : (file : List ℕ) (s : Sizes) → Some s ≡ sizes_of (parse file) → take s.text (drop (8 + 9 * s.records) file) ≡ text_of (parse file)
unfolding text_of parts
text_known file s e = sym (ap text_of (known file s e).parsed)

-- a wrong file has neither
pub kinds_lost : (file : List ℕ) → None ≡ sizes_of (parse file) → kinds_of (parse file) ≡ []
unfolding kinds_of
kinds_lost file e = ap kinds_of (lost file e)

pub text_lost : (file : List ℕ) → None ≡ sizes_of (parse file) → text_of (parse file) ≡ []
unfolding text_of
text_lost file e = ap text_of (lost file e)

-- the parts of every file
pub ruleset its_parts = (common_steps, known_length, known_few, text_within, words_within, kinds_known, text_known, kinds_lost, text_lost)

-- decoding finds that a file is wrong
pub decoded_lost : (file lent : List ℕ) → None ≡ sizes_of (parse file) → Decoded file lent None lent
unfolding decoded words_after
decoded_lost file lent e = let p = lost file e in record { answer = sym (ap (λ o. decoded o (length lent)) p); stored = sym (ap (λ o. words_after o lent) p) }

-- the number of words of a right file
pub words_known : (file : List ℕ) (n t : ℕ) → length (parts file n t).words ≡ n
unfolding parts
words_known file n t = words_length n (drop (8 + n) file)

-- that it has more words than are lent
pub decoded_short : (file lent : List ℕ) (s : Sizes) → Some s ≡ sizes_of (parse file) → length lent < s.records → Decoded file lent None lent
unfolding decoded words_after
decoded_short file lent s e h =
    let p = (known file s e).parsed in
    let no : leb (length (parts file s.records s.text).words) (length lent) ≡ false = lt-leb _ (length lent) (omega (arith, words_known file s.records s.text)) in
    record { answer = sym (ap (λ o. decoded o (length lent)) p ∙ simp no); stored = sym (ap (λ o. words_after o lent) p ∙ simp no) }

-- or stores its words
pub decoded_stored : (file lent : List ℕ) (s : Sizes) → Some s ≡ sizes_of (parse file) → s.records ≤ length lent → Decoded file lent (Some s) (words_in s.records (drop (8 + s.records) file) ++ drop s.records lent)
unfolding decoded words_after parts sizes_of
decoded_stored file lent s e h =
    let k = known file s e in
    let count = words_known file s.records s.text in
    let yes : leb (length (parts file s.records s.text).words) (length lent) ≡ true = le-leb _ (length lent) (omega arith) in
    record {
      answer = e ∙ ap sizes_of k.parsed ∙ sym (ap (λ o. decoded o (length lent)) k.parsed ∙ simp yes);
      stored = sym (ap (λ o. words_after o lent) k.parsed ∙ simp yes (ap (λ j. words_in s.records (drop (8 + s.records) file) ++ drop j lent) count));
    }

-- what decoding finds
pub ruleset finds = (its_parts, decoded_lost, decoded_short, decoded_stored)
