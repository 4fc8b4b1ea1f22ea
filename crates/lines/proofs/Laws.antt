-- The laws of the line buffer: lines after lines, the count and the buffer in closed form, and what is said in sequence.
-- Assumes nothing.
use Rattle.std.specs.Prelude.{if◌then◌else◌}
use Prim.Native.Nat.{ℕ, zero, suc, ◌+◌, ◌*◌, ◌-◌, ◌^◌, ◌≤◌, ◌<◌, min}
use native.Mathlib.Omega.{arith}
use native.Mathlib.Decide.{dec_lt}
use native.Mathlib.Nat.{zero-add}
use mathlib.Core.Path.{◌≡◌, refl, sym, ap, ◌∙◌}
use mathlib.Core.Bool.{Bool, true, false, ◌&&◌}
use mathlib.Core.List.{List, [], ◌∷◌, ◌++◌, flat_map, map-append}
use mathlib.Core.Option.{Option, none, some, map}
use lib.Dec.{leb, ltb}
use lib.ListN.{length, get_or, set, take, drop, length-take, length-drop}
use lib.Seq.{sets, length-sets, sets-eq, get_or-append-add, get_or-take, get_or-drop, take-nil, drop-nil}
use borrow.Author.Tests.{le-leb, lt-leb, lt-ltb, le-ltb}
use Rattle.lustre.specs.Name.{Name}
use Rattle.lustre.specs.Names.{number_of}
use Rattle.lustre.specs.Line.{Note, Out, plain, named, bare, about, return, fail, add, require, try, ◌>>=◌, ◌>>◌}
use Rattle.lustre.specs.Answer.{no_value, or_none, name_word, place_number, stored}
use Rattle.lustre.specs.Line as Report
use Rattle.lustre.specs.declared.Line.{Line}
use Rattle.lines.specs.Lines.{words, line_in, room, put, up, puts, ups, window, line_at, line_of, Put, Wrote, Noted, Said}
use Rattle.lines.specs.declared.Spot.{Spot}
use Rattle.lines.specs.declared.Lines.{Lines}

-- ---- one line

module _ (o : List ℕ) (first n : ℕ) (l : Line) where
  -- a line before the window is not stored
  pub put_before : n < first → put o first n l ≡ o
  unfolding put
  put_before h = rw (lt-leb first n h)

  -- a line past the last place is not stored
  pub put_past : first ≤ n → room o ≤ n - first → put o first n l ≡ o
  unfolding put
  put_past p h = rw (le-leb first n p, le-ltb (n - first) (room o) h)

  -- a line of the window is stored
  put_in : first ≤ n → n - first < room o → put o first n l ≡ sets o ((n - first) * 6) (words l)
  unfolding put
  put_in p h = rw (le-leb first n p, lt-ltb (n - first) (room o) h)

  -- the same, word by word
  pub put_each : first ≤ n → n - first < room o
      → set (set (set (set (set (set o ((n - first) * 6) l.code) ((n - first) * 6 + 1) l.place) ((n - first) * 6 + 2) l.number)
      ((n - first) * 6 + 3) l.equation) ((n - first) * 6 + 4) l.step) ((n - first) * 6 + 5) l.name ≡ put o first n l
  unfolding words
  put_each p h =
      let i : ℕ = (n - first) * 6 in
      let e₁ : i + 1 ≡ suc i = omega arith in
      let e₂ : i + 2 ≡ suc (suc i) = omega arith in
      let e₃ : i + 3 ≡ suc (suc (suc i)) = omega arith in
      let e₄ : i + 4 ≡ suc (suc (suc (suc i))) = omega arith in
      let e₅ : i + 5 ≡ suc (suc (suc (suc (suc i)))) = omega arith in
      rw (put_in p h, e₁, e₂, e₃, e₄, e₅)

  -- the buffer keeps its length
  length_put : length (put o first n l) ≡ length o
  unfolding put
  length_put = go (leb first n && ltb (n - first) (room o))
    where
      go : (t : Bool) → length (if t then sets o ((n - first) * 6) (words l) else o) ≡ length o
      go true = length-sets o ((n - first) * 6) (words l)
      go false = refl

-- ---- lines

-- lines stored after lines are the lines stored together
pub puts_append : (o : List ℕ) (first n : ℕ) (ls ms : List Line) → puts (puts o first n ls) first (ups n ls) ms ≡ puts o first n (ls ++ ms)
unfolding puts ups
puts_append o first n [] ms = refl
puts_append o first n (l ∷ ls) ms = puts_append (put o first n l) first (up n) ls ms

-- lines counted after lines are the lines counted together
pub ups_append : (n : ℕ) (ls ms : List Line) → ups (ups n ls) ms ≡ ups n (ls ++ ms)
unfolding ups
ups_append n [] ms = refl
ups_append n (l ∷ ls) ms = ups_append (up n) ls ms

-- the count in closed form
pub ups_count : (n : ℕ) (ls : List Line) → n < 2 ^ 64 → ups n ls ≡ min (n + length ls) (2 ^ 64 - 1)
unfolding ups
ups_count n [] h = omega arith
ups_count n (l ∷ ls) h = ups_count (up n) ls (omega arith) ∙ omega arith

-- the buffer keeps its length
pub length_puts : (o : List ℕ) (first n : ℕ) (ls : List Line) → length (puts o first n ls) ≡ length o
unfolding puts
length_puts o first n [] = refl
length_puts o first n (l ∷ ls) = length_puts (put o first n l) first (up n) ls ∙ length_put o first n l

-- ---- the buffer in closed form

-- the buffer o with those words of the lines ls, the first of which has number n, that have places
abbrev filled : List ℕ → ℕ → ℕ → List Line → List ℕ
filled o first n ls = sets o ((n - first) * 6) (flat_map words (take (room o - (n - first)) (drop (first - n) ls)))

-- a difference, one less
one_less : (a b : ℕ) → b < a → a - b ≡ suc (a - suc b)
one_less a b h = omega arith

-- one line more, once it is known where it goes
filled_step : (o : List ℕ) (first n : ℕ) (l : Line) (ls : List Line) → first + room o < 2 ^ 64 → n < 2 ^ 64
    → ((o₁ : List ℕ) → length o₁ ≡ length o → puts o₁ first (up n) ls ≡ filled o₁ first (up n) ls)
    → Dec (n < first) → Dec (n - first < room o) → puts (put o first n l) first (up n) ls ≡ filled o first n (l ∷ ls)
unfolding flat_map words
filled_step o first n l ls b f ih (yes h) g =
    let u : up n ≡ suc n = omega arith in
    let e₁ : suc n - first ≡ n - first = omega arith in
    rw (put_before o first n l h, ih o refl, u, e₁, one_less first n h)
filled_step o first n l ls b f ih (no h) (yes g) =
    let i : ℕ = (n - first) * 6 in
    let u : up n ≡ suc n = omega arith in
    let e₁ : first - n ≡ 0 = omega arith in
    let e₂ : first - suc n ≡ 0 = omega arith in
    let e₃ : suc n - first ≡ suc (n - first) = omega arith in
    let e₄ : suc (n - first) * 6 ≡ suc (suc (suc (suc (suc (suc i))))) = omega arith in
    rw (put_in o first n l (omega arith) g, ih (sets o i (words l)) (length-sets o i (words l)), length-sets o i (words l), u, e₁, e₂, e₃, e₄, one_less (room o) (n - first) g)
filled_step o first n l ls b f ih (no h) (no g) =
    let e₁ : room o - (up n - first) ≡ 0 = omega arith in
    let e₂ : room o - (n - first) ≡ 0 = omega arith in
    rw (put_past o first n l (omega arith) (omega arith), ih o refl, e₁, e₂)

-- lines from number n on
puts_filled : (o : List ℕ) (first n : ℕ) (ls : List Line) → first + room o < 2 ^ 64 → n < 2 ^ 64 → puts o first n ls ≡ filled o first n ls
unfolding puts flat_map
puts_filled o first n [] b f = rw (drop-nil (first - n), take-nil (room o - (n - first)))
puts_filled o first n (l ∷ ls) b f =
    filled_step o first n l ls b f
    (λ o₁ e. puts_filled o₁ first (up n) ls (omega arith) (omega arith))
    (dec_lt n first) (dec_lt (n - first) (room o))

-- six words a line
length_flat : (ls : List Line) → length (flat_map words ls) ≡ length ls * 6
unfolding flat_map words
length_flat [] = refl
length_flat (l ∷ ls) = let e = length_flat ls in omega arith

-- the line at a place of the words of lines
flat_line : (ls : List Line) (rest : List ℕ) (k : ℕ) (d : Line) → k < length ls → line_in (flat_map words ls ++ rest) k ≡ get_or ls k d
unfolding flat_map words line_in
flat_line [] rest k d h = absurd (omega arith)
flat_line (l ∷ ls) rest zero d h = refl
flat_line (l ∷ ls) rest (suc k) d h =
    let e₀ : suc k * 6 ≡ suc (suc (suc (suc (suc (suc (k * 6)))))) = omega arith in
    let e : (j : ℕ) → suc k * 6 + j ≡ suc (suc (suc (suc (suc (suc (k * 6 + j)))))) = λ j. omega arith in
    rw (e 1, e 2, e 3, e 4, e 5, e₀) (flat_line ls rest k d (omega arith))

-- the number of lines that have places
pub length_window : (o : List ℕ) (first : ℕ) (ls : List Line) → length (window o first ls) ≡ min (room o) (length ls - first)
unfolding window
length_window o first ls = simp (length-take, length-drop)

module _ (o : List ℕ) (first : ℕ) (ls : List Line) (fits : first + room o < 2 ^ 64) where
  -- the buffer begins with the lines of the window, and its rest is as before
  pub puts_closed : puts o first 0 ls ≡ flat_map words (window o first ls) ++ drop (length (window o first ls) * 6) o
  unfolding window
  puts_closed =
      let e₁ : 0 - first ≡ 0 = omega arith in
      let e₂ : first - 0 ≡ first = omega arith in
      let e₃ : room o - 0 ≡ room o = omega arith in
      let e₄ = length_flat (window o first ls) in
      rw (
        puts_filled o first 0 ls fits (omega arith),
        e₁,
        e₂,
        e₃,
        sets-eq (flat_map words (window o first ls)) o 0 (omega (arith, length_window o first ls)),
        zero-add (length (flat_map words (window o first ls))),
        e₄,
      )

  -- the line at place k is line number first + k, if there are so many
  pub puts_reads : (k : ℕ) (d : Line) → k < room o → first + k < length ls → line_in (puts o first 0 ls) k ≡ get_or ls (first + k) d
  unfolding window
  puts_reads k d h g =
      let e : k < length (window o first ls) = omega (arith, length_window o first ls) in
      rw (puts_closed, flat_line (window o first ls) (drop (length (window o first ls) * 6) o) k d e, get_or-take (room o) (drop first ls) k d h, get_or-drop first ls k d)

  -- words behind the lines of the window are as before
  pub puts_rest : (i : ℕ) → length (window o first ls) * 6 ≤ i → get_or (puts o first 0 ls) i 0 ≡ get_or o i 0
  puts_rest i h =
      let e = length_flat (window o first ls) in
      let e₁ : length (flat_map words (window o first ls)) + (i - length (flat_map words (window o first ls))) ≡ i = omega arith in
      rw (puts_closed, ← e, ← e₁, get_or-append-add, get_or-drop)

-- ---- lines written in sequence

-- no line
pub wrote_none : {l : Lines} → Wrote [] l l
unfolding puts ups
wrote_none = record { same = refl; first = refl; out = refl; number = refl }

-- lines after lines
pub wrote_append : {ls ms : List Line} {l l₁ l₂ : Lines} → Wrote ls l l₁ → Wrote ms l₁ l₂ → Wrote (ls ++ ms) l l₂
wrote_append {ls} {ms} {l} f g = record {
  same = g.same ∙ f.same;
  first = g.first ∙ f.first;
  out = g.out ∙ rw (f.out, f.number, f.first) (puts_append l.out.now l.first l.count ls ms);
  number = g.number ∙ rw f.number (ups_append l.count ls ms);
}

-- ---- what is said

module _ {num : Name → ℕ} {q : Spot} where
  -- no note
  pub noted_none : {l : Lines} → Noted num q [] l l
  noted_none = record { wrote = wrote_none }

  -- notes after notes
  pub noted_append : {ns ms : List Note} {l l₁ l₂ : Lines}
      → Noted num q ns l l₁ → Noted num q ms l₁ l₂ → Noted num q (ns ++ ms) l l₂
  noted_append {ns} {ms} f g = record { wrote = rw (map-append (line_of num q) ns ms) (wrote_append f.wrote g.wrote) }

  -- a value
  pub said_return : {A : Type 0} {l : Lines} (a : A) → Said num q (return a) (some a) l l
  unfolding return
  said_return a = record { value = refl; noted = noted_none }

  -- a test that passes
  pub said_pass : {l : Lines} {b : Bool} (x : Note) → b ≡ true → Said num q (require b x) (some tt) l l
  unfolding require
  said_pass x h = rw h (record { value = refl; noted = noted_none })

module _ {num : Name → ℕ} {q : Spot} {l l' : Lines} where
  -- the line of a note
  noted_one : (x : Note) → Put q x.code (or_none x.step) (or_none (map num x.name)) l l' → Noted num q (x ∷ []) l l'
  unfolding puts ups line_of
  noted_one x f = record { wrote = record { same = f.same; first = f.first; out = f.out; number = f.number } }

  -- the line of a note at a step
  pub noted_plain : {c at : ℕ} → Put q c at no_value l l' → Noted num q (plain at c ∷ []) l l'
  unfolding or_none
  noted_plain {c} {at} f = noted_one (plain at c) f

  -- the line of a note at a step with a name
  pub noted_named : {c at w : ℕ} (x : Name) → num x ≡ w → Put q c at w l l' → Noted num q (named at c x ∷ []) l l'
  unfolding or_none
  noted_named {c} {at} x e f = noted_one (named at c x) (rw e f)

  -- the line of a note with no step
  pub noted_bare : {c : ℕ} → Put q c no_value no_value l l' → Noted num q (bare c ∷ []) l l'
  unfolding or_none
  noted_bare {c} f = noted_one (bare c) f

  -- the line of a note with no step and a name
  pub noted_about : {c w : ℕ} (x : Name) → num x ≡ w → Put q c no_value w l l' → Noted num q (about c x ∷ []) l l'
  unfolding or_none
  noted_about {c} x e f = noted_one (about c x) (rw e f)

  -- a note, and no value
  pub said_fail : {A : Type 0} {x : Note} → Noted num q (x ∷ []) l l' → Said {A = A} num q (fail x) none l l'
  unfolding fail
  said_fail f = record { value = refl; noted = f }

  -- a test that does not pass
  pub said_refuse : {b : Bool} {x : Note} → b ≡ false → Noted num q (x ∷ []) l l' → Said num q (require b x) none l l'
  unfolding require
  said_refuse h f = rw h (record { value = refl; noted = f })

  -- notes on the way
  pub said_add : {ns ms : List Note} → ns ≡ ms → Noted num q ms l l' → Said num q (add ns) (some tt) l l'
  unfolding add
  said_add e f = rw e (record { value = refl; noted = f })

  -- a value or none, whichever it was
  pub said_try : {A : Type 0} {s : Out A} {v : Option A} → Said num q s v l l' → Said num q (try s) (some v) l l'
  unfolding try
  said_try d = record { value = ap (λ (v : Option _). some v) d.value; noted = d.noted }

module _ {A B : Type 0} (s : Out A) (k : A → Out B) where
  -- without a value `>>=` ends
  bind_none : s.0 ≡ none → (s >>= k) ≡ (none, s.1)
  unfolding ◌>>=◌
  bind_none e = rw (e, ◌>>=◌)

  -- with a value `>>=` goes on
  bind_some : (a : A) → s.0 ≡ some a → (s >>= k) ≡ ((k a).0, s.1 ++ (k a).1)
  unfolding ◌>>=◌
  bind_some a e = rw (e, ◌>>=◌)

module _ {A B : Type 0} {num : Name → ℕ} {q : Spot} {s : Out A} {v : Option A} {l l₁ : Lines} where
  -- no value: what would follow is not asked
  pub said_stop : (k : A → Out B) → v ≡ none → Said num q s v l l₁ → Said num q (s >>= k) none l l₁
  said_stop k h d = rw (bind_none s k (sym d.value ∙ h)) (record { value = refl; noted = d.noted })

  -- a value: what follows goes on with it
  pub said_go : (k : A → Out B) {w : Option B} {l₂ : Lines} (a : A)
      → v ≡ some a → Said num q s v l l₁ → Said num q (k a) w l₁ l₂ → Said num q (s >>= k) w l l₂
  said_go k a h d f = rw (bind_some s k a (sym d.value ∙ h)) (record { value = f.value; noted = noted_append d.noted f.noted })

  -- the same where what would follow takes no value
  pub said_halt : (k : Out B) → v ≡ none → Said num q s v l l₁ → Said num q (s >> k) none l l₁
  unfolding ◌>>◌
  said_halt k h d = said_stop (λ _. k) h d

  -- the same where what follows takes no value
  pub said_then : {k : Out B} {w : Option B} {l₂ : Lines} (a : A)
      → v ≡ some a → Said num q s v l l₁ → Said num q k w l₁ l₂ → Said num q (s >> k) w l l₂
  unfolding ◌>>◌
  said_then {k} a h d f = said_go (λ _. k) a h d f

-- ---- the report's lines

-- a name's word
name_stored : (names : List Name) (x : Option Name) → or_none (map (number_of names) x) ≡ name_word names x
unfolding name_word or_none
name_stored names none = refl
name_stored names (some x) = refl

-- a line of the report is stored as the line of its note at its spot
pub line_stored : (names : List Name) (q : Spot) (l : Report.Line)
    → q.place ≡ place_number l.place → q.number ≡ l.number → q.equation ≡ or_none l.remark.equation
    → line_of (number_of names) q l.remark.note ≡ stored names l
unfolding line_of line_at stored
line_stored names q l a b c = rw (a, b, c, name_stored names l.remark.note.name)
