-- Laws of lines that are rendered one behind the other, as many as fit.
-- Assumes nothing.
use Rattle.std.specs.Prelude.{Option, Some, None}
use Prim.Native.Nat.{ℕ, suc, ◌+◌, ◌-◌, ◌≤◌, ◌<◌}
use native.Mathlib.Nat.{add-zero}
use native.Mathlib.Omega.{arith}
use mathlib.Core.Path.{◌≡◌, refl, sym, ap, ◌∙◌}
use mathlib.Core.Bool.{Bool, true, false}
use mathlib.Core.List.{List, [], ◌∷◌, ◌++◌, map, append-nil, append_assoc}
use borrow.Author.Tests.{leb-true, leb-false, le-leb, lt-leb, ne_eqb}
use lib.Dec.{leb}
use lib.ListN.{length, get_or, take, drop, take-append-drop, length-append, length-take, length-drop, drop_of_length-le}
use lib.Seq.{take_at, drop_at, drop-drop, drop-cons, take_all, length-take-le}
use Rattle.lustre.specs.Answer.{refusal_of}
use Rattle.lustre.specs.declared.Line.{Line}
use Rattle.lustre.specs.declared.Answer.{Answer}
use Rattle.lustre.specs.declared.Answer.TheVariants.{Report, Refused, MoreLines}
use Rattle.lustre.specs.declared.Refusal.{Refusal}
use Rattle.lustre.proofs.Lowest.{refusal_above}
use Rattle.lustre.specs.Names.{names_of}
use Rattle.format.specs.Output.{line, header, line_count, output_lines, joined, printed}
use Rattle.format.specs.Buffers.{Rendered, Filled, fitting}

-- what was not rendered did not fit
pub skipped : {b p p' : List ℕ} → Rendered b p None p' → (length p < length b) × (p' ≡ p)
skipped {b} {p} {p'} r = go (leb (length b) (length p)) refl
  where
    go : (t : Bool) → leb (length b) (length p) ≡ t → (length p < length b) × (p' ≡ p)
    go true e = absurd (let c : ◌≡◌ {A = Option ℕ} None (Some (length b)) = r.count ∙ simp e in cc)
    go false e = (leb-false (length b) (length p) e, r.out ∙ simp e)

-- what was rendered fits and stands at the start
pub rendered : {b p p' : List ℕ} {k : ℕ} → Rendered b p (Some k) p' → (length b ≤ length p) × (k ≡ length b) × (p' ≡ b ++ drop (length b) p)
rendered {b} {p} {p'} {k} r = go (leb (length b) (length p)) refl
  where
    go : (t : Bool) → leb (length b) (length p) ≡ t → (length b ≤ length p) × (k ≡ length b) × (p' ≡ b ++ drop (length b) p)
    go true e = (leb-true (length b) (length p) e, (let c : Some k ≡ Some (length b) = r.count ∙ simp e in cc), r.out ∙ simp e)
    go false e = absurd (let c : ◌≡◌ {A = Option ℕ} (Some k) None = r.count ∙ simp e in cc)

-- no lines
pub filled_none : (o : List ℕ) (at : ℕ) → Filled [] o at at o
unfolding fitting
filled_none o at = record {
  next = sym (add-zero at);
  out = sym (ap (λ (k : ℕ). take at o ++ [] ++ drop k o) (add-zero at) ∙ ap (λ (xs : List ℕ). xs ++ drop at o) (append-nil (take at o)) ∙ take-append-drop at o);
}

-- a line that does not fit is not rendered, and none behind it
pub filled_skip : (b : List ℕ) (bs : List (List ℕ)) (o : List ℕ) (at : ℕ) → length o - at < length b → Filled (b ∷ bs) o at at o
unfolding fitting
filled_skip b bs o at h = record {
  next = simp (lt-leb (length b) (length o - at) h) (sym (add-zero at));
  out = simp (lt-leb (length b) (length o - at) h) (filled_none o at).out;
}

-- a line that fits, and the rest behind it
pub filled_more : {b : List ℕ} {bs : List (List ℕ)} {o o₁ o' : List ℕ} {at r : ℕ} → at + length b ≤ length o → o₁ ≡ take at o ++ b ++ drop (at + length b) o → Filled bs o₁ (at + length b) r o' → Filled (b ∷ bs) o at r o'
unfolding fitting
filled_more {b} {bs} {o} {o₁} {o'} {at} {r} h e f =
    let yes : leb (length b) (length o - at) ≡ true = le-leb (length b) (length o - at) (omega arith) in
    let head : length (take at o ++ b) ≡ at + length b = length-append (take at o) b ∙ ap (λ (k : ℕ). k + length b) (length-take-le at o (omega arith)) in
    let long : length o₁ ≡ length o = ap length e ∙ length-append (take at o ++ b) (drop (at + length b) o) ∙ simp (head, length-drop) (omega arith) in
    let room : length o₁ - (at + length b) ≡ length o - at - length b = omega arith in
    let rest : List ℕ = fitting (length o - at - length b) bs in
    let front' : take (at + length b) o₁ ≡ take at o ++ b = ap (take (at + length b)) e ∙ take_at (take at o ++ b) (drop (at + length b) o) (at + length b) head in
    let same : drop (at + length b) o₁ ≡ drop (at + length b) o = ap (drop (at + length b)) e ∙ drop_at (take at o ++ b) (drop (at + length b) o) (at + length b) head in
    let back : drop (at + length b + length rest) o₁ ≡ drop (at + length b + length rest) o = sym (drop-drop (length rest) (at + length b) o₁) ∙ ap (drop (length rest)) same ∙ drop-drop (length rest) (at + length b) o in
    let count : at + length (b ++ rest) ≡ at + length b + length rest = simp length-append (omega arith) in
    record {
      next = simp yes (f.next ∙ ap (λ (k : ℕ). at + length b + length (fitting k bs)) room ∙ sym count);
      out =
          simp yes
          (f.out
          ∙ ap (λ (k : ℕ). take (at + length b) o₁ ++ fitting k bs ++ drop (at + length b + length (fitting k bs)) o₁) room
          ∙ ap (λ (xs : List ℕ). xs ++ rest ++ drop (at + length b + length rest) o₁) front'
          ∙ ap (λ (xs : List ℕ). take at o ++ b ++ rest ++ xs) back
          ∙ ap (λ (xs : List ℕ). xs ++ drop (at + length b + length rest) o) (append_assoc (take at o) b rest)
          ∙ ap (λ (k : ℕ). take at o ++ (b ++ rest) ++ drop k o) (sym count));
    }

-- what is rendered from line i on completes the whole
pub record Going (f : Line → List ℕ) (ls : List Line) (o₀ : List ℕ) (start : ℕ) (o : List ℕ) (at i : ℕ) : Type 0 where
  pub within : at ≤ length o
  pub long : length o ≡ length o₀
  pub rest : {r : ℕ} {o' : List ℕ} → Filled (map f (drop i ls)) o at r o' → Filled (map f ls) o₀ start r o'

-- nothing is rendered at first
pub going_start : {f : Line → List ℕ} {ls : List Line} {o : List ℕ} {start : ℕ} → start ≤ length o → Going f ls o start o start 0
going_start h = record { within = h; long = refl; rest = λ x. x }

-- all lines are rendered
pub going_ended : {f : Line → List ℕ} {ls : List Line} {o₀ o : List ℕ} {start at i : ℕ} → Going f ls o₀ start o at i → length ls ≤ i → Filled (map f ls) o₀ start at o
going_ended {f} {ls} {o₀} {o} {start} {at} {i} g h = g.rest (rw (drop_of_length-le ls h) (filled_none o at))

-- the next line, and the rest
next_line : (f : Line → List ℕ) (i : ℕ) (ls : List Line) (d : Line) → i < length ls → map f (drop i ls) ≡ f (get_or ls i d) ∷ map f (drop (i + 1) ls)
next_line f i ls d l =
    let u : suc i ≡ i + 1 = omega arith in
    ap (map f) (drop-cons ls i d l) ∙ ap (λ (k : ℕ). f (get_or ls i d) ∷ map f (drop k ls)) u

-- the buffer o with a part of its own from `at` on put back
abbrev back : List ℕ → ℕ → List ℕ → List ℕ
back o at p = take at o ++ (p ++ drop (length o - at) (drop at o))

-- the part of a buffer from `at` on
abbrev part : List ℕ → ℕ → List ℕ
part o at = take (length o - at) (drop at o)

-- it is all that is behind `at`
part_is : (o : List ℕ) (at : ℕ) → part o at ≡ drop at o
part_is o at = take_all (length o - at) (drop at o) (simp length-drop (omega arith))

-- nothing is behind it
back_is : (o : List ℕ) (at : ℕ) (p : List ℕ) → back o at p ≡ take at o ++ p
back_is o at p =
    let none : drop (length o - at) (drop at o) ≡ [] = drop_of_length-le (drop at o) {i = length o - at} (simp length-drop (omega arith)) in
    ap (λ (xs : List ℕ). take at o ++ (p ++ xs)) none ∙ ap (λ (xs : List ℕ). take at o ++ xs) (append-nil p)

-- a line that does not fit the part leaves the buffer
part_skipped : (o : List ℕ) (at : ℕ) {b p : List ℕ} → Rendered b (part o at) None p → (length o - at < length b) × (back o at p ≡ o)
part_skipped o at {b} {p} r =
    let s = skipped r in
    let long : length (part o at) ≡ length o - at = ap length (part_is o at) ∙ length-drop at o in
    (omega (arith, s.0), back_is o at p ∙ ap (λ (xs : List ℕ). take at o ++ xs) (s.1 ∙ part_is o at) ∙ take-append-drop at o)

-- one that fits stands in the buffer
part_rendered : (o : List ℕ) (at : ℕ) {b p : List ℕ} {k : ℕ} → Rendered b (part o at) (Some k) p → at ≤ length o → (at + length b ≤ length o) × (k ≡ length b) × (back o at p ≡ take at o ++ b ++ drop (at + length b) o)
part_rendered o at {b} {p} {k} r l =
    let s = rendered r in
    let long : length (part o at) ≡ length o - at = ap length (part_is o at) ∙ length-drop at o in (
      omega (arith, s.0),
      s.1,
      back_is o at p ∙ ap (λ (xs : List ℕ). take at o ++ xs) (s.2 ∙ ap (λ (xs : List ℕ). b ++ drop (length b) xs) (part_is o at) ∙ ap (λ (xs : List ℕ). b ++ xs) (drop-drop (length b) at o)) ∙ sym (append_assoc (take at o) b (drop (at + length b) o)),
    )

-- the next line does not fit
pub going_skip : {f : Line → List ℕ} {ls : List Line} {o₀ o p : List ℕ} {start at i : ℕ} (d : Line) → Going f ls o₀ start o at i → i < length ls
    → Rendered (f (get_or ls i d)) (part o at) None p → Filled (map f ls) o₀ start at (back o at p)
going_skip {f} {ls} {o₀} {o} {p} {start} {at} {i} d g l r =
    let s = part_skipped o at r in
    rw s.1 (g.rest (rw (next_line f i ls d l) (filled_skip (f (get_or ls i d)) (map f (drop (i + 1) ls)) o at s.0)))

-- the next line fits
pub going_more : {f : Line → List ℕ} {ls : List Line} {o₀ o p : List ℕ} {start at i k : ℕ} (d : Line) → Going f ls o₀ start o at i → i < length ls
    → Rendered (f (get_or ls i d)) (part o at) (Some k) p → Going f ls o₀ start (back o at p) (at + k) (i + 1)
going_more {f} {ls} {o₀} {o} {p} {start} {at} {i} {k} d g l r =
    let s = part_rendered o at r g.within in
    let long : length (back o at p) ≡ length o = ap length s.2 ∙ simp (length-append, length-take, length-drop) (omega (arith, s.0, g.within)) in
    record {
      within = omega (arith, s.0, s.1);
      long = long ∙ g.long;
      rest = λ x. g.rest (rw (next_line f i ls d l) (filled_more s.0 s.2 (rw s.1 at x)));
    }

-- no more is rendered than fits the part
pub part_fits : (o : List ℕ) (at : ℕ) {b p : List ℕ} {k : ℕ} → Rendered b (part o at) (Some k) p → at ≤ length o → at + k ≤ length o
part_fits o at r h = let s = part_rendered o at r h in omega (arith, s.0, s.1)

-- a report prints its lines
pub count_report : (n edges : ℕ) → line_count (Report n edges) ≡ n
unfolding line_count
count_report n edges = refl

-- no lines behind a refusal
pub count_refused : (r : Refusal) → line_count (Refused r) ≡ 0
unfolding line_count
count_refused r = simp (ne_eqb (refusal_of (Refused r)) 0 (refusal_above r))

pub count_more : (n : ℕ) → line_count (MoreLines n) ≡ 0
unfolding line_count
count_more n = refl

-- a header that does not fit
pub output_skip : (a : Answer) (ls : List Line) (text : List ℕ) {o o₁ : List ℕ} → Rendered (header a) o None o₁ → Filled (output_lines a ls text) o 0 0 o₁
unfolding output_lines
output_skip a ls text {o} {o₁} r =
    let s = skipped r in
    rw s.1 (filled_skip (header a) (map (line (names_of text)) (take (line_count a) ls)) o 0 (omega (arith, s.0)))

-- a header that fits, and lines behind it
pub output_more : (a : Answer) (ls : List Line) (text : List ℕ) {o o₁ o' : List ℕ} {k r : ℕ} → Rendered (header a) o (Some k) o₁ → Filled (map (line (names_of text)) (take (line_count a) ls)) o₁ k r o' → Filled (output_lines a ls text) o 0 r o'
unfolding output_lines
output_more a ls text {o} {o₁} {o'} {k} {r} s f =
    let t = rendered s in
    let z : length (header a) ≡ 0 + length (header a) = omega arith in
    filled_more (omega (arith, t.0)) (t.2 ∙ ap (λ (n : ℕ). header a ++ drop n o) z) (rw (t.1 ∙ z) at f)

-- what was rendered is within the buffer
pub rendered_within : {b o o₁ : List ℕ} {k : ℕ} → Rendered b o (Some k) o₁ → k ≤ length o₁
rendered_within {b} {o} {o₁} {k} r =
    let t = rendered r in
    let long : length o₁ ≡ length b + length (drop (length b) o) = ap length t.2 ∙ length-append b (drop (length b) o) in
    omega (arith, t.1)

-- where all lines fit, all are rendered
pub fitting_all : (room : ℕ) (bs : List (List ℕ)) → length (joined bs) ≤ room → fitting room bs ≡ joined bs
unfolding fitting joined
fitting_all room [] h = refl
fitting_all room (b ∷ bs) h =
    let sum : length (b ++ joined bs) ≡ length b + length (joined bs) = length-append b (joined bs) in
    simp (le-leb (length b) room (omega arith)) (ap (λ (xs : List ℕ). b ++ xs) (fitting_all (room - length b) bs (omega arith)))

-- where the whole output fits, it is rendered
pub output_whole : (a : Answer) (ls : List Line) (text : List ℕ) {o o' : List ℕ} {r : ℕ} → Filled (output_lines a ls text) o 0 r o' → length (printed a ls text) ≤ length o → Rendered (printed a ls text) o (Some r) o'
unfolding printed
output_whole a ls text {o} {o'} {r} f h =
    let all : fitting (length o - 0) (output_lines a ls text) ≡ joined (output_lines a ls text) = fitting_all (length o - 0) (output_lines a ls text) (omega arith) in
    let z : 0 + length (joined (output_lines a ls text)) ≡ length (joined (output_lines a ls text)) = omega arith in
    record {
      count = simp (le-leb (length (joined (output_lines a ls text))) (length o) h) (ap Some (f.next ∙ ap (λ (xs : List ℕ). 0 + length xs) all ∙ z));
      out = simp (le-leb (length (joined (output_lines a ls text))) (length o) h) (f.out ∙ ap (λ (xs : List ℕ). xs ++ drop (0 + length xs) o) all ∙ ap (λ (k : ℕ). joined (output_lines a ls text) ++ drop k o) z);
    }
