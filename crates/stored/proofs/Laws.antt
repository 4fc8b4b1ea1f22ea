-- Laws of `lines_in` (specs/Lines.antt): a line is read of its six words.
-- Assumes nothing.
use mathlib.Core.Path.{◌≡◌, refl, ap, ◌∙◌}
use Prim.Native.Nat.{ℕ, zero, suc, ◌+◌, ◌*◌, ◌/◌, ◌<◌, ◌≤◌}
use native.Mathlib.Omega.{arith}
use mathlib.Core.List.{List}
use native.Mathlib.Nat.{add-zero}
use native.Mathlib.Numerals.{add-one}
use lib.ListN.{length, set, get_or, take, drop}
use Rattle.std.proofs.lemmas.List.{take_more_set}
use lib.Seq.{drop-drop, get_or-take, get_or-drop}
use Rattle.std.specs.Simd.{first_chunks}
use Rattle.lustre.specs.declared.Line.{Line}
use Rattle.lines.specs.Lines.{line_in}
use Rattle.stored.specs.Lines.{lines_in}

-- the i-th six words
six_at : (n i : ℕ) (fs d : List ℕ) → i < n → get_or (first_chunks 6 n fs) i d ≡ take 6 (drop (i * 6) fs)
six_at zero i fs d h = elim h [ ]
six_at (suc n) zero fs d h = refl
six_at (suc n) (suc i) fs d h =
    let e : 6 + i * 6 ≡ suc i * 6 = omega arith in
    six_at n i (drop 6 fs) d (omega arith) ∙ ap (take 6) (drop-drop (i * 6) 6 fs ∙ ap (λ k. drop k fs) e)

-- one of them is a word of the buffer
word_at : (i j : ℕ) (fs : List ℕ) → j < 6 → get_or (take 6 (drop (i * 6) fs)) j 0 ≡ get_or fs (i * 6 + j) 0
word_at i j fs h = get_or-take 6 (drop (i * 6) fs) j 0 h ∙ get_or-drop (i * 6) fs j 0

-- they are the line at place i
line_of_six : (i : ℕ) (fs : List ℕ) → line_in (take 6 (drop (i * 6) fs)) 0 ≡ line_in fs i
unfolding line_in
line_of_six i fs =
    let first : get_or (take 6 (drop (i * 6) fs)) 0 0 ≡ get_or fs (i * 6) 0 = word_at i 0 fs (omega arith) ∙ ap (λ k. get_or fs k 0) (add-zero (i * 6)) in
    λ k. record {
      code = first k;
      place = word_at i 1 fs (omega arith) k;
      number = word_at i 2 fs (omega arith) k;
      equation = word_at i 3 fs (omega arith) k;
      step = word_at i 4 fs (omega arith) k;
      name = word_at i 5 fs (omega arith) k;
    }

-- one line more
pub one_more : (ls : List Line) (k : ℕ) (fs d : List ℕ) (sixes : List (List ℕ)) (l : Line) → take k ls ≡ lines_in k fs → sixes ≡ first_chunks 6 (length fs / 6) fs → k < length ls → k * 6 + 6 ≤ length fs → l ≡ line_in (get_or sixes k d) 0 → take (k + 1) (set ls k l) ≡ lines_in (k + 1) fs
one_more ls k fs d sixes l h chunks inside long e =
    let is : l ≡ line_in fs k = e ∙ ap (λ xs. line_in (get_or xs k d) 0) chunks ∙ ap (λ xs. line_in xs 0) (six_at (length fs / 6) k fs d (omega arith)) ∙ line_of_six k fs in
    rw (take_more_set, h, is, add-one) refl
