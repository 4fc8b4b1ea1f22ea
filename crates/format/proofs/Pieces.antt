-- Laws of the digits and the pieces of the printed lines.
-- Assumes nothing.
use Rattle.std.specs.Prelude.{if◌then◌else◌, Some}
use Prim.Native.Nat.{ℕ, zero, suc, ◌+◌, ◌-◌, ◌/◌, ◌%◌, ◌^◌, ◌≤◌, ◌<◌, min}
use native.Mathlib.Omega.{arith}
use native.Mathlib.Decide.{dec_lt}
use mathlib.Core.Path.{◌≡◌, refl, sym, ap, ◌∙◌}
use mathlib.Core.Bool.{Bool, true, false}
use native.Mathlib.Numerals.{add-one}
use mathlib.Core.List.{List, [], ◌∷◌, ◌++◌, append_assoc}
use borrow.Author.Tests.{le-ltb, lt-ltb, le-leb}
use lib.Dec.{ltb}
use lib.ListN.{length, set, drop, get_or, length-append}
use lib.Seq.{take_at, drop_at, drop-drop, drop-cons, set_at}
use borrow.Rule.Slice.PartMut.{put_mid}
use Rattle.std.specs.Fmt as Std
use Rattle.std.proofs.lemmas.Grind.{common_steps}
use Rattle.std.proofs.lemmas.Fmt.{decimal_from_appends, decimal_digit, decimal_step, decimal_nonempty, length-decimal-le}
use Rattle.format.specs.Output.{bytes, digits, decimal, four_digits}
use Rattle.format.specs.Buffers.{Rendered}

-- whichever of two lists a test picks has at most k elements, where both have
pub length_either : (t : Bool) (a b : List ℕ) (k : ℕ) → length a ≤ k → length b ≤ k → length (if t then a else b) ≤ k
length_either true a b k h i = h
length_either false a b k h i = i

-- at most k digits
pub length_digits : (k n : ℕ) → length (digits k n) ≤ k
unfolding digits
length_digits zero n = omega arith
length_digits (suc k) n =
    length_either (ltb n 10) _ _ (suc k) (omega arith)
    (omega (arith, length-append (digits k (n / 10)) ((48 + n % 10) ∷ []), length_digits k (n / 10)))

-- one digit
pub digits_last : (k n : ℕ) → n < 10 → digits (suc k) n ≡ (48 + n) ∷ []
unfolding digits
digits_last k n h = simp (lt-ltb n 10 h)

-- all digits but the last, and the last
pub digits_step : (k n : ℕ) → 10 ≤ n → digits (suc k) n ≡ digits k (n / 10) ++ (48 + n % 10) ∷ []
unfolding digits
digits_step k n h = simp (le-ltb n 10 h)

-- the digits are those that std writes
pub decimal_is : (n : ℕ) → n < 2 ^ 64 → Std.decimal n ≡ decimal n
decimal_is n h = sym (decimal_from_appends digits (record { one = digits_last; more = digits_step }) 20 n h (length-decimal-le 20 n (omega arith) (omega arith) h))

-- two digits, three and four
two : (n : ℕ) → 10 ≤ n → n < 100 → Std.decimal n ≡ (48 + n / 10) ∷ (48 + n % 10) ∷ []
two n l h = decimal_step n l (omega arith) ∙ ap (λ ds. ds ++ (48 + n % 10) ∷ []) (decimal_digit (n / 10) (omega arith))

three : (n : ℕ) → 100 ≤ n → n < 1000 → Std.decimal n ≡ (48 + n / 100) ∷ (48 + n / 10 % 10) ∷ (48 + n % 10) ∷ []
three n l h =
    let e : n / 10 / 10 ≡ n / 100 = omega arith in
    decimal_step n (omega arith) (omega arith) ∙ ap (λ ds. ds ++ (48 + n % 10) ∷ []) (two (n / 10) (omega arith) (omega arith)) ∙ ap (λ m. (48 + m) ∷ (48 + n / 10 % 10) ∷ (48 + n % 10) ∷ []) e

four : (n : ℕ) → 1000 ≤ n → n < 10000 → Std.decimal n ≡ (48 + n / 1000) ∷ (48 + n / 100 % 10) ∷ (48 + n / 10 % 10) ∷ (48 + n % 10) ∷ []
four n l h =
    let e : n / 10 / 100 ≡ n / 1000 = omega arith in
    let f : n / 10 / 10 ≡ n / 100 = omega arith in
    decimal_step n (omega arith) (omega arith) ∙ ap (λ ds. ds ++ (48 + n % 10) ∷ []) (three (n / 10) (omega arith) (omega arith)) ∙ rw (e, f)

-- five at least
longer : (n : ℕ) → 10 ≤ n → n < 2 ^ 64 → length (Std.decimal n) ≡ length (Std.decimal (n / 10)) + 1
longer n l h = ap length (decimal_step n l h) ∙ length-append (Std.decimal (n / 10)) _

five : (n : ℕ) → 10000 ≤ n → n < 2 ^ 64 → 5 ≤ length (Std.decimal n)
five n l h =
    let a = longer n (omega arith) h in
    let b = longer (n / 10) (omega arith) (omega arith) in
    let c = longer (n / 10 / 10) (omega arith) (omega arith) in
    let d = longer (n / 10 / 10 / 10) (omega arith) (omega arith) in
    omega (arith, decimal_nonempty (n / 10 / 10 / 10 / 10) (omega arith))

-- zeros in front of fewer than four digits of std
std_padded : (n : ℕ) → n < 2 ^ 64 → drop (min (length (Std.decimal n)) 4) (bytes "0000") ++ Std.decimal n ≡ four_digits n
unfolding four_digits
std_padded n h = by (dec_lt n 10) (dec_lt n 100) (dec_lt n 1000) (dec_lt n 10000)
  where
    by : Dec (n < 10) → Dec (n < 100) → Dec (n < 1000) → Dec (n < 10000) → drop (min (length (Std.decimal n)) 4) (bytes "0000") ++ Std.decimal n ≡ four_digits n
    by (yes a) _ _ _ =
        let e : n / 1000 ≡ 0 = omega arith in
        let f : n / 100 % 10 ≡ 0 = omega arith in
        let g : n / 10 % 10 ≡ 0 = omega arith in
        let i : n % 10 ≡ n = omega arith in
        simp (decimal_digit n a, lt-ltb n 10000 (omega arith), e, f, g, i)
    by (no a) (yes b) _ _ =
        let e : n / 1000 ≡ 0 = omega arith in
        let f : n / 100 % 10 ≡ 0 = omega arith in
        let g : n / 10 % 10 ≡ n / 10 = omega arith in
        simp (two n (omega arith) b, lt-ltb n 10000 (omega arith), e, f, g)
    by (no a) (no b) (yes c) _ =
        let e : n / 1000 ≡ 0 = omega arith in
        let f : n / 100 % 10 ≡ n / 100 = omega arith in
        simp (three n (omega arith) c, lt-ltb n 10000 (omega arith), e, f)
    by (no a) (no b) (no c) (yes d) = simp (four n (omega arith) d, lt-ltb n 10000 d)
    by (no a) (no b) (no c) (no d) =
        let e : min (length (Std.decimal n)) 4 ≡ 4 = omega (arith, five n (omega arith) h) in
        simp (e, le-ltb n 10000 (omega arith)) (decimal_is n h)

-- and of the definition's
pub padded : (n : ℕ) → n < 2 ^ 64 → four_digits n ≡ drop (min (length (decimal n)) 4) (bytes "0000") ++ decimal n
padded n h = sym (std_padded n h) ∙ ap (λ ds. drop (min (length ds) 4) (bytes "0000") ++ ds) (decimal_is n h)

-- two parts and a byte, copied one behind the other to the start of a buffer
pub laid : (f b o : List ℕ) → length f + length b < length o
    → set (put_mid (length f) (length f + length b - length f) (f ++ drop (length f) o) b) (length f + length b) 10 ≡ (f ++ b ++ 10 ∷ []) ++ drop (length f + length b + 1) o
laid f b o h =
    let k : length f + (length f + length b - length f) ≡ length f + length b = omega arith in
    let front : put_mid (length f) (length f + length b - length f) (f ++ drop (length f) o) b ≡ (f ++ b) ++ drop (length f + length b) o =
    simp (take_at f (drop (length f) o) (length f) refl, drop_at f (drop (length f) o) (length f) refl, drop-drop, k) (sym (append_assoc f b _)) in
    let next : drop (length f + length b) o ≡ get_or o (length f + length b) 0 ∷ drop (length f + length b + 1) o = drop-cons o (length f + length b) 0 h ∙ ap (λ j. get_or o (length f + length b) 0 ∷ drop j o) (sym (add-one (length f + length b))) in
    ap (λ xs. set xs (length f + length b) 10) (front ∙ ap (λ xs. (f ++ b) ++ xs) next)
    ∙ set_at (f ++ b) _ (drop (length f + length b + 1) o) 10 (length f + length b) (length-append f b)
    ∙ sym (append_assoc (f ++ b) (10 ∷ []) _)

-- bytes that fit are
pub rendered_all : (bs o : List ℕ) → length bs ≤ length o → Rendered bs o (Some (length bs)) (bs ++ drop (length bs) o)
rendered_all bs o h = record { count = simp (le-leb (length bs) (length o) h); out = simp (le-leb (length bs) (length o) h) }

-- a code, and what is laid
pub ruleset coding = (common_steps, padded)

pub ruleset laying = (common_steps, laid, rendered_all)
