-- Parsing what was written gives it back: the file of a model that a file can hold holds that model.
-- Assumes nothing.
use Prim.Native.Nat.{ℕ, zero, suc, ◌+◌, ◌*◌, ◌/◌, ◌%◌, ◌^◌, ◌<◌}
use native.Mathlib.Nat.{pow-suc, div-lt_iff_lt-mul, mod-add-div}
use native.Mathlib.Omega.{arith}
use mathlib.Core.Path.{◌≡◌, refl, sym, ap, ◌∙◌}
use mathlib.Core.List.{List, [], ◌∷◌, ◌++◌, append_assoc}
use mathlib.Core.Option.{some}
use lib.ListN.{length, take, drop, length-append}
use lib.Seq.{take_at, drop_at, drop-drop, take-length}
use Rattle.format.specs.File.{Model, number_in, words_in, parts, parse, bytes_of, words_bytes, written, All64, Writable}
use Rattle.format.proofs.Files.{fine}

-- k bytes
bytes_length : (k n : ℕ) → length (bytes_of k n) ≡ k
unfolding bytes_of
bytes_length zero n = refl
bytes_length (suc k) n = ap suc (bytes_length k (n / 256))

-- a number that k bytes can hold comes back
pub number_back : (k n : ℕ) → n < 256 ^ k → number_in (bytes_of k n) ≡ n
unfolding bytes_of number_in
number_back zero n h = omega arith
number_back (suc k) n h =
    ap (λ (m : ℕ). n % 256 + 256 * m) (number_back k (n / 256) ((div-lt_iff_lt-mul (omega arith)).1 (rw pow-suc at h)))
    ∙ mod-add-div n 256

-- eight bytes for each word
words_bytes_length : (ws : List ℕ) → length (words_bytes ws) ≡ 8 * length ws
unfolding words_bytes
words_bytes_length [] = refl
words_bytes_length (w ∷ ws) = omega (arith, length-append (bytes_of 8 w) (words_bytes ws), bytes_length 8 w, words_bytes_length ws)

-- the words come back
pub words_back : (ws rest : List ℕ) → All64 ws → words_in (length ws) (words_bytes ws ++ rest) ≡ ws
unfolding words_bytes words_in
words_back [] rest a = refl
words_back (w ∷ ws) rest a =
    rw (append_assoc (bytes_of 8 w) (words_bytes ws) rest, take_at (bytes_of 8 w) (words_bytes ws ++ rest) 8 (bytes_length 8 w), drop_at (bytes_of 8 w) (words_bytes ws ++ rest) 8 (bytes_length 8 w), number_back 8 w a.0)
    (ap (λ (xs : List ℕ). w ∷ xs) (words_back ws rest a.1))

-- the parts of a file that is made of five parts in order
laid : (a b k w t : List ℕ) (n : ℕ) → length a ≡ 4 → length b ≡ 4 → length k ≡ n → length w ≡ 8 * n
    → (take 4 (a ++ b ++ k ++ w ++ t) ≡ a) × (take 4 (drop 4 (a ++ b ++ k ++ w ++ t)) ≡ b) × (drop 8 (a ++ b ++ k ++ w ++ t) ≡ k ++ (w ++ t)) × (drop (8 + n) (a ++ b ++ k ++ w ++ t) ≡ w ++ t) × (drop (8 + 9 * n) (a ++ b ++ k ++ w ++ t) ≡ t)
laid a b k w t n ea eb ek ew =
    let whole : a ++ b ++ k ++ w ++ t ≡ a ++ (b ++ (k ++ (w ++ t))) = simp append_assoc in
    let d4 : drop 4 (a ++ b ++ k ++ w ++ t) ≡ b ++ (k ++ (w ++ t)) = ap (drop 4) whole ∙ drop_at a (b ++ (k ++ (w ++ t))) 4 ea in
    let d8 : drop 8 (a ++ b ++ k ++ w ++ t) ≡ k ++ (w ++ t) = sym (drop-drop 4 4 (a ++ b ++ k ++ w ++ t)) ∙ ap (drop 4) d4 ∙ drop_at b (k ++ (w ++ t)) 4 eb in
    let dn : drop (8 + n) (a ++ b ++ k ++ w ++ t) ≡ w ++ t = sym (drop-drop n 8 (a ++ b ++ k ++ w ++ t)) ∙ ap (drop n) d8 ∙ drop_at k (w ++ t) n ek in
    let nine : 8 + n + 8 * n ≡ 8 + 9 * n = omega arith in
    let dt : drop (8 + 9 * n) (a ++ b ++ k ++ w ++ t) ≡ t = ap (λ (j : ℕ). drop j (a ++ b ++ k ++ w ++ t)) (sym nine) ∙ sym (drop-drop (8 * n) (8 + n) (a ++ b ++ k ++ w ++ t)) ∙ ap (drop (8 * n)) dn ∙ drop_at w t (8 * n) ew in
    (ap (take 4) whole ∙ take_at a (b ++ (k ++ (w ++ t))) 4 ea, ap (take 4) d4 ∙ take_at b (k ++ (w ++ t)) 4 eb, d8, dn, dt)

-- a model is its three parts
pub model_as : (m : Model) (k w t : List ℕ) → k ≡ m.kinds → w ≡ m.words → t ≡ m.text → ◌≡◌ {A = Model} (record { kinds = k; words = w; text = t }) m
model_as m k w t e f g = rw (e, f, g)

-- the length of what was written
written_length : (m : Model) → Writable m → length (written m) ≡ 8 + 9 * length m.kinds + length m.text
unfolding written
written_length m h =
    simp length-append
    (omega (arith, h.paired, bytes_length 4 (length m.kinds), bytes_length 4 (length m.text), words_bytes_length m.words))

-- parsing what was written gives it back
pub parse_written : (m : Model) → Writable m → parse (written m) ≡ some m
unfolding written parts
parse_written m h =
    let n : ℕ = length m.kinds in
    let t : ℕ = length m.text in
    let l = laid (bytes_of 4 n) (bytes_of 4 t) m.kinds (words_bytes m.words) m.text n (bytes_length 4 n) (bytes_length 4 t) refl (words_bytes_length m.words ∙ ap (λ (j : ℕ). 8 * j) h.paired) in
    fine (written m) n t
    (sym (ap number_in l.0 ∙ number_back 4 n (omega (arith, h.few))))
    (sym (ap number_in l.1 ∙ number_back 4 t (omega (arith, h.short))))
    (record { few = h.few; short = h.short; whole = written_length m h })
    ∙ ap some
    (model_as m _ _ _
    (ap (take n) l.2 ∙ take_at m.kinds (words_bytes m.words ++ m.text) n refl)
    (ap (words_in n) l.3 ∙ ap (λ (j : ℕ). words_in j (words_bytes m.words ++ m.text)) (sym h.paired) ∙ words_back m.words m.text h.wide)
    (ap (take t) l.4 ∙ take-length m.text))
