-- What a caller of `decode`, `kinds_in` and `text_in` knows of a file: where refusal 1's number of words is lent, a wrong file holds
-- nothing, and any other holds its kinds, the decoded words and its text.
-- Assumes nothing.
use Rattle.std.specs.Prelude.{Some, None}
use Rattle.std.specs.Prelude as Rust
use Prim.Native.Nat.{ℕ, ◌+◌, ◌≤◌, ◌<◌}
use native.Mathlib.Omega.{arith}
use native.Mathlib.Decide.{dec_lt}
use mathlib.Core.Path.{◌≡◌, sym, ap, ◌∙◌}
use mathlib.Core.List.{List}
use mathlib.Core.Option.{none, some}
use lib.ListN.{length, take, drop}
use lib.Seq.{take_at}
use Rattle.format.specs.File.{parts, parse, kinds_of, text_of, words_in, Decoded}
use Rattle.format.specs.declared.Sizes.{Sizes}
use Rattle.format.proofs.Files.{Either, nothing, model, either, sizes_known, sizes_none, words_length, decoded_lost, decoded_short, decoded_stored}
use Rattle.format.proofs.Written.{model_as}

-- no sizes are no answer with sizes
not_both : {s : Sizes} {r : Rust.Option Sizes} → None ≡ r → Some s ≡ r → ⊥
not_both {s} e i = let w : ◌≡◌ {A = Rust.Option Sizes} None (Some s) = e ∙ sym i in cc

-- a wrong file holds nothing
pub decoded_none : (file lent words : List ℕ) → 4096 ≤ length lent → Decoded file lent None words → parse file ≡ none
decoded_none file lent words h d = go (either file)
  where
    go : Either file → parse file ≡ none
    go (nothing e) = e
    go (model n t k) = absurd (not_both d.answer (decoded_stored file lent _ (sym (sizes_known k)) (omega (arith, k.few))).answer)

-- any other file has few records, and holds its kinds, the decoded words and its text
pub decoded_some : (file lent words : List ℕ) (s : Sizes) → Decoded file lent (Some s) words
    → (s.records ≤ 4096) × (parse file ≡ some (record { kinds = kinds_of (parse file); words = take s.records words; text = text_of (parse file) }))
unfolding kinds_of text_of parts
decoded_some file lent words s d = go (either file)
  where
    go : Either file → (s.records ≤ 4096) × (parse file ≡ some (record { kinds = kinds_of (parse file); words = take s.records words; text = text_of (parse file) }))
    go (nothing e) = absurd (not_both (decoded_lost file lent (sizes_none file e)).answer d.answer)
    go (model n t k) = by (dec_lt (length lent) n)
      where
        by : Dec (length lent < n) → (s.records ≤ 4096) × (parse file ≡ some (record { kinds = kinds_of (parse file); words = take s.records words; text = text_of (parse file) }))
        by (yes h) = absurd (not_both (decoded_short file lent _ (sym (sizes_known k)) h).answer d.answer)
        by (no h) =
            let stored = decoded_stored file lent _ (sym (sizes_known k)) (omega arith) in
            let same : Some s ≡ Some (record { records = n; text = t }) = d.answer ∙ sym stored.answer in
            let is : s.records ≡ n = cc in
            let front : take s.records words ≡ words_in n (drop (8 + n) file) = ap (take s.records) (d.stored ∙ sym stored.stored) ∙ take_at (words_in n (drop (8 + n) file)) (drop n lent) s.records (words_length n (drop (8 + n) file) ∙ sym is) in
            (omega (arith, k.few), k.parsed ∙ sym (ap some (model_as (parts file n t) _ _ _ (ap kinds_of k.parsed) front (ap text_of k.parsed))))
