-- The walk of a reader over the records: a record in range is passed, and where the walk stops stands the first out of range, or the end.
-- Assumes nothing.
use mathlib.Core.Path.{◌≡◌, refl, ap, sym}
use mathlib.Core.Bool.{Bool, true, false}
use mathlib.Core.List.{List}
use mathlib.Core.Logic.{◌⊎◌, inl, inr}
use Prim.Native.Nat.{ℕ, ◌+◌, ◌≤◌, ◌<◌}
use native.Mathlib.Omega.{arith}
use lib.Dec.{ltb}
use lib.ListN.{length}
use borrow.Author.Tests.{ltb-true, ltb-false, lt-ltb}
use Rattle.std.proofs.Common.{None, Some}
use Rattle.reader.specs.declared.Reader.{Reader}
use Rattle.reader.specs.Move.{pick, count, moved}
use Rattle.records.specs.Ranges.{judged, bad_from}
use Rattle.records.specs.Tables.{placed}
use Rattle.records.proofs.Words as words

-- the shorter length is below both, and is one of them
both : (a b : ℕ) (t : Bool) → ltb a b ≡ t → (pick t a b ≤ a) × (pick t a b ≤ b)
both a b true e = (omega arith, omega (arith, ltb-true a b e))
both a b false e = (omega (arith, ltb-false a b e), omega arith)

one : (a b n : ℕ) (t : Bool) → pick t a b ≤ n → (a ≤ n) ⊎ (b ≤ n)
one a b n true h = inl h
one a b n false h = inr h

-- there are no more records than kinds, and no more than words
kinds_enough : (r : Reader) → count r ≤ length r.kinds.now
kinds_enough r = (both (length r.kinds.now) (length r.words.now) _ refl).0

words_enough : (r : Reader) → count r ≤ length r.words.now
words_enough r = (both (length r.kinds.now) (length r.words.now) _ refl).1

module _ (names : ℕ) (r : Reader) where
  abbrev ks : List ℕ
  ks = r.kinds.now

  abbrev ws : List ℕ
  ws = r.words.now

  module _ (h : r.at < count r) where
    in_kinds : r.at < length ks
    in_kinds = omega (arith, h, kinds_enough r)

    in_words : r.at < length ws
    in_words = omega (arith, h, words_enough r)

    -- the next place
    next_place : (moved r).at ≡ r.at + 1
    next_place = ap (λ (t : Bool). pick t (r.at + 1) r.at) (lt-ltb r.at (count r) h)

    -- a record in range is passed
    pub passed : judged names r ≡ true → bad_from names r ≡ bad_from names (moved r)
    passed e = rw next_place (words.bad_next names r.at ks ws in_kinds in_words (judged names r) refl e)

    -- any other is the one looked for
    pub found : judged names r ≡ false → Some r.at ≡ placed (bad_from names r)
    found e = ap placed (sym (words.bad_here names r.at ks ws in_kinds in_words (judged names r) refl e))

  -- at the end there is none
  pub ended : count r ≤ r.at → None ≡ placed (bad_from names r)
  ended h = ap placed (sym (elim (one (length ks) (length ws) r.at (ltb (length ks) (length ws)) h) [
    | inl k ↦ words.bad_kinds names r.at ks ws k
    | inr k ↦ words.bad_words names r.at ks ws k
  ]))
