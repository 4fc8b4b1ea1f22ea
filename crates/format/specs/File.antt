-- The file that program `check` reads: document 01, 'Program `check` reads standard input'. Record count and text length, 4 bytes each,
-- low byte first; then the kind bytes and the words, 8 bytes each, low byte first, as two parallel arrays; then the text. A file of no bytes
-- is read as sizes zero: request 2.1.
-- Assumes nothing: these are definitions.
use Rattle.std.specs.Prelude.{ℕ, zero, suc, ◌+◌, ◌*◌, ◌/◌, ◌%◌, ◌<◌, ◌≤◌, ◌^◌, ◌≡◌, Bool, ◌&&◌, List, [], ◌∷◌, ◌++◌, eqb, leb, length, take, drop, if◌then◌else◌}
use Rattle.std.specs.Prelude.{Some, None}
use Rattle.std.specs.Prelude as Rust
use Rattle.std.proofs.Math.Option.{Option, none, some}
use Rattle.format.specs.declared.Sizes.{Sizes}

-- what a file holds: record kinds, record words and the text of the names
pub record Model : Type 0 where
  pub kinds : List ℕ
  pub words : List ℕ
  pub text : List ℕ

-- the number that bytes are, low byte first
unfoldable pub number_in : List ℕ → ℕ
number_in [] = 0
number_in (b ∷ bs) = b + 256 * number_in bs

-- n words, each of eight bytes
unfoldable pub words_in : ℕ → List ℕ → List ℕ
words_in zero bs = []
words_in (suc n) bs = number_in (take 8 bs) ∷ words_in n (drop 8 bs)

-- the record count that a file states
abbrev pub records_in : List ℕ → ℕ
records_in file = number_in (take 4 file)

-- the text length that a file states
abbrev pub text_in : List ℕ → ℕ
text_in file = number_in (take 4 (drop 4 file))

-- the file is as long as its n records and t text bytes make it, and neither exceeds refusal 1's bounds
unfoldable pub right : List ℕ → ℕ → ℕ → Bool
right file n t = leb n 4096 && leb t 16384 && eqb (length file) (8 + 9 * n + t)

-- the model of n records and t text bytes behind the first eight bytes of a file
unfoldable pub parts : List ℕ → ℕ → ℕ → Model
parts file n t = record { kinds = take n (drop 8 file); words = words_in n (drop (8 + n) file); text = take t (drop (8 + 9 * n) file) }

-- what a file holds: sizes zero if it has no bytes, nothing if its length is wrong or it exceeds a bound of refusal 1
unfoldable pub parse : List ℕ → Option Model
parse file =
    if eqb (length file) 0 then some (parts file 0 0)
    else if right file (records_in file) (text_in file) then some (parts file (records_in file) (text_in file))
    else none

-- the kinds of what was parsed, none where nothing was
unfoldable pub kinds_of : Option Model → List ℕ
kinds_of none = []
kinds_of (some m) = m.kinds

-- the text of what was parsed, empty where nothing was
unfoldable pub text_of : Option Model → List ℕ
text_of none = []
text_of (some m) = m.text

-- the sizes of what was parsed: record count and text length
unfoldable pub sizes_of : Option Model → Rust.Option Sizes
sizes_of none = None
sizes_of (some m) = Some (record { records = length m.kinds; text = length m.text })

-- what decoding answers where room for that many words is lent: a file with more words than that counts as wrong
unfoldable pub decoded : Option Model → ℕ → Rust.Option Sizes
decoded none room = None
decoded (some m) room = if leb (length m.words) room then Some (record { records = length m.kinds; text = length m.text }) else None

-- what the lent words hold after decoding: the words of the file and the rest as it was, or all as it was
unfoldable pub words_after : Option Model → List ℕ → List ℕ
words_after none lent = lent
words_after (some m) lent = if leb (length m.words) (length lent) then m.words ++ drop (length m.words) lent else lent

-- the answer r to a file and the words that are lent after it, where `lent` were lent
pub record Decoded (file lent : List ℕ) (r : Rust.Option Sizes) (words : List ℕ) : Type 0 where
  pub answer : r ≡ decoded (parse file) (length lent)
  pub stored : words ≡ words_after (parse file) lent

-- the k bytes of a number, low byte first
unfoldable pub bytes_of : ℕ → ℕ → List ℕ
bytes_of zero n = []
bytes_of (suc k) n = n % 256 ∷ bytes_of k (n / 256)

-- eight bytes for each word
unfoldable pub words_bytes : List ℕ → List ℕ
words_bytes [] = []
words_bytes (w ∷ ws) = bytes_of 8 w ++ words_bytes ws

-- the file that holds a model
unfoldable pub written : Model → List ℕ
written m = bytes_of 4 (length m.kinds) ++ bytes_of 4 (length m.text) ++ m.kinds ++ words_bytes m.words ++ m.text

-- each of the words has 64 bits
abbrev pub All64 : List ℕ → Type 0
All64 [] = Unit {0}
All64 (w ∷ ws) = (w < 2 ^ 64) × All64 ws

-- a model that a file can hold: a word for each kind, within refusal 1's bounds
pub record Writable (m : Model) : Type 0 where
  pub paired : length m.words ≡ length m.kinds
  pub few : length m.kinds ≤ 4096
  pub short : length m.text ≤ 16384
  pub wide : All64 m.words
