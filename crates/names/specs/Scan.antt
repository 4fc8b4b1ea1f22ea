-- The check of a text's names: what it answers.
-- Assumes nothing: these are definitions.
use Rattle.std.specs.Prelude.{ℕ, suc, Bool, true, false, List, [], ◌∷◌, eqb, length, Result, Ok, Err}
use Rattle.std.proofs.Math.Option.{Option, none, some}
use Rattle.lustre.specs.Names.{Piece, bad_name, names_of}
use Rattle.lustre.specs.declared.Refusal.{Refusal}
use Rattle.lustre.specs.declared.Refusal.TheVariants.{BadName}

-- bytes as a piece, closed by a zero byte or not
abbrev pub piece_of : List ℕ → Bool → Piece
piece_of bs c = record { bytes = bs; closed = c }

-- the number of the first piece that is no name, refusal 3's place, or the number of names
abbrev pub judged : Option ℕ → ℕ → Result ℕ Refusal
judged none n = Ok n
judged (some k) n = Err (BadName k)

-- what the check of a text answers
unfoldable pub checked : List ℕ → Result ℕ Refusal
checked text = judged (bad_name text) (length (names_of text))

-- how many bytes are zero
unfoldable pub zeros : List ℕ → ℕ
zeros [] = 0
zeros (b ∷ bs) = elim (eqb b 0) [ true ↦ suc (zeros bs) | false ↦ zeros bs ]
