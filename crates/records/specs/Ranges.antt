-- Words in range, by a reader: how the record that it stands at is judged, and the first out of range from there on.
-- Assumes nothing: these are definitions.
use Rattle.std.specs.Prelude.{ℕ, Bool, get_or, drop}
use Rattle.std.proofs.Math.Option.{Option}
use Rattle.lustre.specs.Records.{word_class, in_class, bad_record}
use Rattle.reader.specs.declared.Reader.{Reader}

-- whether the word that the reader stands at is in the range of its kind
abbrev pub judged : ℕ → Reader → Bool
judged names r = in_class names (word_class (get_or r.kinds.now r.at 0)) (get_or r.words.now r.at 0)

-- the first record out of range, from where the reader stands on
abbrev pub bad_from : ℕ → Reader → Option ℕ
bad_from names r = bad_record names r.at (drop r.at r.kinds.now) (drop r.at r.words.now)
