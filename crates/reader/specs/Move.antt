-- How many records a reader has, and where it stands next.
-- Assumes nothing: these are definitions.
use Rattle.std.specs.Prelude.{ℕ, ◌+◌, Bool, true, false, ltb, length}
use Rattle.reader.specs.declared.Reader.{Reader}

-- one of two numbers
abbrev pub pick : Bool → ℕ → ℕ → ℕ
pick true a b = a
pick false a b = b

-- the next place, and the end stays the end
abbrev pub after : ℕ → ℕ → ℕ
after at len = pick (ltb at len) (at + 1) at

-- the lesser of two lengths
abbrev pub shorter : ℕ → ℕ → ℕ
shorter a b = pick (ltb a b) a b

-- a record is a kind with a word, so there are as many as the shorter slice has
abbrev pub count : Reader → ℕ
count r = shorter (length r.kinds.now) (length r.words.now)

-- the reader at the next place
abbrev pub moved : Reader → Reader
moved r = record { kinds = r.kinds; words = r.words; at = after r.at (count r) }
