-- What the check of the input answers: the refusal that lustre's `lowest` gives first; else that the file is blank, or the number of names.
-- Assumes nothing: these are definitions.
use Rattle.std.specs.Prelude.{ℕ, ◌≡◌, false, List, length, if◌then◌else◌, Option, None, Some, Result, Ok, Err}
use Rattle.std.proofs.Math.Option.{none}
use Rattle.lustre.specs.Names.{bad_name, names_of}
use Rattle.lustre.specs.Answer.{bad_sizes, short_work, is_blank, lowest, unless_refused}
use Rattle.lustre.specs.declared.Refusal.{Refusal}

-- a refusal, the number of names, or none where the file is blank
abbrev pub Checked : Type 0
Checked = Result (Option ℕ) Refusal

-- the answer to kinds and a text that are not refused
unfoldable pub passing : (kinds text : List ℕ) → Checked
passing kinds text = if is_blank kinds text then Ok None else Ok (Some (length (names_of text)))

-- the answer to kinds, words, a text and so many words of work memory
unfoldable pub judged : (kinds words text : List ℕ) (work : ℕ) → Checked
judged kinds words text work = unless_refused (lowest kinds words text work) Err (passing kinds text)

-- so many names, where the records are not refused
abbrev pub unless_bad : ℕ → Result (Unit {0}) Refusal → Checked
unless_bad names (Ok u) = Ok (Some names)
unless_bad names (Err r) = Err r

-- r is the answer to kinds and words where a text has so many names, whatever these are, the file is not blank, and no refusal before 4
-- applies
abbrev pub JudgedRecords : (kinds words : List ℕ) (names : ℕ) → Result (Unit {0}) Refusal → Type 0
JudgedRecords kinds words names r = (text : List ℕ) (work : ℕ)
    → bad_sizes kinds words text ≡ none → short_work work ≡ none → is_blank kinds text ≡ false → bad_name text ≡ none
    → length (names_of text) ≡ names
    → unless_bad names r ≡ judged kinds words text work
