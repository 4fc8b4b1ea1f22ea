-- The answer of a call and what the lent buffers hold after it: document 01, 'What is lent', and requests 2.1 and 2.2.
-- Assumes nothing: these are definitions.
use Rattle.std.specs.Prelude.{ℕ, ◌-◌, min, Bool, true, false, ◌&&◌, List, [], ◌∷◌, ◌++◌, map, eqb, ltb, leb, length, get_or, take, drop, replicate, if◌then◌else◌}
use Rattle.std.proofs.Math.Option.{Option, none, some}
use Rattle.lustre.specs.Name.{Name}
use Rattle.lustre.specs.Names.{bad_name, names_of, name_at, number_of}
use Rattle.lustre.specs.Records.{Rec, word_class, is_known, bad_record, spell}
use Rattle.lustre.specs.Grammar.{Got, got, stuck, one, a_project, read_project, whole, flat_project}
use Rattle.lustre.specs.Levels.{deep_record}
use Rattle.lustre.specs.Project.{Project}
use Rattle.lustre.specs.Line.{Place, at_package, at_enum, at_type, at_constant, at_node}
use Rattle.lustre.specs.Line as Line
use Rattle.lustre.specs.Report.{report, followed}
use Rattle.lustre.specs.declared.Line as Stored
use Rattle.lustre.specs.declared.Answer.{Answer}
use Rattle.lustre.specs.declared.Answer.TheVariants.{Report, Refused, MoreLines}
use Rattle.lustre.specs.declared.Refusal.{Refusal}
use Rattle.lustre.specs.declared.Refusal.TheVariants.{Sizes, ShortWork, BadName, BadKind, BadWord, NoProject, TooDeep}

-- the number and the place of a refusal of what is lent: document 01's 1 to 6, and request 2.2's 8
abbrev pub number_and_place : Refusal → ℕ × ℕ
number_and_place Sizes = (1, 0)
number_and_place (ShortWork work) = (2, work)
number_and_place (BadName at) = (3, at)
number_and_place (BadKind at) = (4, at)
number_and_place (BadWord at) = (8, at)
number_and_place (NoProject at) = (5, at)
number_and_place (TooDeep at) = (6, at)

-- the number of an answer: 0 for a report, 1 to 8 for a refusal
abbrev pub refusal_of : Answer → ℕ
refusal_of (Report lines edges) = 0
refusal_of (Refused r) = (number_and_place r).0
refusal_of (MoreLines needed) = 7

-- a report's number of lines, or a refusal's place
abbrev pub first_of : Answer → ℕ
first_of (Report lines edges) = lines
first_of (Refused r) = (number_and_place r).1
first_of (MoreLines needed) = needed

-- a report's number of edges followed; 0 for a refusal
abbrev pub second_of : Answer → ℕ
second_of (Report lines edges) = edges
second_of (Refused r) = 0
second_of (MoreLines needed) = 0

-- Refusal 1: kinds and words differ in length, or there are too many records or text bytes.
unfoldable pub bad_sizes : List ℕ → List ℕ → List ℕ → Option ℕ
bad_sizes kinds words text = if eqb (length kinds) (length words) && leb (length kinds) 4096 && leb (length text) 16384 then none else some 0

-- Refusal 2: fewer than 4,096 words of work memory.
unfoldable pub short_work : ℕ → Option ℕ
short_work work = if ltb work 4096 then some work else none

-- the records lent, with each name word as its name's text
unfoldable pub spelled : List ℕ → List ℕ → List ℕ → List Rec
spelled kinds words text = spell (name_at (names_of text)) kinds words

-- A blank model file, request 2.1: no records and no text.
unfoldable pub is_blank : (kinds text : List ℕ) → Bool
is_blank kinds text = eqb (length kinds) 0 && eqb (length text) 0

-- The records that a project is read from: those lent; where the file is blank, and so has none, those of a project without packages.
unfoldable pub project_records : (kinds words text : List ℕ) → List Rec
project_records kinds words text = if is_blank kinds text then flat_project [] [] else spelled kinds words text

-- Refusal 5: the place of the first of n records that cannot stand or is left over, n if they end early.
unfoldable pub place_in : ℕ → Got Project → Option ℕ
place_in n (got P rest) = none
place_in n (stuck rest) = some (n - length rest)

unfoldable pub no_project : List Rec → Option ℕ
no_project rs = place_in (length rs) (whole (read_project rs))

-- Refusal 6: the first record too deep.
unfoldable pub too_deep_at : List Rec → Option ℕ
too_deep_at rs = deep_record ((one a_project, 1) ∷ []) 0 rs

-- the project that was read; the empty one where none was
unfoldable pub project_in : Got Project → Project
project_in (got P rest) = P
project_in (stuck rest) = []

abbrev pub project_read : List Rec → Project
project_read rs = project_in (whole (read_project rs))

unfoldable pub project_of : List ℕ → List ℕ → List ℕ → Project
project_of kinds words text = project_read (project_records kinds words text)

-- Refusal 4 or 8, of the first bad record: 4 if its kind is unknown, whatever its word, else 8.
unfoldable pub record_refusal : List ℕ → ℕ → Refusal
record_refusal kinds at = if is_known (word_class (get_or kinds at 0)) then BadWord at else BadKind at

-- a refusal at the place where it applies; where it applies nowhere, the next one
unfoldable pub refuse : Option ℕ → (ℕ → Refusal) → Option Refusal → Option Refusal
refuse none refusal next = next
refuse (some at) refusal next = some (refusal at)

-- The refusal that is given first: the lowest number that applies, where 8 stands beside 4, before 5 and 6.
unfoldable pub lowest : (kinds words text : List ℕ) (work : ℕ) → Option Refusal
lowest kinds words text work =
    refuse (bad_sizes kinds words text) (λ at. Sizes)
    (refuse (short_work work) ShortWork
    (refuse (bad_name text) BadName
    (refuse (bad_record (length (names_of text)) 0 kinds words) (record_refusal kinds)
    (refuse (no_project (project_records kinds words text)) NoProject
    (refuse (too_deep_at (project_records kinds words text)) TooDeep
    none)))))

-- What a call on a project answers: the refusal of what is lent, in the call's own type of answers, or else an answer of its own.
unfoldable pub unless_refused : {A : Type 0} → Option Refusal → (Refusal → A) → A → A
unless_refused none refused own = own
unless_refused (some r) refused own = refused r

-- a report where the lines fit the room; else refusal 7 with the number needed
unfoldable pub reported : ℕ → Project → Answer
reported room P = if leb (length (report P)) room then Report (length (report P)) (followed P) else MoreLines (min (length (report P)) 18_446_744_073_709_551_615)

-- the refusal that is given first, and a report if none is
unfoldable pub answer : (kinds words text : List ℕ) (work room : ℕ) → Answer
answer kinds words text work room = unless_refused (lowest kinds words text work) Refused (reported room (project_of kinds words text))

-- whether lines are written and the work memory is zero after an answer: a report or refusal 7
unfoldable pub writes : Answer → Bool
writes (Report lines edges) = true
writes (Refused r) = false
writes (MoreLines needed) = true

-- the fixed value for none
abbrev pub no_value : ℕ
no_value = 18_446_744_073_709_551_615

unfoldable pub or_none : Option ℕ → ℕ
or_none none = no_value
or_none (some n) = n

unfoldable pub name_word : List Name → Option Name → ℕ
name_word names none = no_value
name_word names (some x) = number_of names x

-- place kinds in document 01's order
unfoldable pub place_number : Place → ℕ
place_number at_package = 0
place_number at_enum = 1
place_number at_type = 2
place_number at_constant = 3
place_number at_node = 4

-- a line as it is stored: a name is its number among the names
unfoldable pub stored : List Name → Line.Line → Stored.Line
stored names l = record {
  code = l.remark.note.code;
  place = place_number l.place;
  number = l.number;
  equation = or_none l.remark.equation;
  step = or_none l.remark.note.step;
  name = name_word names l.remark.note.name;
}

unfoldable pub stored_report : List ℕ → List ℕ → List ℕ → List Stored.Line
stored_report kinds words text = map (stored (names_of text)) (report (project_of kinds words text))

-- the first lines that fit, and what was lent behind them
unfoldable pub over : List Stored.Line → List Stored.Line → List Stored.Line
over lines lent = take (length lent) lines ++ drop (length lines) lent

-- what the lent lines hold after the call
unfoldable pub lines_after : (kinds words text : List ℕ) (work : ℕ) → List Stored.Line → List Stored.Line
lines_after kinds words text work lent = elim (writes (answer kinds words text work (length lent))) [ true ↦ over (stored_report kinds words text) lent | false ↦ lent ]

-- what the work memory holds after the call
unfoldable pub work_after : (kinds words text : List ℕ) (room : ℕ) → List ℕ → List ℕ
work_after kinds words text room lent = elim (writes (answer kinds words text (length lent) room)) [ true ↦ replicate (length lent) 0 | false ↦ lent ]
