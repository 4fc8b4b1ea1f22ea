-- What the tables of kinds and the functions on the structure of the records answer.
-- Assumes nothing: these are definitions.
use Rattle.std.specs.Prelude.{ℕ, ◌≡◌, List, map, Option, None, Some, Result, Ok, Err}
use Rattle.std.proofs.Math.Option as maybe
use Rattle.lustre.specs.Name.{Name}
use Rattle.lustre.specs.Records as words
use Rattle.lustre.specs.Records.{spell}
use Rattle.lustre.specs.Grammar.{Shape, parts, each}
use Rattle.lustre.specs.Answer.{no_project, too_deep_at}
use Rattle.lustre.specs.declared.Refusal.{Refusal}
use Rattle.lustre.specs.declared.Refusal.TheVariants.{NoProject, TooDeep}
use Rattle.records.specs.Places.{class_of}
use Rattle.records.specs.declared.tables.WordClass.{WordClass}
use Rattle.records.specs.declared.tables.WordClass.TheVariants.{Nothing, Name as AName, Count, Length, Truth, Anything, Byte}
use Rattle.records.specs.declared.tables.Shape as Coded
use Rattle.records.specs.declared.tables.Shape.TheVariants as shape

-- lustre's classes of words, by the code's
abbrev pub word_of : WordClass → words.WordClass
word_of Nothing = words.no_word
word_of AName = words.a_name
word_of Count = words.a_count
word_of Length = words.a_length
word_of Truth = words.a_truth
word_of Anything = words.any_word
word_of Byte = words.a_byte

abbrev pub words_of : Option WordClass → maybe.Option words.WordClass
words_of None = maybe.none
words_of (Some c) = maybe.some (word_of c)

-- the grammar's shapes, by the code's
abbrev pub shape_meant : Coded.Shape → Shape
shape_meant (shape.Parts cs) = parts (map class_of cs.now)
shape_meant (shape.Each c) = each (class_of c)

abbrev pub IsShape : Option Coded.Shape → maybe.Option Shape → Type 0
IsShape None o = o ≡ maybe.none
IsShape (Some s) o = o ≡ maybe.some (shape_meant s)

-- a record's place, if there is one
abbrev pub placed : maybe.Option ℕ → Option ℕ
placed maybe.none = None
placed (maybe.some at) = Some at

-- refusals 5 and 6 of records
abbrev pub structured : maybe.Option ℕ → maybe.Option ℕ → Result (Unit {0}) Refusal
structured (maybe.some at) deep = Err (NoProject at)
structured maybe.none (maybe.some at) = Err (TooDeep at)
structured maybe.none maybe.none = Ok tt

-- the records form one project of bounded levels, whatever the names are
abbrev pub Structured : List ℕ → List ℕ → Result (Unit {0}) Refusal → Type 0
Structured ks ws r = (ρ : ℕ → Name) → r ≡ structured (no_project (spell ρ ks ws)) (too_deep_at (spell ρ ks ws))
