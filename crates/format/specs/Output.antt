-- What program `check` prints: document 01, the worked example and 'Header: lines, edges followed. Each line: the six fields, - for none.'
-- Every line of output ends with a newline byte. Stricter than the papers, which leave it free: a code above 9999 is printed with all its
-- digits, and a place kind that is none of the five as a number.
-- Assumes nothing: these are definitions.
use Rattle.std.specs.Prelude.{ℕ, zero, suc, ◌+◌, ◌/◌, ◌%◌, List, [], ◌∷◌, ◌++◌, map, eqb, ltb, get_or, take, if◌then◌else◌}
use Prim.Native.Char.{code as char_code}
use Prim.Native.String.{String}
use Prim.Native.String as Text
use Rattle.std.proofs.Math.Option.{Option, none, some}
use Rattle.lustre.specs.Name.{Name}
use Rattle.lustre.specs.Names.{names_of, name_at}
use Rattle.lustre.specs.Line.{Severity, Error, Warning, severity}
use Rattle.lustre.specs.Answer.{refusal_of, first_of, second_of, no_value, answer, stored_report}
use Rattle.lustre.specs.declared.Line.{Line}
use Rattle.lustre.specs.declared.Answer.{Answer}
use Rattle.lustre.specs.declared.Answer.TheVariants.{Refused}
use Rattle.lustre.specs.declared.Refusal.TheVariants.{Sizes}
use Rattle.format.specs.File.{Model, parse}

-- a quoted text as its bytes
abbrev pub bytes : String → List ℕ
bytes Text.[] = []
bytes (Text.◌∷◌ c s) = char_code c ∷ bytes s

-- the decimal digits of n, at most k of them, the last ones
unfoldable pub digits : ℕ → ℕ → List ℕ
digits zero n = []
digits (suc k) n = if ltb n 10 then (48 + n) ∷ [] else digits k (n / 10) ++ (48 + n % 10) ∷ []

-- a number of 64 bits: it has at most 20 digits
abbrev pub decimal : ℕ → List ℕ
decimal n = digits 20 n

-- a number below 10000 with four digits, any other with all its digits
unfoldable pub four_digits : ℕ → List ℕ
four_digits n = if ltb n 10000 then (48 + n / 1000) ∷ (48 + n / 100 % 10) ∷ (48 + n / 10 % 10) ∷ (48 + n % 10) ∷ [] else decimal n

-- W or E
unfoldable pub letter : Severity → ℕ
letter Warning = 87
letter Error = 69

-- a code: its letter and its digits
unfoldable pub code : ℕ → List ℕ
code c = letter (severity c) ∷ four_digits c

-- a field that is a number, - for none
unfoldable pub field : ℕ → List ℕ
field n = if eqb n no_value then bytes "-" else decimal n

-- the place kinds in document 01's order
abbrev pub places : List (List ℕ)
places = bytes "package" ∷ bytes "enum" ∷ bytes "type" ∷ bytes "constant" ∷ bytes "node" ∷ []

-- a place kind
unfoldable pub place : ℕ → List ℕ
place k = if ltb k 5 then get_or places k [] else field k

-- a name: its bytes in the lent text, - for none
unfoldable pub name : List Name → ℕ → List ℕ
name names n = if eqb n no_value then bytes "-" else name_at names n

-- a line of the report up to its name: the first five of its six fields, each with a space behind it
unfoldable pub front : Line → List ℕ
front l = (code l.code ++ bytes " ") ++ (place l.place ++ bytes " ") ++ (field l.number ++ bytes " ") ++ (field l.equation ++ bytes " ") ++ (field l.step ++ bytes " ")

-- a line of the report: its six fields
unfoldable pub line : List Name → Line → List ℕ
line names l = front l ++ name names l.name ++ bytes "\n"

-- the header: lines and edges followed of a report, number and place of a refusal
unfoldable pub header : Answer → List ℕ
header a =
    if eqb (refusal_of a) 0
    then bytes "lines " ++ decimal (first_of a) ++ bytes " followed " ++ decimal (second_of a) ++ bytes "\n"
    else bytes "refused " ++ decimal (refusal_of a) ++ bytes " at " ++ decimal (first_of a) ++ bytes "\n"

-- the number of lines that are printed behind the header: a report's, and none behind a refusal
unfoldable pub line_count : Answer → ℕ
line_count a = if eqb (refusal_of a) 0 then first_of a else 0

-- the lines of the output: the header, and as many of the stored lines as the answer says
unfoldable pub output_lines : Answer → List Line → List ℕ → List (List ℕ)
output_lines a ls text = header a ∷ map (line (names_of text)) (take (line_count a) ls)

-- one after the other
unfoldable pub joined : List (List ℕ) → List ℕ
joined [] = []
joined (b ∷ bs) = b ++ joined bs

-- the whole output
unfoldable pub printed : Answer → List Line → List ℕ → List ℕ
printed a ls text = joined (output_lines a ls text)

-- the output for what a file holds, with 4,096 work words and 1,024 lines lent; refusal 1 where it holds nothing
unfoldable pub output_of : Option Model → List ℕ
output_of none = header (Refused Sizes)
output_of (some m) = printed (answer m.kinds m.words m.text 4096 1024) (stored_report m.kinds m.words m.text) m.text

-- what `check` prints for the bytes of a file
abbrev pub output : List ℕ → List ℕ
output file = output_of (parse file)
