-- The line buffer: lines of the report, six words each, in a list of words, beside the number of lines so far, which stays at 2^64 - 1.
-- Line number `first` goes to place 0. A line with no place in the buffer is counted and not stored.
-- Assumes nothing: these are definitions.
use Rattle.std.specs.Prelude.{ℕ, ◌+◌, ◌*◌, ◌-◌, ◌/◌, ◌^◌, min, ◌≡◌, ◌&&◌, List, [], ◌∷◌, map, leb, ltb, length, get_or, take, drop, if◌then◌else◌}
use Rattle.std.proofs.Math.Option
use Rattle.std.proofs.Math.Option.{Option}
use Rattle.std.proofs.lemmas.List.Edits.{sets}
use Rattle.lustre.specs.Name.{Name}
use Rattle.lustre.specs.Line.{Note, Out}
use Rattle.lustre.specs.Answer.{or_none}
use Rattle.lustre.specs.declared.Line.{Line}
use Rattle.lines.specs.declared.Spot.{Spot}
use Rattle.lines.specs.declared.Lines.{Lines}

-- the six words of a line
unfoldable pub words : Line → List ℕ
words l = l.code ∷ l.place ∷ l.number ∷ l.equation ∷ l.step ∷ l.name ∷ []

-- the number of lines that the buffer o has places for
abbrev pub room : List ℕ → ℕ
room o = length o / 6

-- the buffer o with line number n, if it has a place for it
unfoldable pub put : List ℕ → ℕ → ℕ → Line → List ℕ
put o first n l = if leb first n && ltb (n - first) (room o) then sets o ((n - first) * 6) (words l) else o

-- the number after n
abbrev pub up : ℕ → ℕ
up n = min (n + 1) (2 ^ 64 - 1)

-- the buffer o with the lines ls, numbered from n
unfoldable pub puts : List ℕ → ℕ → ℕ → List Line → List ℕ
puts o first n [] = o
puts o first n (l ∷ ls) = puts (put o first n l) first (up n) ls

-- the number after n and the lines ls
unfoldable pub ups : ℕ → List Line → ℕ
ups n [] = n
ups n (l ∷ ls) = ups (up n) ls

-- those of the lines ls, numbered from 0, that the buffer o has places for
unfoldable pub window : List ℕ → ℕ → List Line → List Line
window o first ls = take (room o) (drop first ls)

-- the line at place k of the buffer o
unfoldable pub line_in : List ℕ → ℕ → Line
line_in o k = record {
  code = get_or o (k * 6) 0;
  place = get_or o (k * 6 + 1) 0;
  number = get_or o (k * 6 + 2) 0;
  equation = get_or o (k * 6 + 3) 0;
  step = get_or o (k * 6 + 4) 0;
  name = get_or o (k * 6 + 5) 0;
}

-- the line at the spot q with these words for its code, step and name
unfoldable pub line_at : Spot → ℕ → ℕ → ℕ → Line
line_at q code step name = record { code = code; place = q.place; number = q.number; equation = q.equation; step = step; name = name }

-- the line of a note at the spot q, where num numbers the names
unfoldable pub line_of : (Name → ℕ) → Spot → Note → Line
line_of num q x = line_at q x.code (or_none x.step) (or_none (Option.map num x.name))

-- l' is l with one line at the spot q; it has the same buffer
pub record Put (q : Spot) (code step name : ℕ) (l l' : Lines) : Type 0 where
  pub same : l'.out.ghost_name ≡ l.out.ghost_name
  pub first : l'.first ≡ l.first
  pub out : l'.out.now ≡ put l.out.now l.first l.count (line_at q code step name)
  pub number : l'.count ≡ up l.count

-- l' is l with the lines ls
pub record Wrote (ls : List Line) (l l' : Lines) : Type 0 where
  pub same : l'.out.ghost_name ≡ l.out.ghost_name
  pub first : l'.first ≡ l.first
  pub out : l'.out.now ≡ puts l.out.now l.first l.count ls
  pub number : l'.count ≡ ups l.count ls

-- l' is l with the notes ns at the spot q
pub record Noted (num : Name → ℕ) (q : Spot) (ns : List Note) (l l' : Lines) : Type 0 where
  pub wrote : Wrote (map (line_of num q) ns) l l'

-- the code's value v and the lines l' are what s says at the spot q
pub record Said {A : Type 0} (num : Name → ℕ) (q : Spot) (s : Out A) (v : Option A) (l l' : Lines) : Type 0 where
  pub value : v ≡ s.0
  pub noted : Noted num q s.1 l l'
