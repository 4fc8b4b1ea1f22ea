-- How much room the output takes: where no name is longer than refusal 3 lets pass, a header has at most 57 bytes and a line at most 171,
-- so that the output of a call with 1,024 lines fits 175,161 bytes.
-- Assumes nothing.
use Rattle.std.specs.Prelude.{Some}
use Prim.Native.Nat.{ℕ, zero, suc, ◌+◌, ◌*◌, ◌/◌, ◌%◌, ◌≤◌}
use native.Mathlib.Omega.{arith}
use mathlib.Core.Path.{◌≡◌, refl}
use mathlib.Core.Bool.{Bool, true, false, ◌&&◌, not}
use mathlib.Core.List.{List, [], ◌∷◌, map}
use mathlib.Core.Option.{Option, none, some}
use borrow.Author.Tests.{leb-true}
use lib.Dec.{eqb, ltb, leb}
use lib.ListN.{length, get_or, take, length-append, length-take}
use Rattle.lustre.specs.Name.{Name, ◌among◌}
use Rattle.lustre.specs.Names.{Piece, above, barred, is_name, split, bad_piece, bad_name, names_of, name_at}
use Rattle.lustre.specs.Answer.{refusal_of, first_of, second_of, no_value}
use Rattle.lustre.specs.declared.Line.{Line}
use Rattle.lustre.specs.declared.Answer.{Answer}
use Rattle.format.specs.Output.{bytes, decimal, four_digits, code, field, places, place, name, front, line, header, line_count, output_lines, joined, printed}
use Rattle.format.specs.Buffers.{Rendered, Filled}
use Rattle.format.proofs.Pieces.{length_either, length_digits}
use Rattle.format.proofs.Files.{both}
use Rattle.format.proofs.Fill.{output_whole}

-- a code has at most 21 bytes
code_short : (c : ℕ) → length (code c) ≤ 21
unfolding code four_digits
code_short c = omega (arith, length_either (ltb c 10000) ((48 + c / 1000) ∷ (48 + c / 100 % 10) ∷ (48 + c / 10 % 10) ∷ (48 + c % 10) ∷ []) (decimal c) 20 (omega arith) (length_digits 20 c))

-- a number field has at most 20
field_short : (n : ℕ) → length (field n) ≤ 20
unfolding field
field_short n = length_either (eqb n no_value) (bytes "-") (decimal n) 20 (omega arith) (length_digits 20 n)

-- the words of the place kinds have at most 20
word_short : (k : ℕ) → length (get_or places k []) ≤ 20
word_short zero = omega arith
word_short (suc zero) = omega arith
word_short (suc (suc zero)) = omega arith
word_short (suc (suc (suc zero))) = omega arith
word_short (suc (suc (suc (suc zero)))) = omega arith
word_short (suc (suc (suc (suc (suc k))))) = omega arith

-- a place kind has at most 20
place_short : (k : ℕ) → length (place k) ≤ 20
unfolding place
place_short k = length_either (ltb k 5) (get_or places k []) (field k) 20 (word_short k) (field_short k)

-- no name is longer than 64 bytes
abbrev pub Short : List Name → Type 0
Short names = (n : ℕ) → length (name_at names n) ≤ 64

-- a name field has at most 64
name_short : (names : List Name) → Short names → (n : ℕ) → length (name names n) ≤ 64
unfolding name
name_short names s n = length_either (eqb n no_value) (bytes "-") (name_at names n) 64 (omega arith) (s n)

-- a line has at most 171 bytes
pub line_short : (names : List Name) → Short names → (l : Line) → length (line names l) ≤ 171
unfolding line front
line_short names s l =
    simp length-append
    (omega (arith, code_short l.code, place_short l.place, field_short l.number, field_short l.equation, field_short l.step, name_short names s l.name))

-- a header has at most 57
pub header_short : (a : Answer) → length (header a) ≤ 57
unfolding header
header_short a =
    length_either (eqb (refusal_of a) 0) _ _ 57
    (simp length-append (omega (arith, length_digits 20 (first_of a), length_digits 20 (second_of a))))
    (simp length-append (omega (arith, length_digits 20 (refusal_of a), length_digits 20 (first_of a))))

-- the lines together
lines_short : (names : List Name) → Short names → (ls : List Line) → length (joined (map (line names) ls)) ≤ 171 * length ls
unfolding joined
lines_short names s [] = omega arith
lines_short names s (l ∷ ls) = omega (arith, length-append (line names l) (joined (map (line names) ls)), line_short names s l, lines_short names s ls)

-- the output of a call with 1,024 lines
pub printed_short : (a : Answer) (ls : List Line) (text : List ℕ) → Short (names_of text) → length ls ≤ 1024 → length (printed a ls text) ≤ 175161
unfolding printed output_lines joined
printed_short a ls text s h =
    let count : length (take (line_count a) ls) ≤ 1024 = simp length-take (omega arith) in
    omega (arith, length-append (header a) (joined (map (line (names_of text)) (take (line_count a) ls))), header_short a, lines_short (names_of text) s (take (line_count a) ls))

-- with so much room the whole output is rendered
pub output_always : (a : Answer) (ls : List Line) (text : List ℕ) {o o' : List ℕ} {r : ℕ} → Short (names_of text) → length ls ≤ 1024 → 175161 ≤ length o → Filled (output_lines a ls text) o 0 r o' → Rendered (printed a ls text) o (Some r) o'
output_always a ls text s h room f = output_whole a ls text f (omega (arith, printed_short a ls text s h))

-- a name of refusal 3 has at most 64 bytes
piece_short : (n : ℕ) (before : Option Name) (p : Piece) → is_name n before p ≡ true → length p.bytes ≤ 64
unfolding is_name
piece_short n before p e =
    let closed : Bool = p.closed && leb 1 (length p.bytes) in
    let long : Bool = leb (length p.bytes) 64 in
    let free : Bool = not (p.bytes among barred) in
    let a = (both (closed && long && above before p.bytes && free) (ltb n 512) e).0 in
    let b = (both (closed && long && above before p.bytes) free a).0 in
    let c = (both (closed && long) (above before p.bytes) b).0 in
    leb-true (length p.bytes) 64 (both closed long c).1

-- a piece that is a name, and no bad one behind it
passed : (t : Bool) (n : ℕ) (rest : Option ℕ) → ◌≡◌ {A = Option ℕ} (elim t [ true ↦ rest | false ↦ some n ]) none → (t ≡ true) × (rest ≡ none)
passed true n rest e = (refl, e)
passed false n rest e =
    let z : ◌≡◌ {A = ℕ} 0 1 = cc in
    absurd (omega arith)

-- pieces of which none is bad are short
pieces_short : (ps : List Piece) (n : ℕ) (before : Option Name) → bad_piece n before ps ≡ none → Short (map (λ p. p.bytes) ps)
unfolding bad_piece
pieces_short [] n before e k = omega arith
pieces_short (p ∷ ps) n before e zero = piece_short n before p (passed (is_name n before p) n (bad_piece (n + 1) (some p.bytes) ps) e).0
pieces_short (p ∷ ps) n before e (suc k) = pieces_short ps (n + 1) (some p.bytes) (passed (is_name n before p) n (bad_piece (n + 1) (some p.bytes) ps) e).1 k

-- the names of a text that passes refusal 3 are short
pub names_short : (text : List ℕ) → bad_name text ≡ none → Short (names_of text)
unfolding bad_name names_of
names_short text e = pieces_short (split text) 0 none e
