-- Document 01's worked example, from the bytes of the file to the bytes that are printed, computed by the definitions; and what is
-- printed for a file of a wrong length, with an excess, and for other lines.
-- Assumes nothing.
use Prim.Native.Nat.{ℕ}
use mathlib.Core.Path.{◌≡◌, refl}
use mathlib.Core.List.{List, [], ◌∷◌, ◌++◌}
use lib.ListN.{replicate}
use Rattle.lustre.specs.Computes.{computes}
use Rattle.lustre.specs.Answer.{no_value}
use Rattle.lustre.specs.declared.Line.{Line}
use Rattle.lustre.specs.declared.Answer.TheVariants.{Report, MoreLines}
use Rattle.format.specs.File.{Model, number_in, words_in, right, parts, parse, bytes_of, words_bytes, written}
use Rattle.format.specs.Output.{bytes, digits, four_digits, letter, code, field, place, name, front, line, header, line_count, output_lines, joined, printed, output_of, output}

-- package p, operator n, output a, local b, both Int32, a = b, b = a
unfoldable pub example : Model
example = record {
  kinds = 1 ∷ 2 ∷ 3 ∷ 3 ∷ 3 ∷ 11 ∷ 3 ∷ 3 ∷ 7 ∷ 23 ∷ 3 ∷ 7 ∷ 23 ∷ 3 ∷ 13 ∷ 3 ∷ 8 ∷ 44 ∷ 13 ∷ 3 ∷ 8 ∷ 44 ∷ 3 ∷ [];
  words = 1 ∷ 3 ∷ 0 ∷ 0 ∷ 1 ∷ 2 ∷ 0 ∷ 1 ∷ 0 ∷ 0 ∷ 1 ∷ 1 ∷ 0 ∷ 2 ∷ 0 ∷ 1 ∷ 0 ∷ 1 ∷ 0 ∷ 1 ∷ 1 ∷ 0 ∷ 0 ∷ [];
  text = bytes "a" ++ 0 ∷ bytes "b" ++ 0 ∷ bytes "n" ++ 0 ∷ bytes "p" ++ 0 ∷ [];
}

-- refusal 1
abbrev pub refused : List ℕ
refused = bytes "refused 1 at 0\n"

-- the report on a blank file
abbrev pub blank : List ℕ
blank = bytes "lines 0 followed 0\n"

-- a line from its six words
abbrev pub ln : ℕ → ℕ → ℕ → ℕ → ℕ → ℕ → Line
ln c p n q s y = record { code = c; place = p; number = n; equation = q; step = s; name = y }

-- the outputs for the example's file, for no bytes, for 1, 7, 8 and 9 zero bytes, and for files of 4,097 records and of 16,385 text bytes
pub example_printed :
    (output (written example) ∷ output [] ∷ output (0 ∷ []) ∷ output (replicate 7 0) ∷ output (replicate 8 0) ∷ output (replicate 9 0) ∷ output (1 ∷ 16 ∷ replicate 36879 0) ∷ output (0 ∷ 0 ∷ 0 ∷ 0 ∷ 1 ∷ 64 ∷ replicate 16387 0) ∷ [])
    ≡ (bytes "lines 3 followed 2\nE0060 node 0 - 0 a\nE0060 node 0 - 1 b\nE0060 node 0 - 2 a\n" ∷ blank ∷ refused ∷ refused ∷ blank ∷ refused ∷ refused ∷ refused ∷ [])
unfolding computes example number_in words_in right parts parse bytes_of words_bytes written digits four_digits letter code field place name front line header line_count output_lines joined printed output_of
example_printed = refl

-- a line of each place kind, each with or without an equation, a step and a name; of the last, behind the report's count, nothing is printed
pub lines_printed :
    printed (Report 5 18_446_744_073_709_551_615) (ln 7 1 4 no_value no_value 0 ∷ ln 51 4 10 no_value no_value 1 ∷ ln 128 3 0 no_value 4095 1 ∷ ln 6 2 99 no_value no_value 0 ∷ ln 30 0 0 12 3 no_value ∷ ln 1 4 0 0 0 0 ∷ []) (97 ∷ 98 ∷ 0 ∷ 99 ∷ 0 ∷ [])
    ≡ bytes "lines 5 followed 18446744073709551615\nE0007 enum 4 - - ab\nW0051 node 10 - - c\nE0128 constant 0 - 4095 c\nE0006 type 99 - - ab\nE0030 package 0 12 3 -\n"
unfolding computes digits four_digits letter code field place name front line header line_count output_lines joined printed
lines_printed = refl

-- refusal 7 prints no line
pub refusal_printed : printed (MoreLines 1025) (ln 7 1 4 0 0 0 ∷ []) [] ≡ bytes "refused 7 at 1025\n"
unfolding computes digits header line_count output_lines joined printed
refusal_printed = refl
