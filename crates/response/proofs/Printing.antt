-- Laws of the lines that an answer prints.
-- Assumes nothing.
use Prim.Native.Nat.{ℕ, min}
use Rattle.std.proofs.lemmas.List.{take_min}
use mathlib.Core.Path.{◌≡◌, sym, ap, ◌∙◌}
use mathlib.Core.List.{List, []}
use lib.ListN.{length, take}
use Rattle.lustre.specs.declared.Line.{Line}
use Rattle.lustre.specs.declared.Answer.TheVariants.{Report, Refused, MoreLines}
use Rattle.lustre.specs.declared.Refusal.{Refusal}
use Rattle.format.specs.Output.{line_count}
use Rattle.format.proofs.Fill.{count_report, count_refused, count_more}

-- a report prints its lines
pub report_lines : (n edges : ℕ) (ls : List Line) → take (line_count (Report n edges)) ls ≡ take (min n (length ls)) ls
report_lines n edges ls = ap (λ k. take k ls) (count_report n edges) ∙ sym (take_min n ls)

-- and a refusal none
pub refused_lines : (r : Refusal) (ls : List Line) → take (line_count (Refused r)) ls ≡ []
refused_lines r ls = ap (λ k. take k ls) (count_refused r)

pub more_lines : (n : ℕ) (ls : List Line) → take (line_count (MoreLines n)) ls ≡ []
more_lines n ls = ap (λ k. take k ls) (count_more n)

-- what every answer prints
pub ruleset shown = (report_lines, refused_lines, more_lines)
