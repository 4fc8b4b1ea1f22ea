-- Of accepted input, the numbering of names stores the lines of the report as they are to be stored.
-- Assumes nothing.
use Prim.Native.Nat.{ℕ}
use mathlib.Core.Path.{◌≡◌, refl, sym, ap, ◌∙◌}
use mathlib.Core.List.{List, [], ◌∷◌, map}
use mathlib.Core.Option
use mathlib.Core.Option.{Option, none, some}
use lib.ListN.{length}
use Rattle.lustre.specs.Name.{Name}
use Rattle.lustre.specs.Names.{names_of, number_of}
use Rattle.lustre.specs.Line as Report
use Rattle.lustre.specs.Report.{report}
use Rattle.lustre.specs.Answer.{project_of, or_none, name_word, stored, stored_report}
use Rattle.demands.specs.Reading.{Each}
use Rattle.demands.proofs.Known.{KnownName}
use Rattle.demands.proofs.ReportNames.{report_known}
use Rattle.input.specs.Accepted.{Accepted}
use Rattle.scope.specs.Writes.{line_by}
use Rattle.project.proofs.Models.{HasNumber, known}

module _ {ks ws text : List ℕ} (a : Accepted ks ws text) where
  -- a name that the numbering numbers has that number among the names
  number_is : (x : Name) → HasNumber a.numbering.text (length (names_of text)) x → a.numbering.number x ≡ number_of (names_of text) x
  number_is x (n, low, e) =
      ap a.numbering.number (sym e) ∙ a.numbering.back n ∙ sym (a.names.back n low) ∙ ap (number_of (names_of text)) (sym (a.numbering.is n low) ∙ e)

  -- and so the word of a line's name is the same
  word_is : (o : Option Name) → KnownName (HasNumber a.numbering.text (length (names_of text))) o → or_none (Option.map a.numbering.number o) ≡ name_word (names_of text) o
  unfolding or_none name_word
  word_is none k = refl
  word_is (some x) k = number_is x k

  -- and so are the lines
  lines_are : (ls : List Report.Line) → Each (λ (l : Report.Line). KnownName (HasNumber a.numbering.text (length (names_of text))) l.remark.note.name) ls
      → map (line_by a.numbering.number) ls ≡ map (stored (names_of text)) ls
  unfolding line_by stored
  lines_are [] k = refl
  lines_are (l ∷ ls) k = rw (word_is l.remark.note.name k.0, lines_are ls k.1)

  -- the lines of the report as the numbering stores them are those that are to be stored
  pub report_stored : map (line_by a.numbering.number) (report (project_of ks ws text)) ≡ stored_report ks ws text
  unfolding stored_report
  report_stored = lines_are (report (project_of ks ws text)) (report_known (HasNumber a.numbering.text (length (names_of text))) (project_of ks ws text) (known a))
