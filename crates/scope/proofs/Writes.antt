-- Lines of the report one after another.
-- Assumes nothing.
use Prim.Native.Nat.{ℕ}
use mathlib.Core.Path.{◌≡◌, refl, ap₂}
use mathlib.Core.List.{List, [], ◌∷◌, ◌++◌, map, map-append}
use mathlib.Core.Option.{Option}
use Rattle.lustre.specs.Name.{Name}
use Rattle.lustre.specs.Line as Report
use Rattle.lustre.specs.Answer.{or_none, place_number}
use Rattle.lines.specs.Lines.{line_at, line_of, Noted}
use Rattle.lines.specs.declared.Spot.{Spot}
use Rattle.lines.specs.declared.Lines.{Lines}
use Rattle.lines.proofs.Laws.{wrote_none, wrote_append}
use Rattle.scope.specs.Writes.{line_by, Reports}

module _ (num : Name → ℕ) where
  -- no line
  pub reports_none : {l : Lines} → Reports num [] l l
  reports_none = wrote_none

  -- lines after lines
  pub reports_append : (ls ms : List Report.Line) {l l₁ l₂ : Lines} → Reports num ls l l₁ → Reports num ms l₁ l₂ → Reports num (ls ++ ms) l l₂
  reports_append ls ms f g = rw (map-append (line_by num) ls ms) (wrote_append f g)

-- a note placed
abbrev pub placed : Report.Place → ℕ → Option ℕ → Report.Note → Report.Line
placed p i e m = record { place = p; number = i; remark = record { equation = e; note = m } }

module _ (num : Name → ℕ) (q : Spot) (p : Report.Place) (i : ℕ) (e : Option ℕ) (at : q.place ≡ place_number p) (number : q.number ≡ i) (equation : q.equation ≡ or_none e) where
  -- the lines of notes at a spot
  lines_placed : (ns : List Report.Note) → map (line_of num q) ns ≡ map (line_by num) (map (placed p i e) ns)
  unfolding line_of line_at line_by
  lines_placed [] = refl
  lines_placed (m ∷ ns) = ap₂ ◌∷◌ (rw (at, number, equation)) (lines_placed ns)

-- notes at a spot are lines of the report
pub reports_noted : {num : Name → ℕ} {q : Spot} (p : Report.Place) {i : ℕ} (e : Option ℕ) (ns : List Report.Note) {l l' : Lines}
    → Noted num q ns l l' → q.place ≡ place_number p → q.number ≡ i → q.equation ≡ or_none e → Reports num (map (placed p i e) ns) l l'
reports_noted {num} {q} p {i} e ns d at number equation = rw (lines_placed num q p i e at number equation ns) at d.wrote
