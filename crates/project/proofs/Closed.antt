-- All lines of a report, written from the first on: what the buffer holds, how many lines are counted, and the answer that says so.
-- Assumes nothing.
use Prim.Native.Nat.{ℕ, ◌-◌, ◌^◌, ◌≤◌, ◌<◌, min}
use native.Mathlib.Omega.{arith}
use mathlib.Core.Path.{◌≡◌, ◌∙◌}
use mathlib.Core.List.{List, map}
use lib.ListN.{length, length-map}
use borrow.Author.Tests.{le-leb, lt-leb}
use Rattle.lustre.specs.Name.{Name}
use Rattle.lustre.specs.Line as Report
use Rattle.lustre.specs.Report.{report, followed}
use Rattle.lustre.specs.Answer.{reported}
use Rattle.lustre.specs.declared.Answer.TheVariants.{Report, MoreLines}
use Rattle.lines.specs.Lines.{room, window, ups}
use Rattle.lines.specs.declared.Lines.{Lines}
use Rattle.lines.proofs.Laws.{puts_closed, ups_count}
use Rattle.scope.specs.Model.{Model}
use Rattle.scope.specs.Writes.{line_by, Reports}
use Rattle.project.specs.Call.{over_words, JudgedAs}

module _ (num : Name → ℕ) (ls : List Report.Line) {l l' : Lines} (first : l.first ≡ 0) (none : l.count ≡ 0) (r : Reports num ls l l') where
  -- the buffer begins with the lines that fit, and holds what was lent behind them
  pub closed_lines : length l.out.now < 2 ^ 64 → l'.out.now ≡ over_words (map (line_by num) ls) l.out.now
  unfolding over_words window
  closed_lines h = rw (r.out, first, none) (puts_closed l.out.now 0 (map (line_by num) ls) (omega arith))

  -- the count is the number of lines, up to the highest word
  pub closed_count : l'.count ≡ min (length ls) (2 ^ 64 - 1)
  closed_count =
      let e = length-map ls (line_by num) in
      let c : l'.count ≡ ups 0 (map (line_by num) ls) = rw none at r.number in
      c ∙ ups_count 0 (map (line_by num) ls) (omega arith) ∙ omega (arith, e)

module _ {ks ws : List ℕ} (g : Model ks ws) {l l' : Lines} (first : l.first ≡ 0) (none : l.count ≡ 0) (r : Reports g.number (report g.P) l l') (h : length l.out.now < 2 ^ 64) where
  -- lines that fit are a report
  pub judged_report : {looks : ℕ} → looks ≡ followed g.P → l'.count ≤ room l.out.now → JudgedAs g l.out.now (Report l'.count looks) l'.out.now
  unfolding reported
  judged_report f b =
      let e = closed_count g.number (report g.P) first none r in
      let few : length (report g.P) ≤ room l.out.now = omega arith in
      let all : l'.count ≡ length (report g.P) = omega arith in
      record { answered = rw (le-leb (length (report g.P)) (room l.out.now) few, all, f); lines = closed_lines g.number (report g.P) first none r h }

  -- more lines are refusal 7
  pub judged_more : room l.out.now < l'.count → JudgedAs g l.out.now (MoreLines l'.count) l'.out.now
  unfolding reported
  judged_more b =
      let e = closed_count g.number (report g.P) first none r in
      let many : room l.out.now < length (report g.P) = omega arith in
      record { answered = rw (lt-leb (length (report g.P)) (room l.out.now) many, e); lines = closed_lines g.number (report g.P) first none r h }
