-- A right-hand side in the part of the records from its first record on: what its checks ask, and their notes one after another.
-- Assumes nothing.
use Rattle.std.specs.Prelude.{if◌then◌else◌}
use Prim.Native.Nat.{ℕ, ◌+◌, ◌-◌, ◌≤◌, ◌<◌}
use native.Mathlib.Omega.{arith}
use mathlib.Core.Path.{◌≡◌}
use mathlib.Core.Bool.{false, ◌&&◌}
use mathlib.Core.List.{List, [], ◌∷◌}
use lib.ListN.{length, take, drop, length-take, length-drop}
use Rattle.std.proofs.lemmas.List.{take-append-drop}
use Rattle.lustre.specs.Name.{Name}
use Rattle.lustre.specs.Expr.{contains_temporal, size}
use Rattle.lustre.specs.Line.{bare}
use Rattle.lustre.specs.Placement.{nested}
use Rattle.standing.specs.Standing.{source}
use Rattle.standing.specs.Owed.{There}
use Rattle.standing.proofs.Inversions.{expr_record}
use Rattle.standing.proofs.Parts.{part, part_is, expr_in}
use Rattle.standing.proofs.Sizes.{expr_end}
use Rattle.lines.specs.Lines.{Noted}
use Rattle.lines.specs.declared.Spot.{Spot}
use Rattle.lines.specs.declared.Lines.{Lines}
use Rattle.lines.proofs.Laws.{noted_append}
use Rattle.body.specs.Body.{Side, notes, Initialized}
use Rattle.equations.specs.Equations.{side_notes}

module _ {ks ws : List ℕ} {start : ℕ} (g : There ks ws start) where
  -- the side starts within the kinds
  pub side_kinds : start < length ks
  side_kinds = (expr_record (source ks ws g.text) g.e start g.stands).in_kinds

  -- and within the words
  pub side_words : start < length ws
  side_words = (expr_record (source ks ws g.text) g.e start g.stands).in_words

  -- the side at the start of the part, with a text for the names
  abbrev pub side_there : There (part ks start) (part ws start) 0
  side_there = record { text = g.text; e = g.e; stands = expr_in ks ws g.text start g.e 0 start (omega arith) g.stands }

  -- it ends within the kinds
  pub side_end : {next : ℕ} → next ≡ start + size g.e → next ≤ length ks
  side_end h = omega (arith, h, expr_end (source ks ws g.text) g.e start g.stands)

  -- its own kinds
  abbrev pub side_own : {next : ℕ} → next ≡ start + size g.e → Side (take (next - start) (drop start ks))
  side_own {next} h =
      let n = next - start in
      record {
        after = drop n (drop start ks);
        whole = record {
          ws = part ws start;
          text = g.text;
          e = g.e;
          stands = rw (take-append-drop n (drop start ks), ← part_is ks start) side_there.stands;
          ends = omega (arith, h, expr_end (source ks ws g.text) g.e start g.stands, length-take (next - start) (drop start ks), length-drop start ks);
        };
      }

  -- E0030, then E0070, then E0146
  pub side_noted : {num : Name → ℕ} {q : Spot} {next : ℕ} {l l₁ l₂ l₃ : Lines}
      → Noted num q (if q.function && contains_temporal g.e then bare 30 ∷ [] else []) l l₁
      → Initialized num q g.e 0 false l₁ next l₂
      → Noted num q (notes 146 (nested g.e)) l₂ l₃
      → Noted num q (side_notes q.function g.e) l l₃
  side_noted a b c = noted_append (noted_append a b.noted) c
