-- The lines of a loop, a line a name, and the loop that the search finds.
-- Assumes nothing.
use Prim.Native.Nat.{ℕ, suc, ◌+◌, ◌-◌, ◌≤◌, ◌<◌}
use native.Mathlib.Omega.{arith}
use mathlib.Core.Path.{◌≡◌, refl, sym, ap, ◌∙◌}
use mathlib.Core.List.{List, [], ◌∷◌, map}
use mathlib.Core.Option.{none, some}
use lib.ListN.{length, get_or, take, drop, drop_of_length-le}
use Rattle.std.specs.Prelude.{Option, Some, None, IfSome}
use Rattle.std.proofs.lemmas.List.{drop_more, drop-take}
use Rattle.lustre.specs.Name.{Name}
use Rattle.lustre.specs.Line.{named}
use Rattle.lustre.specs.Project.{NodeKind, Function, Operator, Imported, Equation}
use Rattle.lustre.specs.Walk.{search, path_of, looks_of}
use Rattle.lustre.specs.Node.{path_notes, loop_notes, cycle_notes, looks}
use Rattle.lines.specs.Lines.{Put, Noted}
use Rattle.lines.specs.declared.Spot.{Spot}
use Rattle.lines.specs.declared.Lines.{Lines}
use Rattle.lines.proofs.Laws.{noted_none, noted_append, noted_named}
use Rattle.loops.specs.Search.{Answers}
use Rattle.std.specs.declared.ops.Range.{Range}
use Rattle.types.specs.Value.{Naming}
use Rattle.scope.specs.Names.{Numbers}

-- ---- lines of a path

-- no names, no notes
path_none : (k : ℕ) → path_notes k [] ≡ []
unfolding path_notes
path_none k = refl

-- the first name's note, and those of the others
path_first : (k : ℕ) (x : Name) (xs : List Name) → path_notes k (x ∷ xs) ≡ named k 60 x ∷ path_notes (k + 1) xs
unfolding path_notes
path_first k x xs = let e : k + 1 ≡ suc k = omega arith in rw e

-- the lines of the names from i on complete the lines of the loop
pub record Tracing (path : List ℕ) (q : Spot) (l₀ : Lines) (i : ℕ) (l : Lines) : Type 0 where
  pub rest : (text : Naming) (num : Name → ℕ) → Numbers text num → {l' : Lines}
      → Noted num q (path_notes i (map text (drop i path))) l l' → Noted num q (path_notes 0 (map text path)) l₀ l'

-- before the first
pub tracing_start : {path : List ℕ} {q : Spot} {l : Lines} → Tracing path q l 0 l
tracing_start = record { rest = λ text num b d. d }

module _ {path : List ℕ} {q : Spot} {l₀ : Lines} {i : ℕ} {l : Lines} (t : Tracing path q l₀ i l) where
  -- one more
  pub tracing_next : {l₁ : Lines} → i < length path → Put q 60 i (get_or path i 0) l l₁ → Tracing path q l₀ (i + 1) l₁
  tracing_next h p = record {
    rest = λ text num b d. t.rest text num b (
        rw (drop_more path i 0 h, path_first i (text (get_or path i 0)) (map text (drop (i + 1) path)))
        (noted_append (noted_named (text (get_or path i 0)) (b (get_or path i 0)) p) d));
  }

  -- none is left
  pub tracing_end : length path ≤ i → (text : Naming) (num : Name → ℕ) → Numbers text num → Noted num q (path_notes 0 (map text path)) l₀ l
  tracing_end h text num b = t.rest text num b (rw (drop_of_length-le path {i = i} h, path_none i) noted_none)

-- ---- lines and looks of a node's search

module _ {num : Name → ℕ} {q : Spot} where
  -- the loop that is found has its lines
  pub loop_found : {text : Naming} (qs : List Equation) {path : List ℕ} {l l' : Lines} {r : Option (Range ℕ)} {f : Range ℕ} {n : ℕ} → Answers text (search qs) path r n
      → r ≡ Some f → IfSome r (λ f. f.start ≤ f.end) → Noted num q (path_notes 0 (map text (take (f.end - f.start) (drop f.start path)))) l l'
      → Noted num q (loop_notes (path_of (search qs))) l l'
  unfolding loop_notes
  loop_found {text} qs {path} {f = f} a is o d =
      let h : f.start ≤ f.end = rw is at o in
      let g : path_of (search qs) ≡ some (map text (drop f.start (take f.end path))) = rw is at a.loop in
      let e : f.start + (f.end - f.start) ≡ f.end = omega arith in
      let c : drop f.start (take f.end path) ≡ take (f.end - f.start) (drop f.start path) = ap (λ (k : ℕ). drop f.start (take k path)) (sym e) ∙ drop-take f.start (f.end - f.start) path in
      rw (g, c) d

  -- none is found, and there is no line
  pub loop_none : {text : Naming} (qs : List Equation) {path : List ℕ} {l : Lines} {r : Option (Range ℕ)} {n : ℕ} → Answers text (search qs) path r n
      → r ≡ None → Noted num q (loop_notes (path_of (search qs))) l l
  unfolding loop_notes
  loop_none qs a is = let g : path_of (search qs) ≡ none = rw is at a.loop in rw g noted_none

  -- a node that is not imported has the lines and the looks of its search
  pub loops_found : (kind : NodeKind) (qs : List Equation) {l l' : Lines} {n : ℕ} → (kind ≡ Imported → ⊥)
      → Noted num q (loop_notes (path_of (search qs))) l l' → n ≡ looks_of (search qs) → Noted num q (cycle_notes kind qs) l l' × (n ≡ looks kind qs)
  unfolding cycle_notes looks
  loops_found Function qs h d e = (d, e)
  loops_found Operator qs h d e = (d, e)
  loops_found Imported qs h d e = absurd (h refl)
