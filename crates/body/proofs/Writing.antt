-- Notes of one code that are written in the course of a walk: what is still to be written.
-- Assumes nothing.
use Prim.Native.Nat.{ℕ}
use mathlib.Core.List.{List, [], ◌++◌, map-append}
use Rattle.lustre.specs.Name.{Name}
use Rattle.lustre.specs.Line.{plain}
use Rattle.lines.specs.Lines.{Noted}
use Rattle.lines.specs.declared.Spot.{Spot}
use Rattle.lines.specs.declared.Lines.{Lines}
use Rattle.lines.proofs.Laws.{noted_none, noted_append}
use Rattle.body.specs.Body.{notes}

module _ (num : Name → ℕ) (q : Spot) (code : ℕ) (all : List ℕ) (l₀ : Lines) where
  -- once the notes at these steps are written from here on, the notes at all steps are written
  pub record Still (l : Lines) (steps : List ℕ) : Type 0 where
    pub rest : {l' : Lines} → Noted num q (notes code steps) l l' → Noted num q (notes code all) l₀ l'

  pub still_start : Still l₀ all
  still_start = record { rest = λ d. d }

  pub still_step : {l l' : Lines} (xs ys : List ℕ) → Still l (xs ++ ys) → Noted num q (notes code xs) l l' → Still l' ys
  still_step xs ys s x = record { rest = λ d. s.rest (rw (map-append (λ at. plain at code) xs ys) (noted_append x d)) }

  pub still_done : {l : Lines} → Still l [] → Noted num q (notes code all) l₀ l
  still_done s = s.rest noted_none
