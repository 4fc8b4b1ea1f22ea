-- A call that is lent blank lines: as many come back, and the blank ones behind them stay. Assumes nothing.
use Prim.Native.Nat.{ℕ, ◌-◌, min}
use native.Mathlib.Omega.{arith}
use mathlib.Core.Path.{◌≡◌, sym, ap, subst, ◌∙◌}
use mathlib.Core.Bool.{Bool, true, false}
use mathlib.Core.List.{List}
use lib.ListN.{length, take, drop, replicate, length-append, length-take, length-drop, length-replicate}
use lib.Seq.{take_at, drop_at}
use Rattle.lustre.specs.Answer.{answer, writes, stored_report, over, lines_after}
use Rattle.lustre.specs.declared.Line.{Line}
use Rattle.staging.specs.Batches.{blank}
use Rattle.checker.specs.Call.{Checked, BlanksLent}

-- as many lines as were lent
as_many : (ks ws text : List ℕ) (work : ℕ) (ys : List Line) → length (lines_after ks ws text work ys) ≡ length ys
unfolding lines_after over
as_many ks ws text work ys = go (writes (answer ks ws text work (length ys)))
  where
    D : List Line
    D = stored_report ks ws text

    go : (t : Bool) → length {A = Line} (elim t [ true ↦ over D ys | false ↦ ys ]) ≡ length ys
    go true = omega (arith, length-append (take (length ys) D) (drop (length D) ys), length-take (length ys) D, length-drop (length D) ys)
    go false = omega arith

pub blanks_lent : BlanksLent
blanks_lent ks ws text work room a work' ls c =
    let n : ℕ = min room 1024 in
    let rest : List Line = replicate (1024 - n) blank in
    let long : length ls ≡ n = ap length c.lines ∙ as_many ks ws text (length work) (replicate n blank) ∙ length-replicate n blank in
    record {
      checked = subst (λ (zs : List Line). Checked ks ws text work (replicate n blank) a work' zs) (sym (take_at ls rest n long)) c;
      behind = drop_at ls rest n long;
    }
