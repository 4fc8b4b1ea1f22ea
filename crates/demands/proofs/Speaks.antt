-- Inference that gives no type has added an error.
-- Assumes nothing.
use Prim.Native.Nat.{ℕ, ◌≤◌}
use native.Mathlib.Omega.{arith}
use mathlib.Core.Path.{◌≡◌, refl, subst}
use mathlib.Core.Bool.{Bool, true, false}
use mathlib.Core.List.{List, [], ◌∷◌, Memᴰ}
use mathlib.Core.Option.{Option, none}
use lib.Dec.{eqb}
use borrow.Author.Tests.{eqb-true}
use Rattle.lustre.specs.Types.{Ty}
use Rattle.lustre.specs.Line.{Note, Severity, Error, Warning, severity}
use Rattle.lustre.specs.Infer.{infer}
use Rattle.demands.specs.Reading.{Each}
use Rattle.demands.specs.Inference.{Speaks}
use Rattle.demands.proofs.Known.{Fine}
use Rattle.demands.proofs.Notes.{Any, Told, infer_says, any_expr, any_scope}

-- only 51 is a warning
is_error : (code : ℕ) → 80 ≤ code → severity code ≡ Error
unfolding severity
is_error code h = go (eqb code 51) refl
  where
    go : (t : Bool) → eqb code 51 ≡ t → ◌≡◌ {A = Severity} (elim t [ true ↦ Warning | false ↦ Error ]) Error
    go true e = let same = eqb-true code 51 e in absurd (omega arith)
    go false e = refl

-- without a type there is a note, and it is an error
first_note : (o : Option Ty) (ns : List Note) → o ≡ none → Told o ns → Each (Fine Any) ns → (m : Note) × Memᴰ m ns × (severity m.code ≡ Error)
first_note o [] e t h = absurd (subst (λ (x : Option Ty). Told x []) e t)
first_note o (n ∷ ns) e t h = (n, Memᴰ.head refl, is_error n.code h.0.above)

pub speaks : Speaks
speaks Γ function at e hint none_is =
    let says = infer_says Any Γ (any_scope Γ) function at e (any_expr e) hint in
    first_note (infer Γ function at e hint).0 (infer Γ function at e hint).1 none_is says.told says.fine
