-- The notes of a constant's value: E0004, those of inference and E0005 one after another.
-- Assumes nothing.
use Rattle.std.specs.Prelude.{if◌then◌else◌}
use Prim.Native.Nat.{ℕ}
use mathlib.Core.Path.{◌≡◌, refl}
use mathlib.Core.Bool.{Bool, true, false}
use mathlib.Core.List.{[], ◌∷◌}
use mathlib.Core.Option.{Option, none, some}
use Rattle.lustre.specs.Name.{Name, lookup}
use Rattle.lustre.specs.Types.{Ty}
use Rattle.lustre.specs.Expr.{contains_temporal}
use Rattle.lustre.specs.Project.{Constant, Skeleton}
use Rattle.lustre.specs.Line.{bare, about}
use Rattle.lustre.specs.Resolve.{Scope, compatible, context, within_node}
use Rattle.lustre.specs.Infer.{infer}
use Rattle.lustre.specs.Report.{value_notes, constant_notes}
use Rattle.lines.specs.Lines.{Noted, Said}
use Rattle.lines.specs.declared.Spot.{Spot}
use Rattle.lines.specs.declared.Lines.{Lines}
use Rattle.lines.proofs.Laws.{noted_append}

-- where no port is, names mean what they mean in the project
pub no_ports : (s : Skeleton) → within_node (context s) [] ≡ context s
unfolding context within_node lookup
no_ports s = refl

-- inference as in a function, with no port and the declared type as the hint
pub said_no_ports : {num : Name → ℕ} {q : Spot} {v hint : Option Ty} {l l' : Lines} {function : Bool} {u : Ty} (s : Skeleton) (c : Constant)
    → function ≡ true → hint ≡ some u → u ≡ c.type
    → Said num q (infer (within_node (context s) []) function 0 c.value hint) v l l'
    → Said num q (infer (context s) true 0 c.value (some c.type)) v l l'
said_no_ports s c f h e d = rw (f, h, e, no_ports s) at d

module _ (Γ : Scope) (c : Constant) where
  -- no type, no note
  pub value_untyped : value_notes Γ c none ≡ []
  unfolding value_notes
  value_untyped = refl

  module _ {u : Ty} (t : Ty) (e : u ≡ c.type) where
    -- the type is the declared one
    pub value_fits : compatible Γ.alias u t ≡ true → value_notes Γ c (some t) ≡ []
    unfolding value_notes
    value_fits h = let z : compatible Γ.alias c.type t ≡ true = rw e at h in rw z

    -- the type is another
    pub value_unfit : compatible Γ.alias u t ≡ false → value_notes Γ c (some t) ≡ about 5 c.name ∷ []
    unfolding value_notes
    value_unfit h = let z : compatible Γ.alias c.type t ≡ false = rw e at h in rw z

  -- E0004, then what inference says, then what is said of its type
  pub constant_noted : {num : Name → ℕ} {q : Spot} {v w : Option Ty} {l l₁ l₂ l₃ : Lines}
      → Noted num q (if contains_temporal c.value then bare 4 ∷ [] else []) l l₁
      → v ≡ w
      → Said num q (infer Γ true 0 c.value (some c.type)) v l₁ l₂
      → Noted num q (value_notes Γ c w) l₂ l₃
      → Noted num q (constant_notes Γ c) l l₃
  unfolding constant_notes
  constant_noted a e d h = rw (← d.value, e) (noted_append (noted_append a d.noted) h)
