-- What an iterator keeps of its arrays while it types them, each once: `infer_iterator_type`, lib.rs 1284 to 1345 and 1398.
-- Assumes nothing: these are definitions.
use Rattle.std.specs.Prelude as code
use Rattle.std.specs.Prelude.{ℕ, ◌≡◌, Bool, true, List, [], ◌∷◌, Some, None, MatchOption}
use Rattle.lustre.specs.Types.{Ty}
use Rattle.lustre.specs.Project.{Port}
use Rattle.lustre.specs.Resolve.{Scope}
use Rattle.lustre.specs.Infer.{agrees, same_lengths, inputs_agree}
use Rattle.types.specs.Value.{Naming, asTy}
use Rattle.types.specs.declared.Typ.{Typ}
use Rattle.rules.specs.declared.iterators.Array.{Array}
use Rattle.rules.specs.declared.iterators.Kept.{Kept}

-- the first array's length and element type
abbrev pub First : Naming → List (ℕ × Ty) → code.Option Array → Type 0
First ρ [] a = a ≡ None
First ρ (d ∷ ds) a = MatchOption a ⊥ (λ f. (f.len ≡ d.0) × (asTy ρ f.element ≡ d.1))

-- what is kept of the arrays ds, beside the inputs ps
pub record Flags (Γ : Scope) (ρ : Naming) (ds : List (ℕ × Ty)) (ps : List Port) (s : Kept) : Type 0 where
  pub first : First ρ ds s.first
  pub even : s.even ≡ same_lengths ds
  pub agree : s.agree ≡ inputs_agree Γ ps ds

-- the type of the first of the inputs ps is w, if there is one
abbrev pub Beside : Naming → List Port → code.Option Typ → Type 0
Beside ρ [] w = w ≡ None
Beside ρ (p ∷ ps) w = MatchOption w ⊥ (λ t. asTy ρ t ≡ p.1)

-- the type t agrees with another, if there is one
abbrev pub type_fits : Scope → Naming → Ty → code.Option Typ → Bool
type_fits Γ ρ t None = true
type_fits Γ ρ t (Some o) = agrees Γ t (asTy ρ o)
