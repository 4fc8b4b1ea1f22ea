-- The record that a struct value is of, lib.rs 1137.
-- Assumes nothing: these are definitions.
use Rattle.std.specs.Prelude as code
use Rattle.std.specs.Prelude.{ℕ, ◌≡◌, List, MatchOption}
use Rattle.std.proofs.Math.Option.{Option, none, some}
use Rattle.lustre.specs.Name.{Name}
use Rattle.lustre.specs.Types.{Ty}
use Rattle.lustre.specs.Project.{Port}
use Rattle.lustre.specs.Infer.{Typing, struct_rule}
use Rattle.standing.specs.Standing.{source}
use Rattle.lines.specs.Lines.{Said}
use Rattle.lines.specs.declared.Lines.{Lines}
use Rattle.lines.specs.declared.Spot.{Spot}
use Rattle.rules.specs.World.{World, Listed}

-- the fields of a record stand in the list at a place; there is no line
pub record Fields {ks ws sc : List ℕ} (W : World ks ws sc) (name : ℕ) (l : Lines) (list : ℕ) (l' : Lines) : Type 0 where
  pub fs : List Port
  pub is : W.Γ.fields (W.text name) ≡ some fs
  pub listed : Listed (source ks ws W.text) fs list
  pub same : l' ≡ l

-- what `record_of` answers: if there is no list, what the whole struct value says has been said
abbrev pub Declared : {ks ws sc : List ℕ} (W : World ks ws sc) (at name : ℕ) (q : Spot) (l : Lines) (r : code.Option ℕ) (l' : Lines) → Type 0
Declared W at name q l r l' =
    MatchOption r
    ((vs : List (Name × Typing)) (hint : Option Ty) → Said W.number q (struct_rule W.Γ at (W.text name) vs hint) none l l')
    (λ list. Fields W name l list l')
