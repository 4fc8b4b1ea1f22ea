-- A list of names in the records, and numbers of names.
-- Assumes nothing: these are definitions.
use Rattle.std.specs.Prelude.{ℕ, ◌≡◌, List}
use Rattle.lustre.specs.Name.{Name}
use Rattle.standing.specs.Standing.{source, NamesAt}
use Rattle.types.specs.Value.{Naming}

-- a list of names stands at a place of any records
pub record NamesHere (ws : List ℕ) (at : ℕ) : Type 0 where
  pub ks : List ℕ
  pub text : Naming
  pub xs : List Name
  pub listed : NamesAt (source ks ws text) xs at

-- num gives each text its number
abbrev pub Numbers : Naming → (Name → ℕ) → Type 0
Numbers text num = (n : ℕ) → num (text n) ≡ n
