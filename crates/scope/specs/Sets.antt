-- Sets of names as eight words of bits, by name number.
-- Assumes nothing: these are definitions.
use Rattle.std.specs.Prelude.{ℕ, ◌<◌, ◌≡◌, List}
use Rattle.lustre.specs.Name.{Name, ◌among◌}
use Rattle.loops.specs.Rows.{has}
use Rattle.types.specs.Value.{Naming}

-- the set holds the names of a list
pub record Holds (text : Naming) (xs : List Name) (set : List ℕ) : Type 0 where
  pub each : (n : ℕ) → n < 512 → has set 0 n ≡ (text n among xs)
