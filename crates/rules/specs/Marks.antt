-- The names that a struct value gives, lib.rs 1141, as a set of name numbers.
-- Assumes nothing: these are definitions.
use Rattle.std.specs.Prelude.{ℕ, ◌<◌, ◌≡◌, List}
use Rattle.lustre.specs.Name.{Name, ◌among◌}
use Rattle.loops.specs.Rows.{has}
use Rattle.types.specs.Value.{Naming}

-- the set g holds the names xs
abbrev pub Marked : Naming → List Name → List ℕ → Type 0
Marked ρ xs g = (n : ℕ) → n < 512 → has g 0 n ≡ (ρ n among xs)
