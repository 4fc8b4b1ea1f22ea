-- What it is for a part of a project to stand at a position of its records.
-- Assumes nothing: these are definitions.
use Rattle.std.specs.Prelude.{ℕ, ◌≤◌, ◌<◌, ◌≡◌, List, [], length, drop}
use Rattle.lustre.specs.Name.{Name}
use Rattle.lustre.specs.Records.{spell}
use Rattle.lustre.specs.Grammar.{Class, Tree, flat_part}
use Rattle.demands.specs.Reading.{Writable}

-- the records from `at` up to `end` are those of the tree v
pub record Stands (ρ : ℕ → Name) (ks ws : List ℕ) (c : Class) (v : Tree c) (at end : ℕ) : Type 0 where
  pub flat : drop at (spell ρ ks ws) ≡ flat_part c v (drop end (spell ρ ks ws))
  pub before : at < end
  pub within : end ≤ length ks
  pub writable : Writable c v

-- what a function on a part asks: some tree of the class stands at the position
pub record PartAt (ks ws : List ℕ) (c : Class) (at : ℕ) : Type 0 where
  pub same : length ks ≡ length ws
  pub tree : Tree c
  pub end : ℕ
  pub stands : Stands (λ n. []) ks ws c tree at end

-- what a function on a part answers: where the tree that stands there ends, under any numbering of names
abbrev pub EndOf : (ks ws : List ℕ) (c : Class) → ℕ → ℕ → Type 0
EndOf ks ws c at r = (ρ : ℕ → Name) (v : Tree c) (end : ℕ) → Stands ρ ks ws c v at end → r ≡ end
