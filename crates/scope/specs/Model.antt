-- A project that stands in the records, with a numbering of its names: what acceptance gives and every later function asks.
-- Assumes nothing: these are definitions.
use Prim.Native.Nat.{Ordering}
use Rattle.std.specs.Prelude.{ℕ, ◌≤◌, ◌<◌, ◌≡◌, true, List, length}
use Rattle.lustre.specs.Name.{Name, order, ◌among◌}
use Rattle.lustre.specs.Project.{Equation, Node, Project, all_nodes}
use Rattle.lustre.specs.Walk.{graph_names}
use Rattle.demands.specs.Reading.{Each}
use Rattle.input.specs.Depths.{ShallowProject}
use Rattle.standing.specs.Standing.{source, ProjectAt, list_size, package_size}
use Rattle.types.specs.Value.{Naming}

-- each name that equations define or read has a number below the number of names
abbrev pub Numbered : Naming → ℕ → List Equation → Type 0
Numbered text names qs = (x : Name) → (x among graph_names qs) ≡ true → (n : ℕ) × (n < names) × (text n ≡ x)

-- The project P stands in the records from the first to the last. Each number has a text, those below `names` in byte order, and each
-- text leads back to its number.
pub record Model (ks ws : List ℕ) : Type 0 where
  pub text : Naming
  pub number : Name → ℕ
  pub back : (n : ℕ) → number (text n) ≡ n
  pub names : ℕ
  pub some_names : names ≤ 512
  pub increasing : (i j : ℕ) → i < j → j < names → order (text i) (text j) ≡ Ordering.lt
  pub even : length ks ≡ length ws
  pub few : length ks ≤ 4096
  pub P : Project
  pub stands : ProjectAt (source ks ws text) P 0
  pub whole : list_size package_size P ≡ length ks
  pub shallow : ShallowProject P
  pub numbered : Each (λ (n : Node). Numbered text names n.equations) (all_nodes P)
