-- The scope: six tables of 512 entries by name number, that say of the numbers what declarations say of the names. An entry is 0 for none,
-- else 1 and the number of the record that declares it; of equal names the last is in force.
-- Assumes nothing: these are definitions.
use Rattle.std.specs.Prelude.{ℕ, ◌+◌, ◌≤◌, ◌<◌, ◌≡◌, false, List, map, length, get_or}
use Rattle.std.proofs.Math.Option.{none}
use Rattle.lustre.specs.Name.{Name, ◌among◌, lookup}
use Rattle.lustre.specs.Types.{Ty}
use Rattle.lustre.specs.Project.{Port, Decl, Constant, Heading, skeleton, all_types, all_constants, all_nodes}
use Rattle.lustre.specs.Resolve.{Scope, aliases_of, records_of, variants_of, context, within_node}
use Rattle.standing.specs.Standing.{Source, source}
use Rattle.rules.specs.World.{Typed, Listed, EnumAt, HeadingAt, Row}
use Rattle.scope.specs.Model.{Model}

-- the tables of aliases, records, variants, constants, nodes, and ports and locals, as lists of pairs in order of declaration; no number
-- from 512 on is an alias's
pub record Tables (S : Source) (as' : List (Name × Ty)) (rs : List (Name × List Port)) (vs : List (Name × Name)) (cs : List (Name × Ty)) (ns : List (Name × Heading)) (env : List Port) (sc : List ℕ) : Type 0 where
  pub room : length sc ≡ 3072
  pub beyond : (n : ℕ) → 512 ≤ n → lookup (S.text n) as' ≡ none
  pub alias : Row S.text sc 0 (λ p t. Typed S t (p + 1)) (λ x. lookup x as')
  pub fields : Row S.text sc 512 (λ p ps. Listed S ps (p + 1)) (λ x. lookup x rs)
  pub variant : Row S.text sc 1024 (EnumAt S) (λ x. lookup x vs)
  pub constant : Row S.text sc 1536 (λ p t. Typed S t (p + 1)) (λ x. lookup x cs)
  pub node : Row S.text sc 2048 (HeadingAt S) (λ x. lookup x ns)
  pub port : Row S.text sc 2560 (λ p t. Typed S t (p + 1)) (λ x. lookup x env)

-- the tables of the types ds, the constants cs, the nodes ns, and the ports and locals env
abbrev pub TablesOf : (S : Source) (ds : List Decl) (cs : List Constant) (ns : List Heading) (env : List Port) (sc : List ℕ) → Type 0
TablesOf S ds cs ns env sc = Tables S (aliases_of ds) (records_of ds) (variants_of ds) (map (λ c. (c.name, c.type)) cs) (map (λ n. (n.name, n)) ns) env sc

-- the same where the ports and locals are being taken out again: each entry in force is of a name among xs
pub record Forgetting (S : Source) (as' : List (Name × Ty)) (rs : List (Name × List Port)) (vs : List (Name × Name)) (cs : List (Name × Ty)) (ns : List (Name × Heading)) (xs : List Name) (sc : List ℕ) : Type 0 where
  pub room : length sc ≡ 3072
  pub beyond : (n : ℕ) → 512 ≤ n → lookup (S.text n) as' ≡ none
  pub alias : Row S.text sc 0 (λ p t. Typed S t (p + 1)) (λ x. lookup x as')
  pub fields : Row S.text sc 512 (λ p ps. Listed S ps (p + 1)) (λ x. lookup x rs)
  pub variant : Row S.text sc 1024 (EnumAt S) (λ x. lookup x vs)
  pub constant : Row S.text sc 1536 (λ p t. Typed S t (p + 1)) (λ x. lookup x cs)
  pub node : Row S.text sc 2048 (HeadingAt S) (λ x. lookup x ns)
  pub port : (n : ℕ) → n < 512 → (S.text n among xs) ≡ false → get_or sc (n + 2560) 0 ≡ 0

module _ {ks ws : List ℕ} (g : Model ks ws) where
  -- the model's records, with the texts of its names
  abbrev pub records : Source
  records = source ks ws g.text

  -- what names mean in a node with the ports and locals env
  abbrev pub scope_in : List Port → Scope
  scope_in env = within_node (context (skeleton g.P)) env

  -- every table of the project, with the ports and locals env in force
  abbrev pub Declared : List Port → List ℕ → Type 0
  Declared env sc = TablesOf records (all_types (skeleton g.P)) (all_constants (skeleton g.P)) (all_nodes (skeleton g.P)) env sc

-- a model whose tables stand in the scope, with some ports and locals in force
pub record Scoped (ks ws sc : List ℕ) : Type 0 where
  pub model : Model ks ws
  pub env : List Port
  pub declared : Declared model env sc
