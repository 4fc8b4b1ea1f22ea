-- What the passes over declarations ask and what they have entered.
-- Assumes nothing: these are definitions.
use Rattle.std.specs.Prelude.{ℕ, ◌<◌, ◌≡◌, List, [], ◌∷◌, ◌++◌, map, length, get_or, if◌then◌else◌}
use Rattle.lustre.specs.Name.{Name, ◌among◌, lookup}
use Rattle.lustre.specs.Project.{Decl, Enum, skeleton, decl_name, all_types}
use Rattle.lustre.specs.Line.{Line, at_package, about}
use Rattle.lustre.specs.Report.{line, variants_in, repeated_variants, alias_numbers, alias_line}
use Rattle.lustre.specs.Types.{Named}
use Rattle.lustre.specs.Resolve.{context, try_resolve}
use Rattle.input.specs.Depths.{ShallowDecl}
use Rattle.standing.specs.Standing.{DeclAt}
use Rattle.rules.specs.World.{Row}
use Rattle.scope.specs.Model.{Model}
use Rattle.scope.specs.Tables.{records, TablesOf}
use Rattle.scope.specs.Sets.{Holds}

-- two lists have the same names
abbrev pub SameNames : List Name → List Name → Type 0
SameNames xs ys = (x : Name) → (x among xs) ≡ (x among ys)

-- an enum stands at a record of a model
pub record EnumGiven (ws : List ℕ) (at : ℕ) : Type 0 where
  pub ks : List ℕ
  pub model : Model ks ws
  pub x : Name
  pub vs : List Name
  pub stands : DeclAt (records model) (Enum x vs) at

-- a type stands at a record of a model
pub record TypeGiven (ks ws : List ℕ) (at : ℕ) : Type 0 where
  pub model : Model ks ws
  pub d : Decl
  pub stands : DeclAt (records model) d at
  pub shallow : ShallowDecl d

module _ {ks ws : List ℕ} (g : Model ks ws) where
  -- `numbers` has by name number 1 and the number of the alias in force among the types ds
  abbrev pub Numbers : List Decl → List ℕ → Type 0
  Numbers ds numbers = Row g.text numbers 0 (λ p i. p ≡ i) (λ x. lookup x (alias_numbers 0 ds))

  -- the types ds are entered: in the scope, in the table of numbers and in the set of names
  pub record Entered (ds : List Decl) (sc nums set : List ℕ) : Type 0 where
    pub tables : TablesOf (records g) ds [] [] [] sc
    pub numbers : Numbers ds nums
    pub names : Holds g.text (map decl_name ds) set

-- the lines of one type, where these names of types and these variants stand before
abbrev pub one_type : ℕ → ℕ → List Name → List Name → Decl → List Line
one_type pack number names variants d =
    (if decl_name d among names then line at_package pack (about 6 (decl_name d)) ∷ [] else []) ++ repeated_variants number variants (variants_in d)

-- a model whose types are in the scope, and nothing else is
pub record TypesTabled (ks ws sc : List ℕ) : Type 0 where
  pub model : Model ks ws
  pub tables : TablesOf (records model) (all_types (skeleton model.P)) [] [] [] sc

-- the same with the table of numbers
pub record TypesHere (ks ws sc nums : List ℕ) : Type 0 where
  pub model : Model ks ws
  pub tables : TablesOf (records model) (all_types (skeleton model.P)) [] [] [] sc
  pub numbers : Numbers model (all_types (skeleton model.P)) nums

-- the line of one alias, if it has one
abbrev pub one_alias : {ks ws : List ℕ} → Model ks ws → Name → List Line
one_alias g a = alias_line a (try_resolve (context (skeleton g.P)).alias 65 [] (Named a)) (lookup a (alias_numbers 0 (all_types (skeleton g.P))))

-- the name of each alias has a number below `names`
abbrev pub AliasesBelow : (ks ws : List ℕ) (names : ℕ) → Type 0
AliasesBelow ks ws names = (at : ℕ) → at < length ks → get_or ks at 0 ≡ 4 → get_or ws at 0 < names
