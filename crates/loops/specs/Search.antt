-- What the contract of `search` says: what it answers, in the numbers of names and in their texts.
-- Assumes nothing: these are definitions.
use Prim.Native.Nat.{Ordering}
use Rattle.std.specs.Prelude.{ℕ, ◌≤◌, ◌<◌, ◌≡◌, true, List, map, get_or, take, drop, eqb, Option, MatchOption, IfSome}
use Rattle.std.proofs.Math.Option.{none, some}
use Rattle.lustre.specs.Name.{Name, order, ◌among◌}
use Rattle.lustre.specs.Project.{Equation}
use Rattle.lustre.specs.Deps.{defined, read_by}
use Rattle.lustre.specs.Walk.{Search, path_of, looks_of, walk, graph_names, search}
use Rattle.loops.specs.Rows.{has, row}
use Rattle.std.specs.declared.ops.Range.{Range}

-- the words show the equations, where `text` gives the texts of the name numbers below `names`: those go by byte order, so that no two
-- have one text
pub record Shows (qs : List Equation) (text : ℕ → Name) (names : ℕ) (graph defs : List ℕ) : Type 0 where
  pub few : names ≤ 512
  pub increasing : (i j : ℕ) → i < j → j < names → order (text i) (text j) ≡ Ordering.lt
  -- every name of the equations has a number
  pub numbered : (x : Name) → (x among graph_names qs) ≡ true → (n : ℕ) × (n < names) × (text n ≡ x)
  -- row a holds the numbers of the names that the equations with a on the left read
  pub edges : (a b : ℕ) → a < names → b < names → has graph a b ≡ (text b among read_by (text a) qs)
  pub edges_within : (a b : ℕ) → a < names → b < 512 → has graph a b ≡ true → b < names
  -- `defs` holds the numbers of the names on left-hand sides
  pub starts : (a : ℕ) → a < names → has defs 0 a ≡ (text a among defined qs)
  pub starts_within : (a : ℕ) → a < 512 → has defs 0 a ≡ true → a < names

-- what a search answers stands in the path, where `name` says which name a number is: the loop that was found, or none
pub record Answers {A : Type 0} (name : ℕ → A) (o : Search A) (path : List ℕ) (r : Option (Range ℕ)) (looks : ℕ) : Type 0 where
  pub loop : MatchOption r (path_of o ≡ none) (λ f. path_of o ≡ some (map name (drop f.start (take f.end path))))
  pub counted : looks ≡ looks_of o

-- what `search` leaves in the path and gives; what the path holds outside the loop is left free
pub record Searches (graph defs path : List ℕ) (r : Option (Range ℕ)) (looks : ℕ) : Type 0 where
  pub fits : IfSome r (λ f. f.end ≤ 513)
  pub ordered : IfSome r (λ f. f.start ≤ f.end)
  pub bounded : looks ≤ 262144
  -- whatever the words are, it is the walk over the numbers, from those of `defs`
  pub numbers : Answers (λ (n : ℕ). n) (walk eqb (row graph) 512 (row defs 0)) path r looks
  -- where they show equations, it is the search of those, and each number of the loop is below `names`
  pub texts : (qs : List Equation) (text : ℕ → Name) (names : ℕ) → Shows qs text names graph defs → Answers text (search qs) path r looks
  pub known : (qs : List Equation) (text : ℕ → Name) (names : ℕ) → Shows qs text names graph defs → IfSome r (λ f. (k : ℕ) → f.start ≤ k → k < f.end → get_or path k 0 < names)
