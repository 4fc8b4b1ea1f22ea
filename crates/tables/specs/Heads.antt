-- One pass over the records meets each package, type, constant and node at its first record, in order, since no other record has a kind of
-- theirs: document 01, 'Records, in order of writing'.
-- Assumes nothing: these are definitions.
use Rattle.std.specs.Prelude.{ℕ, suc, ◌+◌, ◌-◌, ◌<◌, ◌≡◌, false, List, [], ◌∷◌, ◌++◌, map, eqb, length, get_or}
use Rattle.lustre.specs.Name.{mem}
use Rattle.lustre.specs.Project.{Decl, Constant, Node, Package, Project}
use Rattle.input.specs.Depths.{ShallowDecl, ShallowConstant, ShallowNode}
use Rattle.standing.specs.Standing.{RecAt, DeclAt, ConstantAt, NodeAt}
use Rattle.scope.specs.Model.{Model, Numbered}
use Rattle.scope.specs.Tables.{records}

-- what a record of such a kind begins
pub data Head : Type 0 where
  a_package : Head
  a_type : Decl → Head
  a_constant : Constant → Head
  a_node : Node → Head

unfoldable pub heads_in : Package → List Head
heads_in p = map a_type p.types ++ (map a_constant p.constants ++ map a_node p.nodes)

-- the heads of a project, in order
unfoldable pub heads : Project → List Head
heads [] = []
heads (p ∷ ps) = a_package ∷ (heads_in p ++ heads ps)

-- the kinds of heads
abbrev pub head_kinds : List ℕ
head_kinds = 2 ∷ 4 ∷ 5 ∷ 6 ∷ 9 ∷ 10 ∷ 11 ∷ 12 ∷ []

-- the types with their packages' numbers, the constants and the nodes among heads, where so many packages stand before
unfoldable pub types_among : ℕ → List Head → List (ℕ × Decl)
types_among i [] = []
types_among i (a_package ∷ hs) = types_among (suc i) hs
types_among i (a_type d ∷ hs) = (i - 1, d) ∷ types_among i hs
types_among i (a_constant c ∷ hs) = types_among i hs
types_among i (a_node n ∷ hs) = types_among i hs

unfoldable pub constants_among : List Head → List Constant
constants_among [] = []
constants_among (a_package ∷ hs) = constants_among hs
constants_among (a_type d ∷ hs) = constants_among hs
constants_among (a_constant c ∷ hs) = c ∷ constants_among hs
constants_among (a_node n ∷ hs) = constants_among hs

unfoldable pub nodes_among : List Head → List Node
nodes_among [] = []
nodes_among (a_package ∷ hs) = nodes_among hs
nodes_among (a_type d ∷ hs) = nodes_among hs
nodes_among (a_constant c ∷ hs) = nodes_among hs
nodes_among (a_node n ∷ hs) = n ∷ nodes_among hs

module _ {ks ws : List ℕ} (g : Model ks ws) where
  -- what stands at a head, with its levels in bounds and its names numbered
  abbrev pub HeadAt : Head → ℕ → Type 0
  HeadAt a_package at = RecAt (records g) at 2
  HeadAt (a_type d) at = DeclAt (records g) d at × ShallowDecl d
  HeadAt (a_constant c) at = ConstantAt (records g) c at × ShallowConstant c
  HeadAt (a_node n) at = NodeAt (records g) n at × ShallowNode n × Numbered g.text g.names n.equations

  -- from a record on, a pass meets these heads
  pub data Meets : ℕ → List Head → Type 0 where
    at_end : Meets (length ks) []
    passed : {at : ℕ} {hs : List Head} → at < length ks → mem eqb (get_or ks at 0) head_kinds ≡ false → Meets (at + 1) hs → Meets at hs
    met : {at : ℕ} {h : Head} {hs : List Head} → HeadAt h at → Meets (at + 1) hs → Meets at (h ∷ hs)
