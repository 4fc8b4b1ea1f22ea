-- How many parts follow a record of a type or an expression, and what a walk over an expression's records starts from. Document 01,
-- 'Records, in order of writing'.
-- Assumes nothing: these are definitions.
use Rattle.std.specs.Prelude.{ℕ, List, [], ◌∷◌, ◌++◌, eqb, get_or, replicate, if◌then◌else◌}
use Rattle.lustre.specs.Name.{Name}
use Rattle.lustre.specs.Expr.{Expr}
use Rattle.standing.specs.Standing.{source, ExprAt}

-- the entry of a kind whose word says how many
abbrev pub by_word : ℕ
by_word = 255

-- the parts behind a record of each kind: lists (3), types (20 to 33), literals and variables (40 to 44), unary operators, binary
-- operators, `if` to cast (67 to 76), `when` and merge (77 to 79), iterators (80 to 83), a field value (84)
unfoldable pub owed : List ℕ
owed =
    replicate 3 0 ++ (by_word ∷ []) ++ replicate 28 0 ++ (1 ∷ 0 ∷ [])
    ++ replicate 11 0 ++ replicate 2 1 ++ replicate 20 2
    ++ (3 ∷ 1 ∷ 2 ∷ 1 ∷ 1 ∷ 2 ∷ by_word ∷ by_word ∷ 1 ∷ 2 ∷ [])
    ++ (1 ∷ 1 ∷ 2 ∷ [])
    ++ (1 ∷ 2 ∷ 1 ∷ 2 ∷ 1 ∷ [])

-- the parts behind a record of kind k with word w
unfoldable pub owes : ℕ → ℕ → ℕ
owes k w = if eqb (get_or owed k 0) by_word then w else get_or owed k 0

-- an expression stands at a position, for some text of the names
pub record There (ks ws : List ℕ) (at : ℕ) : Type 0 where
  pub text : ℕ → Name
  pub e : Expr
  pub stands : ExprAt (source ks ws text) e at
