-- Sets of names as bits: a set is eight words with one bit a name, name 0 the lowest bit of the first word. Row a is the set in the eight
-- words from 8 * a on; of a graph it holds the names that a has an edge to.
-- Assumes nothing: these are definitions.
use Rattle.std.specs.Prelude.{ℕ, zero, suc, ◌+◌, ◌*◌, ◌-◌, ◌≤◌, ◌<◌, ◌/◌, ◌%◌, ◌^◌, ◌≡◌, Bool, true, false, not, ◌||◌, ◌&&◌, List, [], ◌∷◌, get_or, eqb, Option, None, Some, IfSome}
use Rattle.loops.specs.declared.RowNames.{RowNames}

-- bit k of v is set
unfoldable pub bit : ℕ → ℕ → Bool
bit v k = eqb (v / 2 ^ k % 2) 1

-- row a has the name b
unfoldable pub has : List ℕ → ℕ → ℕ → Bool
has ws a b = bit (get_or ws (8 * a + b / 64) 0) (b % 64)

-- of the k numbers from j on those that pass a test, in order
unfoldable pub passing : (ℕ → Bool) → ℕ → ℕ → List ℕ
passing p zero j = []
passing p (suc k) j = elim (p j) [ true ↦ j ∷ passing p k (j + 1) | false ↦ passing p k (j + 1) ]

-- the names of row a from j on, in order
unfoldable pub row_from : List ℕ → ℕ → ℕ → List ℕ
row_from ws a j = passing (has ws a) (512 - j) j

-- the names of row a, in order
abbrev pub row : List ℕ → ℕ → List ℕ
row ws a = row_from ws a 0

-- b is the first name of row a from j on
pub record First (ws : List ℕ) (a j b : ℕ) : Type 0 where
  pub name : b < 512
  pub after : j ≤ b
  pub rest : row_from ws a j ≡ row_from ws a b
  pub there : has ws a b ≡ true

-- r is the first name of row a from j on, or there is none
abbrev pub Next : List ℕ → ℕ → ℕ → Option ℕ → Type 0
Next ws a j None = row_from ws a j ≡ []
Next ws a j (Some b) = First ws a j b

-- a call of the iterator s over the names of a row gave r and left t
pub record Gives (s : RowNames) (r : Option ℕ) (t : RowNames) : Type 0 where
  pub row : t.row.now ≡ s.row.now
  pub name : Next s.row.now 0 s.from r
  pub from : IfSome r (λ b. t.from ≡ b + 1)

-- ws' is ws with b in row a
pub record Connected (ws : List ℕ) (a b : ℕ) (ws' : List ℕ) : Type 0 where
  pub edges : (x y : ℕ) → y < 512 → has ws' x y ≡ (has ws x y || (eqb x a && eqb y b))

-- ws' is ws with the names of the set `more` in row a
pub record Joined (ws : List ℕ) (a : ℕ) (more ws' : List ℕ) : Type 0 where
  pub edges : (x y : ℕ) → y < 512 → has ws' x y ≡ (has ws x y || (eqb x a && has more 0 y))

-- ws' is ws with row a empty
pub record Emptied (ws : List ℕ) (a : ℕ) (ws' : List ℕ) : Type 0 where
  pub edges : (x y : ℕ) → y < 512 → has ws' x y ≡ (has ws x y && not (eqb x a))

-- ws' is ws with the row of each name of the set `names` empty
pub record Cleared (ws names ws' : List ℕ) : Type 0 where
  pub edges : (x y : ℕ) → x < 512 → y < 512 → has ws' x y ≡ (has ws x y && not (has names 0 x))
