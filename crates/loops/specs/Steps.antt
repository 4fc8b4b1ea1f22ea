-- What the contracts of the parts of `search` say: of `enter`, which goes beside the definition's `enter`, and of `first`.
-- Assumes nothing: these are definitions.
use Rattle.std.specs.Prelude.{ℕ, suc, ◌+◌, ◌*◌, ◌-◌, ◌≤◌, ◌<◌, ◌≡◌, Bool, true, false, List, [], ◌∷◌, length, get_or, take, drop, eqb, Option, None, Some}
use Rattle.lustre.specs.Name.{mem}
use Rattle.lustre.specs.Walk.{Search, found, clear, from_first, enter}
use Rattle.loops.specs.Rows.{row}
use Rattle.loops.specs.declared.Colour.{Colour}
use Rattle.loops.specs.declared.Colour.TheVariants.{Free, OnPath, Cleared}

-- how many names are free, neither on the path nor cleared
unfoldable pub free : List Colour → ℕ
free [] = 0
free (Free ∷ cs) = suc (free cs)
free (OnPath ∷ cs) = free cs
free (Cleared ∷ cs) = free cs

-- which names a colour says are on the path, and which cleared
abbrev pub is_on : Colour → Bool
is_on Free = false
is_on OnPath = true
is_on Cleared = false

abbrev pub is_off : Colour → Bool
is_off Free = false
is_off OnPath = false
is_off Cleared = true

-- the colours are those of the names on the path and of the cleared ones
pub record Colours (colour : List Colour) (path cl : List ℕ) : Type 0 where
  pub on : (x : ℕ) → x < 512 → mem eqb x path ≡ is_on (get_or colour x Free)
  pub off : (x : ℕ) → x < 512 → mem eqb x cl ≡ is_off (get_or colour x Free)

-- the path ends with the loop c, from the first place of its last name on
pub record Ends (path : List ℕ) (end : ℕ) (c : List ℕ) : Type 0 where
  pub some : 1 ≤ end
  pub fits : end ≤ 513
  pub loop : c ≡ from_first eqb (get_or path (end - 1) 0) (take end path)

-- the definition found the loop c after n looks, and so did the code
pub record FoundAs (c : List ℕ) (n : ℕ) (path : List ℕ) (end : Option ℕ) (looks : ℕ) : Type 0 where
  pub at : ℕ
  pub is : end ≡ Some at
  pub there : Ends path at c
  pub counted : n ≡ looks

-- the definition cleared the names `cl` and then `node`, behind the path `front`, and so did the code
pub record ClearAs (cl : List ℕ) (n : ℕ) (front : List ℕ) (node : ℕ) (colour : List Colour) (path : List ℕ) (end : Option ℕ) (looks : ℕ) : Type 0 where
  pub nothing : end ≡ None
  pub counted : n ≡ looks
  pub kept : take (length front) path ≡ front
  pub colours : Colours colour front (node ∷ cl)

-- the code, which leaves `colour` and `path` and gives `end` and `looks`, answers as the definition
abbrev pub Alike : Search ℕ → List ℕ → ℕ → List Colour → List ℕ → Option ℕ → ℕ → Type 0
Alike (found c n) front node colour path end looks = FoundAs c n path end looks
Alike (clear cl n) front node colour path end looks = ClearAs cl n front node colour path end looks

-- what `enter` asks: `node` is free, and the path has room for all that are
pub record CanEnter (colour : List Colour) (depth node : ℕ) : Type 0 where
  pub name : node < 512
  pub room : depth + free colour ≤ 512
  pub new : get_or colour node Free ≡ Free

-- what `enter` does: as the definition's `enter` with any fuel that is enough, and at most 512 looks from each name that it takes
pub record Enters (graph : List ℕ) (colour : List Colour) (path : List ℕ) (depth node : ℕ) (colour' : List Colour) (path' : List ℕ) (end : Option ℕ) (looks : ℕ) : Type 0 where
  pub fewer : free colour' ≤ free colour
  pub bounded : looks + 512 * free colour' ≤ 512 * free colour
  pub right : (cl : List ℕ) (f : ℕ) → Colours colour (take depth path) cl → free colour ≤ f
      → Alike (enter eqb (row graph) f (take depth path) node cl) (take depth path) node colour' path' end looks

-- a count of looks went from `old` to `new` by a number of which P holds
pub record Counts (P : ℕ → Type 0) (old new : ℕ) : Type 0 where
  pub taken : ℕ
  pub added : new ≡ old + taken
  pub holds : P taken

-- the loop that the path ends with starts at `start`
pub record Places (path : List ℕ) (end start : ℕ) : Type 0 where
  pub before : start < end
  pub loop : drop start (take end path) ≡ from_first eqb (get_or path (end - 1) 0) (take end path)
