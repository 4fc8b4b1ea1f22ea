-- What the functions on a right-hand side ask, and what they answer, in lustre's definitions.
-- Assumes nothing: these are definitions.
use Rattle.std.specs.Prelude.{ℕ, ◌+◌, ◌<◌, ◌≡◌, Bool, ◌||◌, ◌&&◌, List, ◌++◌, map, length, eqb, leb}
use Rattle.lustre.specs.Name.{Name, ◌among◌}
use Rattle.lustre.specs.Expr.{Expr, size}
use Rattle.lustre.specs.Init.{pres}
use Rattle.lustre.specs.Deps.{reads}
use Rattle.lustre.specs.Line.{Note, plain}
use Rattle.lines.specs.Lines.{Noted}
use Rattle.lines.specs.declared.Spot.{Spot}
use Rattle.lines.specs.declared.Lines.{Lines}
use Rattle.loops.specs.Rows.{has}
use Rattle.standing.specs.Standing.{source, ExprAt}

-- the first `end` records are a right-hand side
pub record Whole (ks : List ℕ) (end : ℕ) : Type 0 where
  pub ws : List ℕ
  pub text : ℕ → Name
  pub e : Expr
  pub stands : ExprAt (source ks ws text) e 0
  pub ends : size e ≡ end

-- the kinds of a right-hand side, whatever records come behind them
pub record Side (ks : List ℕ) : Type 0 where
  pub after : List ℕ
  pub whole : Whole (ks ++ after) (length ks)

-- a note of one code at each of some steps
abbrev pub notes : ℕ → List ℕ → List Note
notes code steps = map (λ at. plain at code) steps

-- the kinds of temporal operators, the kinds of iterators, and the kinds whose word is a name that is read: a variable, and the clock of a
-- `when` or a merge
abbrev pub temporal_kind : ℕ → Bool
temporal_kind k = eqb k 68 || eqb k 69

abbrev pub iterator_kind : ℕ → Bool
iterator_kind k = leb 80 k && leb k 83

abbrev pub reading_kind : ℕ → Bool
reading_kind k = eqb k 44 || (leb 77 k && leb k 79)

-- where e stands at a position: the notes of its `pre`s are written, and what comes behind it is next
pub record Initialized (num : Name → ℕ) (q : Spot) (e : Expr) (at : ℕ) (under : Bool) (l : Lines) (r : ℕ) (l' : Lines) : Type 0 where
  pub next : r ≡ at + size e
  pub noted : Noted num q (notes 70 (pres at e under)) l l'

-- no other number below 512 has the text of n
abbrev pub Alone : (ℕ → Name) → ℕ → Type 0
Alone text n = (m : ℕ) → m < 512 → text m ≡ text n → m ≡ n

-- the set row' is the set row with the names of a list
pub record WithNames (text : ℕ → Name) (xs : List Name) (row row' : List ℕ) : Type 0 where
  pub each : (n : ℕ) → n < 512 → Alone text n → has row' 0 n ≡ (has row 0 n || (text n among xs))

-- where e stands at a position: the names that it reads in the same instant are in the set, and what comes behind it is next
pub record Collected (text : ℕ → Name) (e : Expr) (at : ℕ) (row : List ℕ) (r : ℕ) (row' : List ℕ) : Type 0 where
  pub next : r ≡ at + size e
  pub names : WithNames text (reads e) row row'
