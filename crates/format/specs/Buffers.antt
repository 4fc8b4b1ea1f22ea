-- What the functions of this crate leave in a lent byte buffer.
-- Assumes nothing: these are definitions.
use Rattle.std.specs.Prelude.{ℕ, ◌+◌, ◌-◌, ◌≡◌, List, [], ◌∷◌, ◌++◌, leb, length, take, drop, if◌then◌else◌, Option, Some, None}

-- the buffer o' is o with bs at its start, and r is their number; where they do not fit, it is o, and r is none
pub record Rendered (bs o : List ℕ) (r : Option ℕ) (o' : List ℕ) : Type 0 where
  pub count : r ≡ (if leb (length bs) (length o) then Some (length bs) else None)
  pub out : o' ≡ (if leb (length bs) (length o) then bs ++ drop (length bs) o else o)

-- one line after the other, as many whole lines as there is room for
unfoldable pub fitting : ℕ → List (List ℕ) → List ℕ
fitting room [] = []
fitting room (b ∷ bs) = if leb (length b) room then b ++ fitting (room - length b) bs else []

-- the buffer o' is o with those of the lines from position `at` on that fit, and r is the position behind them
pub record Filled (bs : List (List ℕ)) (o : List ℕ) (at r : ℕ) (o' : List ℕ) : Type 0 where
  pub next : r ≡ at + length (fitting (length o - at) bs)
  pub out : o' ≡ take at o ++ fitting (length o - at) bs ++ drop (at + length (fitting (length o - at) bs)) o
