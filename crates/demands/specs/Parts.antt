-- Parts of a project in its records, by their kinds alone. A node's records go from the record of kind 10, 11 or 12 up to the next of
-- these or the next package (2); its first two lists (3) are inputs and outputs, and its locals, equations and probes begin at the third.
-- Assumes nothing: these are definitions.
use Rattle.std.specs.Prelude.{ℕ, zero, suc, Bool, true, false, List, [], ◌∷◌, eqb}
use Rattle.lustre.specs.Name.{mem}
use Rattle.lustre.specs.Records.{Rec}

abbrev pub starts_node : ℕ → Bool
starts_node k = mem eqb k (10 ∷ 11 ∷ 12 ∷ [])

-- what ends the node before it
abbrev pub ends_node : ℕ → Bool
ends_node k = mem eqb k (2 ∷ 10 ∷ 11 ∷ 12 ∷ [])

-- the records up to the next node or package
unfoldable pub up_to_next : List Rec → List Rec
up_to_next [] = []
up_to_next (r ∷ rs) = elim (ends_node r.kind) [ true ↦ [] | false ↦ r ∷ up_to_next rs ]

-- the records of node i; none where there is no such node
unfoldable pub node_part : ℕ → List Rec → List Rec
node_part i [] = []
node_part zero (r ∷ rs) = elim (starts_node r.kind) [ true ↦ r ∷ up_to_next rs | false ↦ node_part zero rs ]
node_part (suc i) (r ∷ rs) = elim (starts_node r.kind) [ true ↦ node_part i rs | false ↦ node_part (suc i) rs ]

-- where a walk over the records is: outside the nodes, in a node with so many lists still shown, or in a node's hidden part
pub data View : Type 0 where
  all : View
  lists : ℕ → View
  hidden : View

unfoldable pub fewer : ℕ → View
fewer zero = hidden
fewer (suc n) = lists n

unfoldable pub within : View → ℕ → View
within all k = all
within (lists n) k = elim (eqb k 3) [ true ↦ fewer n | false ↦ lists n ]
within hidden k = hidden

unfoldable pub view : View → ℕ → View
view s k = elim (starts_node k) [ true ↦ lists 2 | false ↦ elim (eqb k 2) [ true ↦ all | false ↦ within s k ] ]

unfoldable pub show : View → Rec → List Rec → List Rec
show all r rs = r ∷ rs
show (lists n) r rs = r ∷ rs
show hidden r rs = rs

-- the records without nodes' locals, equations and probes
unfoldable pub shown : View → List Rec → List Rec
shown s [] = []
shown s (r ∷ rs) = show (view s r.kind) r (shown (view s r.kind) rs)
