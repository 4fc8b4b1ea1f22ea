-- Records and what `masked` makes of them, and lines and which of them may move: the definitions of request 2.13, proved by computation.
-- Assumes nothing.
use Prim.Native.Nat.{ℕ}
use mathlib.Core.Path.{◌≡◌, refl}
use mathlib.Core.Bool.{Bool, true, false}
use mathlib.Core.List.{List, [], ◌∷◌, ◌++◌, map}
use Rattle.lustre.specs.Records.{Rec}
use Rattle.lustre.specs.Grammar.{plain_rec, numbered_rec, named_rec}
use Rattle.lustre.specs.Answer.{no_value}
use Rattle.lustre.specs.Computes.{computes}
use Rattle.demands.specs.Parts.{node_part, up_to_next}
use Rattle.demands.specs.Demand3.{Said, no_name}
use Rattle.demands.specs.OneEquation.{past, mask_side, mask_in, masked, masked_all, is_imported, may_move}

-- ---- the records of a project, with places for four right-hand sides

-- names a, b, c
abbrev a : List ℕ
a = 97 ∷ []

abbrev b : List ℕ
b = 98 ∷ []

abbrev c : List ℕ
c = 99 ∷ []

-- a list of so many, and a node's three lists of no ports
abbrev of : ℕ → Rec
of n = numbered_rec 3 n

abbrev no_ports : List Rec
no_ports = of 0 ∷ of 0 ∷ of 0 ∷ []

-- a constant with a value; an operator with a local, the equations `a = s` and `(a, b) = t`, and a probe; a function of the equation `() = u`;
-- and in another package an imported node of the equation `c = v`
abbrev model : List Rec → List Rec → List Rec → List Rec → List Rec
model s t u v =
    (numbered_rec 1 2 ∷ named_rec 2 a ∷ of 0 ∷ of 1 ∷ named_rec 9 c ∷ plain_rec 20 ∷ numbered_rec 40 1 ∷ of 2 ∷ [])
    ++ (named_rec 11 a ∷ of 0 ∷ of 0 ∷ of 1 ∷ named_rec 7 b ∷ numbered_rec 32 2 ∷ plain_rec 20 ∷ of 2 ∷ [])
    ++ (plain_rec 13 ∷ of 1 ∷ named_rec 8 a ∷ []) ++ s
    ++ (plain_rec 13 ∷ of 2 ∷ named_rec 8 a ∷ named_rec 8 b ∷ []) ++ t ++ (of 1 ∷ named_rec 8 b ∷ [])
    ++ (named_rec 10 b ∷ no_ports) ++ (of 1 ∷ plain_rec 13 ∷ of 0 ∷ []) ++ u ++ (of 0 ∷ [])
    ++ (named_rec 2 b ∷ of 0 ∷ of 0 ∷ of 1 ∷ named_rec 12 c ∷ no_ports) ++ (of 1 ∷ plain_rec 13 ∷ of 1 ∷ named_rec 8 c ∷ []) ++ v ++ (of 0 ∷ [])

-- right-hand sides: `b(a, [1, 2])`, `if true then fold b from 1 over () else c.a`, a cast of 1 to an array, a variable; and `false`
abbrev S : List Rec
S = named_rec 70 b ∷ of 2 ∷ named_rec 44 a ∷ numbered_rec 74 2 ∷ numbered_rec 41 1 ∷ numbered_rec 41 2 ∷ []

abbrev T : List Rec
T = plain_rec 67 ∷ numbered_rec 40 1 ∷ named_rec 83 b ∷ numbered_rec 41 1 ∷ of 0 ∷ named_rec 71 a ∷ named_rec 44 c ∷ []

abbrev U : List Rec
U = plain_rec 76 ∷ numbered_rec 32 3 ∷ plain_rec 23 ∷ numbered_rec 41 1 ∷ []

abbrev W : List Rec
W = named_rec 44 b ∷ []

abbrev F : List Rec
F = numbered_rec 40 0 ∷ []

-- node, equation, and the model with that right-hand side masked
abbrev rows : List (ℕ × ℕ × List Rec)
rows =
    (0, 0, model F T U W) ∷ (0, 1, model S F U W) ∷ (1, 0, model S T F W) ∷ (2, 0, model S T U F) ∷
    (0, 2, model S T U W) ∷ (1, 1, model S T U W) ∷ (2, 1, model S T U W) ∷ (3, 0, model S T U W) ∷ []

rows_hold : map (λ (r : ℕ × ℕ × List Rec). masked r.0 r.1 (model S T U W)) rows ≡ map (λ (r : ℕ × ℕ × List Rec). r.2) rows
unfolding computes masked mask_in mask_side past
rows_hold = refl

-- several at once, in any order and with repetition
several_hold : (masked_all 0 (1 ∷ 0 ∷ 1 ∷ 7 ∷ []) (model S T U W) ≡ model F F U W) × (masked_all 0 [] (model S T U W) ≡ model S T U W)
unfolding computes masked_all masked mask_in mask_side past
several_hold = (refl, refl)

-- which nodes are imported; there is no node 3
imported_hold : map (λ (i : ℕ). is_imported (node_part i (model S T U W))) (0 ∷ 1 ∷ 2 ∷ 3 ∷ []) ≡ false ∷ false ∷ true ∷ false ∷ []
unfolding computes node_part up_to_next
imported_hold = refl

-- ---- lines: code, place kind, place number, equation, and whether the line may move where equations 3 and 5 of node 2 are edited
abbrev ln : ℕ → ℕ → ℕ → ℕ → Said
ln code place number equation = record { code = code; place = place; number = number; equation = equation; step = 0; name = no_name }

abbrev lines : List (Said × Bool)
lines =
    (ln 40 4 2 3, true) ∷ (ln 40 4 2 5, true) ∷ (ln 60 4 2 no_value, true) ∷ (ln 60 4 2 4, true) ∷ (ln 40 4 2 4, false) ∷ (ln 50 4 2 no_value, false) ∷
    (ln 51 4 2 no_value, false) ∷ (ln 40 4 3 3, false) ∷ (ln 60 4 1 no_value, false) ∷ (ln 40 3 2 3, false) ∷ (ln 2 4 2 no_value, false) ∷ []

lines_hold : map (λ (r : Said × Bool). may_move 2 (3 ∷ 5 ∷ []) r.0) lines ≡ map (λ (r : Said × Bool). r.1) lines
unfolding computes
lines_hold = refl
