-- Rows of words that are written out, computed; and words that show the equation x = x. Assumes nothing.
use Prim.Native.Nat.{ℕ, ◌<◌}
use native.Mathlib.Omega.{arith}
use mathlib.Core.Path.{◌≡◌, refl, sym, ◌∙◌, ap}
use mathlib.Core.Bool.{Bool, ◌||◌}
use mathlib.Core.List.Memᴰ
use mathlib.Core.List.{List, [], ◌∷◌}
use lib.ListN.{replicate}
use lib.Dec.{eqb}
use borrow.Author.Tests.{eqb-true, eq-eqb}
use Rattle.lustre.specs.Name.{Name, ◌is◌}
use Rattle.lustre.specs.Expr.{var}
use Rattle.lustre.specs.Project.{Equation}
use Rattle.lustre.specs.Computes.{computes}
use Rattle.demands.proofs.Sets.{mem_in}
use Rattle.demands.proofs.Orders.{is_test}
use Rattle.loops.specs.Rows.{bit, has, passing, row_from, row, Connected, Joined}
use Rattle.loops.specs.Search.{Shows}
use Rattle.loops.proofs.Stores.{zeros_empty}

-- bits 2, 0 and 2 of the first three words are the names 2, 64 and 130
pub first_row : row (4 ∷ 1 ∷ 4 ∷ []) 0 ≡ 2 ∷ 64 ∷ 130 ∷ []
unfolding row_from passing has bit
first_row = refl

-- row 1 starts at the ninth word, and name 511 is the highest bit of a row's last word
pub second_row : row (1 ∷ 0 ∷ 0 ∷ 0 ∷ 0 ∷ 0 ∷ 0 ∷ 0 ∷ 3 ∷ 0 ∷ 0 ∷ 0 ∷ 0 ∷ 0 ∷ 0 ∷ 9223372036854775808 ∷ 1 ∷ []) 1 ≡ 0 ∷ 1 ∷ 511 ∷ []
unfolding row_from passing has bit
second_row = refl

-- The equation x = x in a fresh graph: its one edge and its one defined name, each by `insert` in a new set.
abbrev x : Name
x = 120 ∷ []

abbrev x_is_x : List Equation
x_is_x = record { lhs = x ∷ []; rhs = var x } ∷ []

-- after one `insert` of 0 a new set has the name 0 alone
only_zero : (ws : List ℕ) (b : ℕ) → b < 512 → Connected (replicate 8 0) 0 0 ws → has ws 0 b ≡ eqb b 0
only_zero ws b h c = c.edges 0 b h ∙ ap (λ (t : Bool). t || eqb b 0) (zeros_empty 8 0 b)

-- and so has row 0 of zeros that it is joined to
edge_zero : (graph read : List ℕ) (b : ℕ) → b < 512 → Connected (replicate 8 0) 0 0 read → Joined (replicate 4096 0) 0 read graph → has graph 0 b ≡ eqb b 0
edge_zero graph read b h c j = j.edges 0 b h ∙ ap (λ (t : Bool). t || has read 0 b) (zeros_empty 4096 0 b) ∙ only_zero read b h c

pub shown_example : (graph read defs : List ℕ) → Connected (replicate 8 0) 0 0 read → Joined (replicate 4096 0) 0 read graph → Connected (replicate 8 0) 0 0 defs
    → Shows x_is_x (λ _. x) 1 graph defs
unfolding computes
shown_example graph read defs c j d =
    record {
      few = omega arith;
      increasing = λ i j h k. absurd (omega arith);
      numbered = λ y m. (0, omega arith, sym (Memᴰ.eq_of_singleton (mem_in ◌is◌ is_test y (x ∷ []) m)));
      edges = λ a b h k.
          let at : a ≡ 0 = omega arith in
          let to : b ≡ 0 = omega arith in
          ap (λ (z : ℕ). has graph z b) at ∙ edge_zero graph read b (omega arith) c j ∙ eq-eqb b 0 to;
      edges_within = λ a b h k e.
          let at : a ≡ 0 = omega arith in
          let to : b ≡ 0 = eqb-true b 0 (sym (ap (λ (z : ℕ). has graph z b) at ∙ edge_zero graph read b k c j) ∙ e) in
          omega arith;
      starts = λ a h. let at : a ≡ 0 = omega arith in only_zero defs a (omega arith) d ∙ eq-eqb a 0 at;
      starts_within = λ a h e. let at : a ≡ 0 = eqb-true a 0 (sym (only_zero defs a h d) ∙ e) in omega arith;
    }
