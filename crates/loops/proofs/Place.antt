-- Where the loop that a path ends with starts.
-- Assumes nothing.
use Rattle.std.specs.Prelude.{Option, Some, MatchOption}
use Rattle.std.specs.List.{HoldsAt, AllWithin}
use Prim.Native.Nat.{ℕ, zero, suc, ◌-◌, ◌≤◌, ◌<◌, zero-le}
use native.Mathlib.Omega.{arith}
use mathlib.Core.Path.{◌≡◌, sym, ◌∙◌}
use mathlib.Core.List.{List, [], ◌∷◌}
use lib.ListN.{length, get_or, take, drop}
use lib.Seq.{length-take-le}
use lib.Dec.{eqb}
use borrow.Author.Tests.{eq-eqb, ne_eqb}
use Rattle.lustre.specs.Walk.{from_first}
use Rattle.demands.proofs.Sets.{from_eq, from_ne}
use Rattle.loops.specs.Steps.{Places}

-- the part from the first place of a number on
pub from_place : (x : ℕ) (l : List ℕ) (i : ℕ) → i < length l → get_or l i 0 ≡ x → ((k : ℕ) → k < i → get_or l k 0 ≡ x → ⊥) → drop i l ≡ from_first eqb x l
from_place x [] i b e n = absurd (omega arith)
from_place x (y ∷ l) zero b e n = sym (from_eq eqb x y l (eq-eqb x y (sym e)))
from_place x (y ∷ l) (suc i) b e n =
    from_place x l i (omega arith) e (λ k h. n (suc k) (omega arith)) ∙ sym (from_ne eqb x y l (ne_eqb x y (λ q. n 0 (omega arith) (sym q))))

-- the first place of the path's last name is where its loop starts
pub placed : {path : List ℕ} {end : ℕ} {r : Option ℕ} {start : ℕ} → end ≤ length path → r ≡ Some start
    → let x = get_or path (end - 1) 0 in let l = take end path in
    MatchOption r (AllWithin (λ y. y ≡ x → ⊥) l 0 (length l)) (λ i. (i < length l) × HoldsAt (λ y. y ≡ x) l i × AllWithin (λ y. y ≡ x → ⊥) l 0 i)
    → Places path end start
placed {path} {end} {r} {start} within e h =
    let f = rw e at h in
    record {
      before = omega (arith, length-take-le end path within, f.0);
      loop = from_place (get_or path (end - 1) 0) (take end path) start f.0 (f.1 0) (λ k b. f.2 k 0 zero-le b);
    }
