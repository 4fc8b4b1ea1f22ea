-- The steps of `clear_rows`: the rows of the names of a set, cleared one after another.
-- Assumes nothing.
use Prim.Native.Nat.{ℕ, ◌+◌, ◌-◌, ◌≤◌, ◌<◌}
use native.Mathlib.Omega.{arith}
use mathlib.Core.Path.{◌≡◌, refl, sym, ◌∙◌, ap, subst}
use mathlib.Core.Logic.{⊎_elim}
use mathlib.Core.Bool.{Bool, false, not, ◌&&◌, and-true, and-false}
use mathlib.Core.List.{List, [], Memᴰ}
use lib.Dec.{ltb}
use borrow.Author.Tests.{eq-eqb, ne_eqb, ltb-true, ltb-false}
use Rattle.demands.proofs.Sets.{mustnt, split}
use Rattle.demands.proofs.Eaches.{each_member}
use Rattle.demands.specs.Reading.{Each}
use Rattle.loops.specs.Rows.{has, row_from, First, Emptied, Cleared}
use Rattle.loops.proofs.Rows.{same_or, passing_each, passing_in}

-- a row that has no name in its list has none
no_names : (ws : List ℕ) (a j : ℕ) (P : ℕ → Type 0) (l : List ℕ) → row_from ws a j ≡ l → Each P l → (x : ℕ) → j ≤ x → x < 512 → (P x → ⊥) → has ws a x ≡ false
unfolding row_from
no_names ws a j P l e each x low high n =
    mustnt (has ws a x) (λ t. n (each_member P l x (subst (λ (l : List ℕ). Memᴰ x l) e (passing_in (has ws a) (512 - j) j x low (omega arith) t)) each))

-- between a place and the first name there is none
first_skips : {ws : List ℕ} {a j r : ℕ} → First ws a j r → (x : ℕ) → j ≤ x → x < r → has ws a x ≡ false
unfolding row_from
first_skips {ws} {a} {j} {r} h x low k =
    no_names ws a j (λ (b : ℕ). r ≤ b) (row_from ws a r) h.rest (passing_each (has ws a) (λ (b : ℕ). r ≤ b) (512 - r) r (λ b p q t. p)) x low (omega (arith, h.name)) (λ q. omega arith)

-- what the loop keeps: the rows of the names below a are cleared
pub record Clearing (ws names ws' : List ℕ) (a : ℕ) : Type 0 where
  pub done : (x y : ℕ) → x < a → y < 512 → has ws' x y ≡ (has ws x y && not (has names 0 x))
  pub kept : (x y : ℕ) → a ≤ x → y < 512 → has ws' x y ≡ has ws x y

-- a row that is no name's stays
uncleared : {b : Bool} (t : Bool) → b ≡ false → t ≡ (t && not b)
uncleared t e = sym (ap (λ (u : Bool). t && not u) e ∙ and-true t)

pub clearing_start : (ws names : List ℕ) → Clearing ws names ws 0
clearing_start ws names = record { done = λ x y l k. absurd (omega arith); kept = λ x y l k. refl }

module _ {ws names ws' ws'' : List ℕ} {a b : ℕ} (c : Clearing ws names ws' a) (n : First names 0 a b) (e : Emptied ws' b ws'') where
  -- another row stays as it is
  other : (x y : ℕ) → (x ≡ b → ⊥) → y < 512 → has ws'' x y ≡ has ws' x y
  other x y m k = e.edges x y k ∙ ap (λ (t : Bool). has ws' x y && not t) (ne_eqb x b m) ∙ and-true (has ws' x y)

  -- row b is empty
  emptied : (y : ℕ) → y < 512 → has ws'' b y ≡ (has ws b y && not (has names 0 b))
  emptied y k =
      e.edges b y k ∙ ap (λ (t : Bool). has ws' b y && not t) (eq-eqb b b refl) ∙ and-false (has ws' b y)
      ∙ sym (ap (λ (t : Bool). has ws b y && not t) n.there ∙ and-false (has ws b y))

  -- a row between a and the name
  between : (x y : ℕ) → x < b → y < 512 → a ≤ x → has ws'' x y ≡ (has ws x y && not (has names 0 x))
  between x y p k m = other x y (λ q. omega arith) k ∙ c.kept x y m k ∙ uncleared (has ws x y) (first_skips n x m p)

  pub clearing_more : Clearing ws names ws'' (b + 1)
  clearing_more =
      record {
        done = λ x y p k.
            ⊎_elim
            (λ (q : x ≡ b). subst (λ (z : ℕ). has ws'' z y ≡ (has ws z y && not (has names 0 z))) (sym q) (emptied y k))
            (λ (m : x ≡ b → ⊥). ⊎_elim (λ t. other x y m k ∙ c.done x y (ltb-true x a t) k) (λ t. between x y (omega (arith, m)) k (ltb-false x a t)) (split (ltb x a)))
            (same_or x b);
        kept = λ x y p k. (let t = n.after in other x y (λ q. omega arith) k ∙ c.kept x y (omega arith) k);
      }

pub clearing_done : {ws names ws' : List ℕ} {a : ℕ} → row_from names 0 a ≡ [] → Clearing ws names ws' a → Cleared ws names ws'
clearing_done {ws} {names} {ws'} {a} h c =
    record {
      edges = λ x y l k.
          ⊎_elim
          (λ t. c.done x y (ltb-true x a t) k)
          (λ t. c.kept x y (ltb-false x a t) k ∙ uncleared (has ws x y) (no_names names 0 a (λ _. ⊥) [] h tt x (ltb-false x a t) l (λ q. q)))
          (split (ltb x a));
    }
