-- The walk ends where the tree that stands at a position does, and where it ends a tree stands: a law for each answer of `part_end`.
-- Assumes nothing.
use mathlib.Core.Path.{◌≡◌, refl, ap, sym, subst, ◌∙◌}
use mathlib.Core.List.{List, [], ◌∷◌}
use Prim.Native.Nat.{ℕ, ◌+◌, ◌≤◌}
use native.Mathlib.Omega.{arith}
use lib.ListN.{length, drop}
use Rattle.lustre.specs.Name.{Name}
use Rattle.lustre.specs.Records.{Rec, spell}
use Rattle.lustre.specs.Grammar.{Class, Tree, Got, got, stuck}
use Rattle.demands.specs.Reading.{reads}
use Rattle.demands.proofs.ReadBack.{reads_back}
use Rattle.demands.proofs.Reading.{flattens_back}
use Rattle.std.proofs.Common.{Option, None, Result, Ok, Err}
use Rattle.std.specs.Result.{IsOk}
use Rattle.records.specs.Places.{Walk, go, walk_to, Passed}
use Rattle.records.specs.Stands.{Stands, PartAt, EndOf}
use Rattle.records.specs.declared.Reached.{Reached}
use Rattle.records.proofs.Agree.{Match, go_agree}
use Rattle.records.proofs.Parts.{size_of, left_from, tidy_from, stands_first}
use Rattle.records.proofs.Passes.{one_passed}

-- a walk that matches the reader's end
ends_at : {A : Type 0} (n : ℕ) (r : Walk) (a : A) (k : List Rec) (end : ℕ) → Match n r (got a k) → end + length k ≡ n → (d : Option ℕ) × (r ≡ Ok (record { next = end; deep = d }))
ends_at n (Ok r) a k end m q = (r.deep, ap (λ (i : ℕ). Ok (record { next = i; deep = r.deep })) (omega arith))
ends_at n (Err p) a k end m q = absurd m

module _ (ρ : ℕ → Name) (ks ws : List ℕ) (same : length ks ≡ length ws) (c : Class) (l at : ℕ) (deep : Option ℕ) where
  abbrev rs : List Rec
  rs = drop at (spell ρ ks ws)

  -- a tree that stands at a position ends where the walk does
  pub ends_there : (v : Tree c) (end : ℕ) → Stands ρ ks ws c v at end → (d : Option ℕ) × (go ks ws ((c, l) ∷ []) at deep ≡ Ok (record { next = end; deep = d }))
  ends_there v end s =
      let k = drop end (spell ρ ks ws) in
      let q : reads c rs ≡ got v k = ap (reads c) s.flat ∙ reads_back c v k s.writable in
      ends_at (at + length rs) _ v k end (subst (Match (at + length rs) (go ks ws ((c, l) ∷ []) at deep)) q (go_agree ρ ks ws c l at deep)) (omega (arith, left_from ρ ks ws same at, left_from ρ ks ws same end, s.before, s.within))

  -- where the walk ends a tree stands
  pub stands_there : at ≤ length ks → (e : ℕ) (d : Option ℕ) → go ks ws ((c, l) ∷ []) at deep ≡ Ok (record { next = e; deep = d }) → (v : Tree c) × Stands ρ ks ws c v at e
  stands_there h e d q = by (reads c rs) refl (subst (λ (r : Walk). Match (at + length rs) r (reads c rs)) q (go_agree ρ ks ws c l at deep))
    where
      by : (g : Got (Tree c)) → reads c rs ≡ g → Match (at + length rs) (Ok (record { next = e; deep = d })) g → (v : Tree c) × Stands ρ ks ws c v at e
      by (got v rest) p m =
          let f = flattens_back c rs v rest (tidy_from ρ ks ws same at) p in
          let s = stands_first ρ ks ws same c v at rest f.0 h f.1 in
          let i : at + size_of c v ≡ e = (let j : e + length rest ≡ at + length rs = m in omega (arith, ap length s.1, left_from ρ ks ws same (at + size_of c v), left_from ρ ks ws same at, s.0.within)) in
          (v, subst (Stands ρ ks ws c v at) i s.0)
      by (stuck rest) p m = absurd m

-- a tree stands at a position under every numbering of names, or under none
pub stands_under : (ρ σ : ℕ → Name) (ks ws : List ℕ) → length ks ≡ length ws → (c : Class) (v : Tree c) (at end : ℕ) → Stands ρ ks ws c v at end → (w : Tree c) × Stands σ ks ws c w at end
stands_under ρ σ ks ws same c v at end s = let q = ends_there ρ ks ws same c 1 at None v end s in stands_there σ ks ws same c 1 at None (omega (arith, s.before, s.within)) end q.0 q.1

-- a walk that ends has said that all could stand
said_ok : (e : Reached) (s : Result (Unit {0}) ℕ) (d : Reached) → walk_to e s ≡ Ok d → IsOk s
said_ok e (Ok u) d q = refl
said_ok e (Err p) d q = cc

module _ (ks ws : List ℕ) (c : Class) (at : ℕ) (a : PartAt ks ws c at) (e : Reached) (s : Result (Unit {0}) ℕ) (p : Passed ks ws ((c, 1) ∷ []) at None (at + 1) (walk_to e s)) where
  walked : go ks ws ((c, 1) ∷ []) at None ≡ walk_to e s
  walked = one_passed ks ws (c, 1) at None (at + 1) (walk_to e s) p

  -- the walk ends where a tree that stands there does
  walk_ends : (ρ : ℕ → Name) (v : Tree c) (end : ℕ) → Stands ρ ks ws c v at end → (d : Option ℕ) × (walk_to e s ≡ Ok (record { next = end; deep = d }))
  walk_ends ρ v end t = let w = ends_there ρ ks ws a.same c 1 at None v end t in (w.0, sym walked ∙ w.1)

  pub ended : (u : Unit {0}) → s ≡ Ok u → EndOf ks ws c at e.next
  ended u q ρ v end t = let z = (walk_ends ρ v end t).1 in let y = ap (walk_to e) q in cc

  pub ends : IsOk s
  ends = said_ok e s _ (walk_ends (λ n. []) a.tree a.end a.stands).1
