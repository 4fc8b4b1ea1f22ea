-- More fuel than there are names changes nothing of a walk: a path has each name at most once, so that the names off it bound how deep the
-- walk goes. Assumes nothing.
use Prim.Native.Nat.{ℕ, zero, suc, ◌+◌, ◌≤◌}
use native.Mathlib.Omega.{arith}
use mathlib.Core.Path.{◌≡◌, refl, sym, ◌∙◌, ap}
use mathlib.Core.Logic.{⊎_elim}
use mathlib.Core.Bool.{Bool, true, false}
use mathlib.Core.List.{List, [], ◌∷◌, ◌++◌}
use lib.ListN.{length}
use Rattle.lustre.specs.Name.{mem}
use Rattle.lustre.specs.Walk.{Search, found, clear, more, after, starts, scan, enter, walk}
use Rattle.demands.proofs.Sets.{split, Test, mem_later, mem_self, mem_snoc, left, left_drop}
use Rattle.demands.proofs.Clauses.{Going, scan_going, starts_going}

after_same : {A : Type 0} (o : Search A) (go go' : List A → Search A) → ((cl : List A) → go' cl ≡ go cl) → after o go' ≡ after o go
unfolding after
after_same (found c n) go go' h = refl
after_same (clear cl n) go go' h = ap (more n) (h cl)

module _ {A : Type 0} (eq : A → A → Bool) (ok : Test eq) (rec rec' : List A → A → List A → Search A) (path : List A) (k : ℕ) (go go' : List A → List A → Search A) where
  -- two that enter names alike go through names alike
  going_same : Going eq rec path k go → Going eq rec' path k go' → (todo cl : List A)
      → ((t : A) (cl : List A) → mem eq t todo ≡ true → mem eq t path ≡ false → rec' path t cl ≡ rec path t cl) → go' todo cl ≡ go todo cl
  going_same g g' [] cl h = g'.ends cl ∙ sym (g.ends cl)
  going_same g g' (s ∷ ss) cl h =
      let rest : (cl : List A) → go' ss cl ≡ go ss cl = λ cl. going_same g g' ss cl (λ t cl m. h t cl (mem_later eq t s ss m)) in
      ⊎_elim
      (λ e. g'.loop s ss cl e ∙ sym (g.loop s ss cl e))
      (λ e.
      ⊎_elim
      (λ i. g'.skip s ss cl e i ∙ ap (more k) (rest cl) ∙ sym (g.skip s ss cl e i))
      (λ i.
      g'.entry s ss cl e i
      ∙ ap (λ (o : Search A). more k (after o (λ cl₁. go' ss (s ∷ cl₁)))) (h s cl (mem_self eq ok s ss) e)
      ∙ ap (more k) (after_same (rec path s cl) (λ cl₁. go ss (s ∷ cl₁)) (λ cl₁. go' ss (s ∷ cl₁)) (λ cl₁. rest (s ∷ cl₁)))
      ∙ sym (g.entry s ss cl e i))
      (split (mem eq s cl)))
      (split (mem eq s path))

module _ {A : Type 0} (eq : A → A → Bool) (ok : Test eq) (succ : A → List A) (univ : List A) (into : (x y : A) → mem eq x univ ≡ true → mem eq y (succ x) ≡ true → mem eq y univ ≡ true) where
  -- how many names are not on the path
  abbrev off : List A → ℕ
  off path = left (λ (_ : A). 1) (λ (x : A). mem eq x path) univ

  off_all : (u : List A) → left (λ (_ : A). 1) (λ (x : A). mem eq x []) u ≡ length u
  unfolding left mem
  off_all [] = refl
  off_all (x ∷ u) = let ih = off_all u in omega arith

  off_less : (path : List A) (s : A) → mem eq s path ≡ false → mem eq s univ ≡ true → 1 + off (path ++ (s ∷ [])) ≤ off path
  off_less path s e u =
      left_drop
      (λ (_ : A). 1)
      eq
      ok
      (λ (x : A). mem eq x path)
      (λ (x : A). mem eq x (path ++ (s ∷ [])))
      (λ x m. mem_snoc eq x s path ∙ mem_later eq x s path m)
      s
      e
      (mem_snoc eq s s path ∙ mem_self eq ok s path)
      univ
      u

  enter_fuel : (f k : ℕ) (path : List A) (s : A) (cl : List A) → mem eq s path ≡ false → mem eq s univ ≡ true → off path ≤ f → enter eq succ (f + k) path s cl ≡ enter eq succ f path s cl
  unfolding enter
  enter_fuel zero k path s cl e u b = absurd (omega (arith, off_less path s e u))
  enter_fuel (suc f) k path s cl e u b =
      let on : List A = path ++ (s ∷ []) in
      let more_fuel : suc f + k ≡ suc (f + k) = omega arith in
      ap (λ (m : ℕ). enter eq succ m path s cl) more_fuel
      ∙ going_same
      eq
      ok
      (enter eq succ f)
      (enter eq succ (f + k))
      on
      1
      (scan eq (enter eq succ f) on)
      (scan eq (enter eq succ (f + k)) on)
      (scan_going eq (enter eq succ f) on)
      (scan_going eq (enter eq succ (f + k)) on)
      (succ s)
      cl
      (λ t cl₁ m n. enter_fuel f k on t cl₁ n (into s t u m) (omega (arith, off_less path s e u)))

  pub walk_fuel : (vs : List A) → ((t : A) → mem eq t vs ≡ true → mem eq t univ ≡ true) → (k : ℕ) → walk eq succ (length univ + k) vs ≡ walk eq succ (length univ) vs
  unfolding walk
  walk_fuel vs within k =
      let f : ℕ = length univ in
      going_same
      eq
      ok
      (enter eq succ f)
      (enter eq succ (f + k))
      []
      0
      (starts eq (enter eq succ f))
      (starts eq (enter eq succ (f + k)))
      (starts_going eq (enter eq succ f))
      (starts_going eq (enter eq succ (f + k)))
      vs
      []
      (λ t cl m n. enter_fuel f k [] t cl n (within t m) (omega (arith, off_all univ)))
