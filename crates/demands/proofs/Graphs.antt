-- Closed paths of edges, and lists in which each name stands before its successors: the facts of graphs that Search.antt leans on.
-- Assumes nothing.
use Prim.Native.Nat.{ℕ, zero, suc}
use mathlib.Core.Path.{◌≡◌, refl, sym, ◌∙◌, ap, subst}
use mathlib.Core.Logic.{⊎_elim}
use mathlib.Core.Bool.{Bool, true, false, true≢false}
use mathlib.Core.List.{List, [], ◌∷◌, ◌++◌}
use mathlib.Core.Option.{Option, none}
use Rattle.lustre.specs.Name.{mem}
use Rattle.lustre.specs.Walk.{from_first, closing, first_path, rust_scan, rust_dfs}
use Rattle.demands.proofs.Sets.{clash, split, mustnt, Test, mem_ne, mem_later, mem_snoc, mem_self, mem_cases, from_eq, from_ne}

-- a path and a list have no name in common
abbrev pub Apart : {A : Type 0} → (A → A → Bool) → List A → List A → Type 0
Apart {A} eq path cl = (x : A) → mem eq x path ≡ true → mem eq x cl ≡ false

module _ {A : Type 0} (eq : A → A → Bool) (succ : A → List A) where
  -- each step from x along l is an edge
  unfoldable pub Chain : A → List A → Type 0
  Chain x [] = Unit {0}
  Chain x (y ∷ l) = (mem eq y (succ x) ≡ true) × Chain y l

  unfoldable pub Steps : List A → Type 0
  Steps [] = Unit {0}
  Steps (x ∷ l) = Chain x l

  -- a closed path of edges: its first name is its last, it has at least two names, and each step is an edge
  pub record Loop (c : List A) : Type 0 where
    pub first : A
    pub between : List A
    pub shape : c ≡ first ∷ (between ++ (first ∷ []))
    pub steps : Chain first (between ++ (first ∷ []))

  -- a list of names, none twice, each before all its successors' places
  unfoldable pub Topo : List A → Type 0
  Topo [] = Unit {0}
  Topo (x ∷ cl) = ((y : A) → mem eq y (succ x) ≡ true → mem eq y cl ≡ true) × (mem eq x cl ≡ false) × Topo cl

  chain_snoc : (x : A) (l : List A) (s t : A) → Chain x (l ++ (s ∷ [])) → mem eq t (succ s) ≡ true → Chain x ((l ++ (s ∷ [])) ++ (t ∷ []))
  unfolding Chain
  chain_snoc x [] s t h e = (h.0, (e, tt))
  chain_snoc x (y ∷ l) s t h e = (h.0, chain_snoc y l s t h.1 e)

  pub steps_snoc : (l : List A) (s t : A) → Steps (l ++ (s ∷ [])) → mem eq t (succ s) ≡ true → Steps ((l ++ (s ∷ [])) ++ (t ∷ []))
  unfolding Steps Chain
  steps_snoc [] s t h e = (e, tt)
  steps_snoc (x ∷ l) s t h e = chain_snoc x l s t h e

  chain_steps : (x : A) (l : List A) → Chain x l → Steps l
  unfolding Steps Chain
  chain_steps x [] h = tt
  chain_steps x (y ∷ l) h = h.1

  module _ (ok : Test eq) where
    closing_found : (s : A) (path : List A) → mem eq s path ≡ true → Steps (path ++ (s ∷ [])) → (l : List A) × (from_first eq s path ≡ s ∷ l) × Chain s (l ++ (s ∷ []))
    unfolding mem Steps
    closing_found s [] i h = absurd (true≢false (sym i))
    closing_found s (y ∷ ys) i h =
        ⊎_elim
        (λ e.
        let q : s ≡ y = ok.same s y e in
        (ys, from_eq eq s y ys e ∙ ap (λ (z : A). z ∷ ys) (sym q), subst (λ (z : A). Chain z (ys ++ (s ∷ []))) (sym q) h))
        (λ e.
        let r = closing_found s ys (sym (mem_ne eq s y ys e) ∙ i) (chain_steps y (ys ++ (s ∷ [])) h) in
        (r.0, from_ne eq s y ys e ∙ r.1, r.2))
        (split (eq s y))

    -- a look at a name on the path closes a loop
    pub closing_loop : (s : A) (path : List A) → mem eq s path ≡ true → Steps (path ++ (s ∷ [])) → Loop (closing eq s path)
    unfolding closing
    closing_loop s path i h = let r = closing_found s path i h in record { first = s; between = r.0; shape = ap (λ (l : List A). l ++ (s ∷ [])) r.1; steps = r.2 }

    -- what is below a name of the list
    topo_below : (cl : List A) (s : A) → Topo cl → mem eq s cl ≡ true
        → (b : List A) × Topo b × ((y : A) → mem eq y (succ s) ≡ true → mem eq y b ≡ true) × (mem eq s b ≡ false) × ((y : A) → mem eq y b ≡ true → mem eq y cl ≡ true)
    unfolding mem Topo
    topo_below [] s t i = absurd (true≢false (sym i))
    topo_below (x ∷ cl) s t i =
        ⊎_elim
        (λ e. (cl, t.2, (λ y m. t.0 y (subst (λ (z : A). mem eq y (succ z) ≡ true) e m)), subst (λ (z : A). mem eq z cl ≡ false) (sym e) t.1, (λ y m. mem_later eq y x cl m)))
        (λ m. let r = topo_below cl s t.2 m in (r.0, r.1, r.2, r.3, (λ y n. mem_later eq y x cl (r.4 y n))))
        (mem_cases eq ok s x cl i)

    -- a chain from a name whose successors are all below ends below
    chain_below : (cl : List A) (x y : A) (l : List A) → Topo cl → ((z : A) → mem eq z (succ x) ≡ true → mem eq z cl ≡ true) → Chain x (l ++ (y ∷ [])) → mem eq y cl ≡ true
    unfolding Chain
    chain_below cl x y [] t h c = h y c.0
    chain_below cl x y (z ∷ l) t h c =
        let b = topo_below cl z t (h z c.0) in
        chain_below cl z y l t (λ v m. b.4 v (b.2 v m)) c.1

    -- no closed path goes through such a list
    pub topo_acyclic : (cl : List A) (x : A) (l : List A) → Topo cl → mem eq x cl ≡ true → Chain x (l ++ (x ∷ [])) → ⊥
    topo_acyclic cl x l t i c =
        let b = topo_below cl x t i in
        clash (chain_below b.0 x x l b.1 b.2 c) b.3

    rust_scan_none : (rec : List A → A → Option (List A)) (path todo : List A) → ((t : A) → mem eq t todo ≡ true → rec path t ≡ none) → rust_scan eq rec path todo ≡ none
    unfolding rust_scan first_path
    rust_scan_none rec path [] h = refl
    rust_scan_none rec path (t ∷ ts) h = rw (h t (mem_self eq ok t ts)) (rust_scan_none rec path ts (λ u m. h u (mem_later eq u t ts m)))

    -- the Rust's search finds nothing from a name that is cleared, whatever its fuel
    pub rust_cleared : (f : ℕ) (path cl : List A) (s : A) → Topo cl → Apart eq path cl → mem eq s cl ≡ true → rust_dfs eq succ f path s ≡ none
    unfolding rust_dfs
    rust_cleared zero path cl s t a i = refl
    rust_cleared (suc f) path cl s t a i =
        let b = topo_below cl s t i in
        let off : mem eq s path ≡ false = mustnt (mem eq s path) (λ m. clash i (a s m)) in
        let a' : Apart eq (path ++ (s ∷ [])) b.0 =
        λ x m.
        mustnt (mem eq x b.0) (λ n. ⊎_elim (λ e. clash (subst (λ (z : A). mem eq z b.0 ≡ true) e n) b.3) (λ q. clash (b.4 x n) (a x q)) (mem_cases eq ok x s path (sym (mem_snoc eq x s path) ∙ m))) in
        rw (off, rust_dfs) (rust_scan_none (rust_dfs eq succ f) (path ++ (s ∷ [])) (succ s) (λ u m. rust_cleared f (path ++ (s ∷ [])) b.0 u b.1 a' (b.2 u m)))
