-- What `walk` finds (`Walked`), from names `vs` of a universe `univ` that the successors do not leave: its path is a closed path of edges,
-- it finds one wherever there is one, its path is the Rust's, and it looks along each edge at most once. Assumes nothing.
use Prim.Native.Nat.{ℕ, zero, suc, ◌+◌, ◌≤◌, zero-le}
use native.Mathlib.Omega.{arith}
use native.Mathlib.Nat.{le_trans}
use mathlib.Core.Path.{◌≡◌, refl, sym, ◌∙◌, ap, ap₂, subst}
use mathlib.Core.Logic.{◌⊎◌, inl, inr, ⊎_elim}
use mathlib.Core.Bool.{Bool, true, false, true≢false}
use mathlib.Core.List.{List, [], ◌∷◌, ◌++◌, map}
use mathlib.Core.Option.{Option, none, some, none-ne-some, some-injective}
use lib.ListN.{length, length-append, length-map}
use Rattle.lustre.specs.Name.{mem}
use Rattle.lustre.specs.Walk.{Search, found, clear, more, after, path_of, looks_of, closing, scan, starts, enter, walk, first_path, rust_scan, rust_dfs, rust_walk}
use Rattle.demands.proofs.Sets.{clash, split, mustnt, Test, mem_later, mem_snoc, mem_self, mem_cases, left, left_less, left_drop}
use Rattle.demands.proofs.Clauses.{Going, more_none, scan_going, starts_going}
use Rattle.demands.proofs.Graphs.{Apart, Chain, Steps, Loop, Topo, steps_snoc, closing_loop, topo_acyclic, rust_cleared}

-- the edges that leave x, and those that leave the names of u
abbrev pub row : {A : Type 0} → A → List A → List (A × A)
row x = map (λ y. (x, y))

unfoldable pub pairs : {A : Type 0} → (A → List A) → List A → List (A × A)
pairs succ [] = []
pairs succ (x ∷ u) = row x (succ x) ++ pairs succ u

pub record Walked {A : Type 0} (eq : A → A → Bool) (succ : A → List A) (univ vs : List A) (f : ℕ) : Type 0 where
  -- a path that is found is a closed path of edges
  pub loop : (c : List A) → path_of (walk eq succ f vs) ≡ some c → Loop eq succ c
  -- where there is a closed path, one is found
  pub finds : (c : List A) → Loop eq succ c → path_of (walk eq succ f vs) ≡ none → ⊥
  -- the path is the Rust's
  pub rust : rust_walk eq succ (suc f) vs ≡ path_of (walk eq succ f vs)
  -- each edge is looked along at most once
  pub looks : looks_of (walk eq succ f vs) ≤ length (pairs succ univ)

module _ {A : Type 0} (eq : A → A → Bool) where
  -- a name is taken where it is on the path or cleared
  unfoldable taken : List A → List A → A → Bool
  taken path cl x = elim (mem eq x path) [ true ↦ true | false ↦ mem eq x cl ]

  taken_path : (path cl : List A) (x : A) → mem eq x path ≡ true → taken path cl x ≡ true
  unfolding taken
  taken_path path cl x e = rw (e, taken)

  taken_off : (path cl : List A) (x : A) → mem eq x path ≡ false → taken path cl x ≡ mem eq x cl
  unfolding taken
  taken_off path cl x e = rw (e, taken)

  taken_clear : (path cl : List A) (x : A) → mem eq x cl ≡ true → taken path cl x ≡ true
  taken_clear path cl x i = ⊎_elim (λ e. taken_path path cl x e) (λ e. taken_off path cl x e ∙ i) (split (mem eq x path))

  taken_cases : (path cl : List A) (x : A) → taken path cl x ≡ true → (mem eq x path ≡ true) ⊎ (mem eq x cl ≡ true)
  taken_cases path cl x i = ⊎_elim (λ e. inl e) (λ e. inr (sym (taken_off path cl x e) ∙ i)) (split (mem eq x path))

  -- `go` looks at each of a list of names behind the path: k looks a name, in all at most `most`
  record Goes (rec : List A → A → List A → Search A) (path : List A) (k : ℕ) (most : List A → ℕ) (go : List A → List A → Search A) : Type 0 where
    clauses : Going eq rec path k go
    cost : (s : A) (ss : List A) → k + most ss ≤ most (s ∷ ss)

  scan_goes : (rec : List A → A → List A → Search A) (path : List A) → Goes rec path 1 length (scan eq rec path)
  scan_goes rec path = record { clauses = scan_going eq rec path; cost = λ s ss. omega arith }

  starts_goes : (rec : List A → A → List A → Search A) → Goes rec [] 0 (λ _. 0) (starts eq rec)
  starts_goes rec = record { clauses = starts_going eq rec; cost = λ s ss. omega arith }

  edges_all : (succ : A → List A) (u : List A) → left (λ (x : A). length (succ x)) (taken [] []) u ≡ length (pairs succ u)
  unfolding left taken mem pairs
  edges_all succ [] = refl
  edges_all succ (x ∷ u) = ap₂ ◌+◌ (sym (length-map (succ x) (λ y. (x, y)))) (edges_all succ u) ∙ sym (length-append (row x (succ x)) (pairs succ u))

module _ {A : Type 0} (eq : A → A → Bool) (ok : Test eq) (succ : A → List A) (univ : List A) where
  -- how many edges leave the names that are left
  abbrev edges : List A → List A → ℕ
  edges path cl = left (λ (x : A). length (succ x)) (taken eq path cl) univ

  -- where a search may start: the fuel is at least the names that are left
  record Ready (f : ℕ) (path cl : List A) : Type 0 where
    topo : Topo eq succ cl
    apart : Apart eq path cl
    fuel : left (λ (_ : A). 1) (taken eq path cl) univ ≤ f

  record Todo (path todo : List A) : Type 0 where
    within : (t : A) → mem eq t todo ≡ true → mem eq t univ ≡ true
    steps : (t : A) → mem eq t todo ≡ true → Steps eq succ (path ++ (t ∷ []))

  -- a search came upon the path c after n looks of at most `most`, and `r` is the Rust's answer
  record Found (most : ℕ) (r : Option (List A)) (c : List A) (n : ℕ) : Type 0 where
    loop : Loop eq succ c
    looks : n ≤ most
    rust : r ≡ some c

  -- a search cleared the names of `todo` behind the path; before it `cl` was cleared, after it `cl'`
  record Cleared (path todo cl : List A) (most : ℕ) (r : Option (List A)) (cl' : List A) (n : ℕ) : Type 0 where
    topo : Topo eq succ cl'
    apart : Apart eq path cl'
    grows : (x : A) → mem eq x cl ≡ true → mem eq x cl' ≡ true
    all : (t : A) → mem eq t todo ≡ true → mem eq t cl' ≡ true
    looks : n + edges path cl' ≤ most
    rust : r ≡ none

  abbrev Entered : ℕ → List A → A → List A → Search A → Type 0
  Entered f path s cl (found c n) = Found (edges path cl) (rust_dfs eq succ (suc f) path s) c n
  Entered f path s cl (clear cl' n) = Cleared path (s ∷ []) cl (edges path cl) (rust_dfs eq succ (suc f) path s) (s ∷ cl') n

  abbrev Gone : ℕ → List A → List A → List A → ℕ → Search A → Type 0
  Gone f path todo cl b (found c n) = Found (b + edges path cl) (rust_scan eq (rust_dfs eq succ (suc f)) path todo) c n
  Gone f path todo cl b (clear cl' n) = Cleared path todo cl (b + edges path cl) (rust_scan eq (rust_dfs eq succ (suc f)) path todo) cl' n

  -- more names cleared: more taken
  taken_more : (path cl cl' : List A) → ((x : A) → mem eq x cl ≡ true → mem eq x cl' ≡ true) → (x : A) → taken eq path cl x ≡ true → taken eq path cl' x ≡ true
  taken_more path cl cl' h x i = ⊎_elim (λ e. taken_path eq path cl' x e) (λ e. taken_clear eq path cl' x (h x e)) (taken_cases eq path cl x i)

  -- one longer path: more taken
  taken_longer : (path cl : List A) (s x : A) → taken eq path cl x ≡ true → taken eq (path ++ (s ∷ [])) cl x ≡ true
  taken_longer path cl s x i =
      ⊎_elim (λ e. taken_path eq (path ++ (s ∷ [])) cl x (mem_snoc eq x s path ∙ mem_later eq x s path e)) (λ e. taken_clear eq (path ++ (s ∷ [])) cl x e) (taken_cases eq path cl x i)

  last_on : (path : List A) (s : A) → mem eq s (path ++ (s ∷ [])) ≡ true
  last_on path s = mem_snoc eq s s path ∙ mem_self eq ok s path

  -- the path's last name goes over to the cleared ones
  taken_moved : (path cl : List A) (s x : A) → taken eq (path ++ (s ∷ [])) cl x ≡ true → taken eq path (s ∷ cl) x ≡ true
  taken_moved path cl s x i =
      ⊎_elim
      (λ e.
      ⊎_elim
      (λ q. taken_clear eq path (s ∷ cl) x (subst (λ (z : A). mem eq z (s ∷ cl) ≡ true) (sym q) (mem_self eq ok s cl)))
      (λ q. taken_path eq path (s ∷ cl) x q)
      (mem_cases eq ok x s path (sym (mem_snoc eq x s path) ∙ e)))
      (λ e. taken_clear eq path (s ∷ cl) x (mem_later eq x s cl e))
      (taken_cases eq (path ++ (s ∷ [])) cl x i)

  -- `rec` enters a name as it should, with fuel f
  abbrev Good : ℕ → (List A → A → List A → Search A) → Type 0
  Good f rec =
      (path : List A) (s : A) (cl : List A) → Ready f path cl → mem eq s path ≡ false → mem eq s cl ≡ false → mem eq s univ ≡ true → Steps eq succ (path ++ (s ∷ []))
      → Entered f path s cl (rec path s cl)

  module _ (f : ℕ) (path : List A) (s : A) (ss cl : List A) where
    rust_cons : (o : Option (List A)) → rust_dfs eq succ (suc f) path s ≡ o → rust_scan eq (rust_dfs eq succ (suc f)) path (s ∷ ss) ≡ first_path o (rust_scan eq (rust_dfs eq succ (suc f)) path ss)
    unfolding rust_scan
    rust_cons o e = ap (λ (p : Option (List A)). first_path p (rust_scan eq (rust_dfs eq succ (suc f)) path ss)) e

    module _ (k b b' : ℕ) (cost : k + b ≤ b') where
      -- a look at s closes a loop
      loop_gone : mem eq s path ≡ true → Steps eq succ (path ++ (s ∷ [])) → Found (b' + edges path cl) (rust_scan eq (rust_dfs eq succ (suc f)) path (s ∷ ss)) (closing eq s path) k
      unfolding rust_dfs first_path
      loop_gone e h = record { loop = closing_loop eq succ ok s path e h; looks = omega arith; rust = rust_cons (some (closing eq s path)) (rw (e, rust_dfs)) }

      -- s is cleared, in n looks, so that cl₁ is cleared, and what follows it is looked at
      clear_gone : (cl₁ : List A) (n : ℕ) → Cleared path (s ∷ []) cl (edges path cl) (rust_dfs eq succ (suc f) path s) cl₁ n
          → (o : Search A) → Gone f path ss cl₁ b o → Gone f path (s ∷ ss) cl b' (more k (more n o))
      unfolding more first_path
      clear_gone cl₁ n q (found c m) p = record { loop = p.loop; looks = omega (arith, p.looks, q.looks); rust = rust_cons none q.rust ∙ p.rust }
      clear_gone cl₁ n q (clear cl' m) p =
          record {
            topo = p.topo;
            apart = p.apart;
            grows = λ x i. p.grows x (q.grows x i);
            all = λ t i. ⊎_elim (λ e. subst (λ (z : A). mem eq z cl' ≡ true) (sym e) (p.grows s (q.all s (mem_self eq ok s [])))) (λ r. p.all t r) (mem_cases eq ok t s ss i);
            looks = omega (arith, p.looks, q.looks);
            rust = rust_cons none q.rust ∙ p.rust;
          }

      -- s is cleared already
      skip_gone : Ready f path cl → mem eq s cl ≡ true → (o : Search A) → Gone f path ss cl b o → Gone f path (s ∷ ss) cl b' (more k o)
      unfolding mem
      skip_gone r i o p =
          let q : Cleared path (s ∷ []) cl (edges path cl) (rust_dfs eq succ (suc f) path s) cl 0 =
          record {
            topo = r.topo;
            apart = r.apart;
            grows = λ x m. m;
            all = λ t m. ⊎_elim (λ e. subst (λ (z : A). mem eq z cl ≡ true) (sym e) i) (λ m'. absurd (true≢false (sym m'))) (mem_cases eq ok t s [] m);
            looks = omega arith;
            rust = rust_cleared eq succ ok (suc f) path cl s r.topo r.apart i;
          } in
          subst (λ (o' : Search A). Gone f path (s ∷ ss) cl b' (more k o')) (more_none o) (clear_gone cl 0 q o p)

      -- s is entered
      entry_gone : (go : List A → Search A) → Ready f path cl → ((cl₁ : List A) → Ready f path (s ∷ cl₁) → Gone f path ss (s ∷ cl₁) b (go cl₁))
          → (o : Search A) → Entered f path s cl o → Gone f path (s ∷ ss) cl b' (more k (after o go))
      unfolding more after first_path
      entry_gone go r h (found c n) p = record { loop = p.loop; looks = omega (arith, p.looks); rust = rust_cons (some c) p.rust }
      entry_gone go r h (clear cl₁ n) p =
          clear_gone
          (s ∷ cl₁)
          n
          p
          (go cl₁)
          (h
          cl₁
          (record {
            topo = p.topo;
            apart = p.apart;
            fuel = le_trans (left_less (λ (_ : A). 1) (taken eq path cl) (taken eq path (s ∷ cl₁)) (taken_more path cl (s ∷ cl₁) p.grows) univ) r.fuel;
          }))

  todo_rest : (path : List A) (s : A) (ss : List A) → Todo path (s ∷ ss) → Todo path ss
  todo_rest path s ss t = record { within = λ u m. t.within u (mem_later eq u s ss m); steps = λ u m. t.steps u (mem_later eq u s ss m) }

  gone : (f : ℕ) (rec : List A → A → List A → Search A) → Good f rec
      → (path : List A) (k : ℕ) (most : List A → ℕ) (go : List A → List A → Search A) → Goes eq rec path k most go
      → (todo cl : List A) → Ready f path cl → Todo path todo → Gone f path todo cl (most todo) (go todo cl)
  unfolding mem rust_scan
  gone f rec good path k most go g [] cl r t =
      rw (g.clauses.ends cl) (record { topo = r.topo; apart = r.apart; grows = λ x m. m; all = λ u m. absurd (true≢false (sym m)); looks = omega arith; rust = refl })
  gone f rec good path k most go g (s ∷ ss) cl r t =
      let rest : (cl₁ : List A) → Ready f path cl₁ → Gone f path ss cl₁ (most ss) (go ss cl₁) = λ cl₁ r₁. gone f rec good path k most go g ss cl₁ r₁ (todo_rest path s ss t) in
      let here : mem eq s (s ∷ ss) ≡ true = mem_self eq ok s ss in
      let c : k + most ss ≤ most (s ∷ ss) = g.cost s ss in
      ⊎_elim
      (λ e. rw (g.clauses.loop s ss cl e) (loop_gone f path s ss cl k (most ss) (most (s ∷ ss)) c e (t.steps s here)))
      (λ e.
      ⊎_elim
      (λ i. rw (g.clauses.skip s ss cl e i) (skip_gone f path s ss cl k (most ss) (most (s ∷ ss)) c r i (go ss cl) (rest cl r)))
      (λ i.
      rw
      (g.clauses.entry s ss cl e i)
      (entry_gone f path s ss cl k (most ss) (most (s ∷ ss)) c (λ cl₁. go ss (s ∷ cl₁)) r (λ cl₁ r₁. rest (s ∷ cl₁) r₁) (rec path s cl) (good path s cl r e i (t.within s here) (t.steps s here))))
      (split (mem eq s cl)))
      (split (mem eq s path))

  module _ (into : (x y : A) → mem eq x univ ≡ true → mem eq y (succ x) ≡ true → mem eq y univ ≡ true) where
    -- a name that is free: its weight is what is left more before it is entered than after
    enter_drop : (w : A → ℕ) (path : List A) (s : A) (cl : List A) → mem eq s path ≡ false → mem eq s cl ≡ false → mem eq s univ ≡ true
        → w s + left w (taken eq (path ++ (s ∷ [])) cl) univ ≤ left w (taken eq path cl) univ
    enter_drop w path s cl e i u =
        left_drop
        w
        eq
        ok
        (taken eq path cl)
        (taken eq (path ++ (s ∷ [])) cl)
        (λ x h. taken_longer path cl s x h)
        s
        (taken_off eq path cl s e ∙ i)
        (taken_path eq (path ++ (s ∷ [])) cl s (last_on path s))
        univ
        u

    -- what a scan of its successors gives is what entering it gives
    entered : (f : ℕ) (path : List A) (s : A) (cl : List A) → mem eq s path ≡ false → mem eq s cl ≡ false → mem eq s univ ≡ true
        → (o : Search A) → Gone f (path ++ (s ∷ [])) (succ s) cl (length (succ s)) o → Entered (suc f) path s cl o
    unfolding rust_dfs Topo mem
    entered f path s cl e i u (found c n) p =
        record { loop = p.loop; looks = omega (arith, p.looks, enter_drop (λ (x : A). length (succ x)) path s cl e i u); rust = rw (e, rust_dfs) p.rust }
    entered f path s cl e i u (clear cl' n) p =
        let longer : (x : A) → mem eq x path ≡ true → mem eq x (path ++ (s ∷ [])) ≡ true = λ x m. mem_snoc eq x s path ∙ mem_later eq x s path m in
        record {
          topo = (p.all, p.apart s (last_on path s), p.topo);
          apart = λ x m.
              mustnt (mem eq x (s ∷ cl')) (λ h. ⊎_elim (λ q. clash (subst (λ (z : A). mem eq z path ≡ true) q m) e) (λ q. clash q (p.apart x (longer x m))) (mem_cases eq ok x s cl' h));
          grows = λ x m. mem_later eq x s cl' (p.grows x m);
          all = λ t m. ⊎_elim (λ q. subst (λ (z : A). mem eq z (s ∷ cl') ≡ true) (sym q) (mem_self eq ok s cl')) (λ m'. absurd (true≢false (sym m'))) (mem_cases eq ok t s [] m);
          looks = omega (
            arith,
            p.looks,
            enter_drop (λ (x : A). length (succ x)) path s cl e i u,
            left_less (λ (x : A). length (succ x)) (taken eq (path ++ (s ∷ [])) cl') (taken eq path (s ∷ cl')) (λ x h. taken_moved path cl' s x h) univ,
          );
          rust = rw (e, rust_dfs) p.rust;
        }

    enter_ready : (f : ℕ) (path : List A) (s : A) (cl : List A) → Ready (suc f) path cl → mem eq s path ≡ false → mem eq s cl ≡ false → mem eq s univ ≡ true → Ready f (path ++ (s ∷ [])) cl
    enter_ready f path s cl r e i u =
        record {
          topo = r.topo;
          apart = λ x m. ⊎_elim (λ q. subst (λ (z : A). mem eq z cl ≡ false) (sym q) i) (λ q. r.apart x q) (mem_cases eq ok x s path (sym (mem_snoc eq x s path) ∙ m));
          fuel = omega (arith, r.fuel, enter_drop (λ (_ : A). 1) path s cl e i u);
        }

    enter_good : (f : ℕ) → Good f (enter eq succ f)
    unfolding enter
    enter_good zero path s cl r e i u h = absurd (omega (arith, r.fuel, enter_drop (λ (_ : A). 1) path s cl e i u))
    enter_good (suc f) path s cl r e i u h =
        let on : List A = path ++ (s ∷ []) in
        let t : Todo on (succ s) = record { within = λ t m. into s t u m; steps = λ t m. steps_snoc eq succ path s t h m } in
        entered f path s cl e i u (scan eq (enter eq succ f) on (succ s) cl) (gone f (enter eq succ f) (enter_good f) on 1 length (scan eq (enter eq succ f) on) (scan_goes eq (enter eq succ f) on) (succ s) cl (enter_ready f path s cl r e i u) t)

    names_left : (b : A → Bool) (u : List A) → left (λ (_ : A). 1) b u ≤ length u
    unfolding left
    names_left b [] = zero-le
    names_left b (x ∷ u) =
        let ih : left (λ (_ : A). 1) b u ≤ length u = names_left b u in
        elim (b x) as (λ t. elim t as (λ _. ℕ) [ true ↦ left (λ (_ : A). 1) b u | false ↦ 1 + left (λ (_ : A). 1) b u ] ≤ suc (length u)) [ true ↦ omega arith | false ↦ omega arith ]

    -- the search starts from every name that has successors, with enough fuel
    module _ (vs : List A) (within : (t : A) → mem eq t vs ≡ true → mem eq t univ ≡ true) (only : (x y : A) → mem eq y (succ x) ≡ true → mem eq x vs ≡ true) (f : ℕ) (enough : length univ ≤ f) where
      walk_gone : Gone f [] vs [] 0 (walk eq succ f vs)
      unfolding walk Topo mem Steps Chain
      walk_gone =
          gone
          f
          (enter eq succ f)
          (enter_good f)
          []
          0
          (λ _. 0)
          (starts eq (enter eq succ f))
          (starts_goes eq (enter eq succ f))
          vs
          []
          (record { topo = tt; apart = λ x m. refl; fuel = le_trans (names_left (taken eq [] []) univ) enough })
          (record { within = within; steps = λ t m. tt })

      looks_gone : (o : Search A) → Gone f [] vs [] 0 o → looks_of o ≤ length (pairs succ univ)
      unfolding looks_of
      looks_gone (found c n) p = omega (arith, p.looks, edges_all eq succ univ)
      looks_gone (clear cl n) p = omega (arith, p.looks, edges_all eq succ univ)

      rust_gone : (o : Search A) → Gone f [] vs [] 0 o → rust_walk eq succ (suc f) vs ≡ path_of o
      unfolding path_of rust_walk
      rust_gone (found c n) p = p.rust
      rust_gone (clear cl n) p = p.rust

      loop_found : (o : Search A) → Gone f [] vs [] 0 o → (c : List A) → path_of o ≡ some c → Loop eq succ c
      unfolding path_of
      loop_found (found d n) p c e = subst (Loop eq succ) (some-injective d c e) p.loop
      loop_found (clear cl n) p c e = absurd (none-ne-some c e)

      first_within : (x : A) (l : List A) (y : A) → Chain eq succ x (l ++ (y ∷ [])) → mem eq x vs ≡ true
      unfolding Chain
      first_within x [] y h = only x y h.0
      first_within x (z ∷ l) y h = only x z h.0

      none_found : (o : Search A) → Gone f [] vs [] 0 o → (c : List A) → Loop eq succ c → path_of o ≡ none → ⊥
      unfolding path_of
      none_found (found d n) p c k e = none-ne-some d (sym e)
      none_found (clear cl n) p c k e = topo_acyclic eq succ ok cl k.first k.between p.topo (p.all k.first (first_within k.first k.between k.first k.steps)) k.steps

      pub walked : Walked eq succ univ vs f
      walked =
          let o : Search A = walk eq succ f vs in
          record { loop = loop_found o walk_gone; finds = none_found o walk_gone; rust = rust_gone o walk_gone; looks = looks_gone o walk_gone }
