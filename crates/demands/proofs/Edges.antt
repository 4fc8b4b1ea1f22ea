-- The search of a node's equations: its path is a closed path of edges, it finds one wherever there is one, the Rust's search finds the
-- same, and it looks at most once along each edge. Assumes nothing.
use Rattle.std.specs.Prelude.{if◌then◌else◌}
use Prim.Native.Nat.{◌≤◌}
use native.Mathlib.Nat.{le_refl}
use mathlib.Core.Path.{◌≡◌, refl, sym, ap, subst, ◌∙◌}
use mathlib.Core.Logic.{⊎_elim}
use mathlib.Core.Bool.{Bool, true, false}
use mathlib.Core.List.Memᴰ
use mathlib.Core.List.{List, [], ◌∷◌, ◌++◌, Memᴰ}
use mathlib.Core.Option.{none, some}
use lib.ListN.{length}
use Rattle.lustre.specs.Name.{Name, ◌is◌, ◌among◌, set_of}
use Rattle.lustre.specs.Project.{Equation}
use Rattle.lustre.specs.Deps.{reads, defined, read_in, read_by, successors, rust_equations}
use Rattle.lustre.specs.Walk.{path_of, looks_of, graph_names, search, dfs_search, rust_search}
use Rattle.demands.specs.Loops.{Edge, Along, Closed, Distinct, Edges, NoArrows, RustLoops}
use Rattle.demands.proofs.Sets.{mem_in, in_mem}
use Rattle.demands.proofs.Arrows.{same_equations, rust_closed}
use Rattle.demands.proofs.Graphs.{Chain}
use Rattle.demands.proofs.Orders.{is_test, in_set, set_in, set_distinct}
use Rattle.demands.proofs.Search.{row, pairs, Walked, walked}

among_in : (a : Name) (l : List Name) → (a among l) ≡ true → Memᴰ a l
among_in = mem_in ◌is◌ is_test

in_among : {a : Name} {l : List Name} → Memᴰ a l → (a among l) ≡ true
in_among = in_mem ◌is◌ is_test

-- the members of lists joined, one for each element
module _ {X Y : Type 0} (part : X → List Y) (join : List X → List Y) (none_joined : join [] ≡ []) (joined : (x : X) (xs : List X) → join (x ∷ xs) ≡ part x ++ join xs) where
  in_joined : {x : X} {xs : List X} {y : Y} → Memᴰ x xs → Memᴰ y (part x) → Memᴰ y (join xs)
  in_joined {y = y} (Memᴰ.head {x = z} {xs = zs} e) m = rw (joined z zs) (Memᴰ.append_left (join zs) (subst (λ (w : X). Memᴰ y (part w)) e m))
  in_joined {y = y} (Memᴰ.tail {x = z} {xs = zs} i) m = rw (joined z zs) (Memᴰ.append_right (part z) (in_joined i m))

  joined_in : (xs : List X) (y : Y) → Memᴰ y (join xs) → (x : X) × Memᴰ x xs × Memᴰ y (part x)
  joined_in [] y m = absurd (Memᴰ.not-nil (subst (Memᴰ y) none_joined m))
  joined_in (x ∷ xs) y m =
      ⊎_elim
      (λ n. (x, Memᴰ.head refl, n))
      (λ n. let r = joined_in xs y n in (r.0, Memᴰ.tail r.1, r.2))
      (Memᴰ.append_cases (part x) (subst (Memᴰ y) (joined x xs) m))

-- what an equation lets a read
abbrev read_at : Name → Equation → List Name
read_at a q = if a among q.lhs then reads q.rhs else []

module _ (qs : List Equation) where
  read_somewhere : (q : Equation) (b : Name) → Memᴰ q qs → Memᴰ b (reads q.rhs) → Memᴰ b (read_in qs)
  unfolding read_in
  read_somewhere q b = in_joined (λ (q : Equation). reads q.rhs) read_in refl (λ q qs. refl)

  defined_somewhere : (q : Equation) (a : Name) → Memᴰ q qs → Memᴰ a q.lhs → Memᴰ a (defined qs)
  unfolding defined
  defined_somewhere q a = in_joined (λ (q : Equation). q.lhs) defined refl (λ q qs. refl)

  -- the successors of a name are the names that it has an edge to
  pub successor_edge : (a b : Name) → (b among successors qs a) ≡ true → Edge qs a b
  unfolding successors read_by
  successor_edge a b m =
      let r = joined_in (read_at a) (read_by a) refl (λ q qs. refl) qs b (set_in b (read_by a qs) (among_in b (successors qs a) m)) in
      let p = assigned r.0 (a among r.0.lhs) refl r.2 in
      (r.0, r.1, p.0, p.1)
    where
      assigned : (q : Equation) (t : Bool) → (a among q.lhs) ≡ t → Memᴰ b (if t then reads q.rhs else []) → Memᴰ a q.lhs × Memᴰ b (reads q.rhs)
      assigned q true e n = (among_in a q.lhs e, n)
      assigned q false e n = absurd (Memᴰ.not-nil n)

  pub edge_successor : (a b : Name) → Edge qs a b → (b among successors qs a) ≡ true
  unfolding successors read_by
  edge_successor a b e =
      in_among (in_set b (read_by a qs) (in_joined (read_at a) (read_by a) refl (λ q qs. refl) e.1 (rw (in_among e.2) e.3)))

  -- a chain of successors is a chain of edges
  chain_along : (x : Name) (l : List Name) → Chain ◌is◌ (successors qs) x l → Along qs x l
  unfolding Chain Along
  chain_along x [] h = tt
  chain_along x (y ∷ l) h = (successor_edge x y h.0, chain_along y l h.1)

  along_chain : (x : Name) (l : List Name) → Along qs x l → Chain ◌is◌ (successors qs) x l
  unfolding Chain Along
  along_chain x [] h = tt
  along_chain x (y ∷ l) h = (edge_successor x y h.0, along_chain y l h.1)

  -- what the search asks for: its starts are names of the graph, as are all names that have edges, and those start it
  starts_within : (a : Name) → (a among set_of (defined qs)) ≡ true → (a among graph_names qs) ≡ true
  unfolding graph_names
  starts_within a m = in_among (in_set a (defined qs ++ read_in qs) (Memᴰ.append_left (read_in qs) (set_in a (defined qs) (among_in a (set_of (defined qs)) m))))

  edges_start : (a b : Name) → (b among successors qs a) ≡ true → (a among set_of (defined qs)) ≡ true
  edges_start a b m = let e = successor_edge a b m in in_among (in_set a (defined qs) (defined_somewhere e.0 a e.1 e.2))

  edges_stay : (a b : Name) → (a among graph_names qs) ≡ true → (b among successors qs a) ≡ true → (b among graph_names qs) ≡ true
  unfolding graph_names
  edges_stay a b u m = let e = successor_edge a b m in in_among (in_set b (defined qs ++ read_in qs) (Memᴰ.append_right (defined qs) (read_somewhere e.0 b e.1 e.3)))

  searched : Walked ◌is◌ (successors qs) (graph_names qs) (set_of (defined qs)) (length (graph_names qs))
  searched = walked ◌is◌ is_test (successors qs) (graph_names qs) edges_stay (set_of (defined qs)) starts_within edges_start (length (graph_names qs)) (le_refl (length (graph_names qs)))

  -- a path that is found is a closed path of edges
  pub search_closed : (c : List Name) → path_of (search qs) ≡ some c → Closed qs c
  unfolding search
  search_closed c e =
      let k = searched.loop c e in
      record { first = k.first; between = k.between; shape = k.shape; steps = chain_along k.first (k.between ++ (k.first ∷ [])) k.steps }

  -- where there is a closed path of edges, one is found
  pub search_finds : (c : List Name) → Closed qs c → path_of (search qs) ≡ none → ⊥
  unfolding search
  search_finds c k = searched.finds c (record { first = k.first; between = k.between; shape = k.shape; steps = along_chain k.first (k.between ++ (k.first ∷ [])) k.steps })

  -- the Rust's `dfs` finds the same in the same graph
  pub search_dfs : dfs_search qs ≡ path_of (search qs)
  unfolding search dfs_search
  search_dfs = searched.rust

  -- and so does the Rust's search where its graph is the same
  pub search_rust : NoArrows qs → rust_search qs ≡ path_of (search qs)
  unfolding rust_search
  search_rust h = rw (same_equations qs h) search_dfs

-- no loop of the Rust is lost
pub rust_loops : RustLoops
unfolding rust_search
rust_loops qs c e = rust_closed qs c (search_closed (rust_equations qs) c (sym (search_dfs (rust_equations qs)) ∙ e))

-- two lists without repetition that have nothing in common, one behind the other
distinct_append : {X : Type 0} (s t : List X) → Distinct s → Distinct t → ((x : X) → Memᴰ x s → Memᴰ x t → ⊥) → Distinct (s ++ t)
unfolding Distinct
distinct_append [] t p q apart = q
distinct_append (x ∷ s) t p q apart =
    (λ m. ⊎_elim p.0 (apart x (Memᴰ.head refl)) (Memᴰ.append_cases s m), distinct_append s t p.1 q (λ y m n. apart y (Memᴰ.tail m) n))

row_in : {A : Type 0} (x : A) (l : List A) (a b : A) → Memᴰ (a, b) (row x l) → (a ≡ x) × Memᴰ b l
row_in {A} x l a b m = let r = Memᴰ.of_map (λ (y : A). (x, y)) l m in (sym (ap (λ p. p.0) r.2), Memᴰ.cast (sym (ap (λ p. p.1) r.2)) r.1)

distinct_row : {A : Type 0} (x : A) (l : List A) → Distinct l → Distinct (row x l)
unfolding Distinct
distinct_row x [] d = tt
distinct_row x (y ∷ l) d = (λ m. d.0 (row_in x l x y m).1, distinct_row x l d.1)

module _ {A : Type 0} (succ : A → List A) where
  pairs_in : (u : List A) (a b : A) → Memᴰ (a, b) (pairs succ u) → Memᴰ a u × Memᴰ b (succ a)
  unfolding pairs
  pairs_in u a b m =
      let r = joined_in (λ (x : A). row x (succ x)) (pairs succ) refl (λ x u. refl) u (a, b) m in
      let s = row_in r.0 (succ r.0) a b r.2 in
      (Memᴰ.cast s.0 r.1, subst (λ (x : A). Memᴰ b (succ x)) (sym s.0) s.1)

  in_pairs : (u : List A) (a b : A) → Memᴰ a u → Memᴰ b (succ a) → Memᴰ (a, b) (pairs succ u)
  unfolding pairs
  in_pairs u a b i m = in_joined (λ (x : A). row x (succ x)) (pairs succ) refl (λ x u. refl) i (Memᴰ.map (λ (y : A). (a, y)) m)

  -- the edges that leave a list of names, each once
  distinct_pairs : ((x : A) → Distinct (succ x)) → (u : List A) → Distinct u → Distinct (pairs succ u)
  unfolding Distinct pairs
  distinct_pairs h [] d = tt
  distinct_pairs h (x ∷ u) d =
      distinct_append
      (row x (succ x))
      (pairs succ u)
      (distinct_row x (succ x) (h x))
      (distinct_pairs h u d.1)
      (λ p m n. d.0 (Memᴰ.cast (sym (row_in x (succ x) p.0 p.1 m).0) (pairs_in u p.0 p.1 n).0))

-- at most one look along each edge
pub search_count : (qs : List Equation) → (es : List (Name × Name)) × Edges qs es × (looks_of (search qs) ≤ length es)
unfolding search graph_names successors
search_count qs = (
  pairs (successors qs) (graph_names qs),
  record {
    once = distinct_pairs (successors qs) (λ a. set_distinct (read_by a qs)) (graph_names qs) (set_distinct (defined qs ++ read_in qs));
    sound = λ a b m. successor_edge qs a b (in_among (pairs_in (successors qs) (graph_names qs) a b m).1);
    complete = λ a b e.
        let m = edge_successor qs a b e in
        in_pairs (successors qs) (graph_names qs) a b (among_in a (graph_names qs) (starts_within qs a (edges_start qs a b m))) (among_in b (successors qs a) m);
  },
  (searched qs).looks,
)
