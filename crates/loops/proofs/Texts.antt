-- The walk over the numbers is the search of the equations that the words show, with the texts for the numbers.
-- Assumes nothing.
use Rattle.std.specs.Prelude.{if◌then◌else◌}
use Prim.Native.Nat.{ℕ, ◌+◌, ◌<◌}
use mathlib.Core.Path.{◌≡◌, sym, ◌∙◌, ap}
use mathlib.Core.Logic.{⊎_elim}
use mathlib.Core.Bool.{Bool, true, false}
use mathlib.Core.List.Memᴰ
use mathlib.Core.List.{List, [], ◌∷◌, ◌++◌, map, Memᴰ}
use lib.ListN.{length}
use lib.Dec.{eqb}
use Rattle.lustre.specs.Name.{Name, ◌is◌, ◌among◌, set_of}
use Rattle.lustre.specs.Project.{Equation}
use Rattle.lustre.specs.Deps.{reads, defined, read_in, read_by, successors}
use Rattle.lustre.specs.Walk.{Search, walk, graph_names, search}
use Rattle.demands.specs.Reading.{Each}
use Rattle.demands.proofs.Sets.{mem_in, in_mem}
use Rattle.demands.proofs.Orders.{is_test, set_in, in_set}
use Rattle.loops.specs.Rows.{has, row_from, row}
use Rattle.loops.specs.Search.{Shows}
use Rattle.loops.proofs.Rows.{passing_each}
use Rattle.loops.proofs.Order.{texts_apart, set_texts}
use Rattle.loops.proofs.Fuel.{walk_fuel}
use Rattle.loops.proofs.Rename.{EachIn, renamed, walk_renamed}

-- what one name's equations read is read
read_somewhere : (a b : Name) (qs : List Equation) → Memᴰ b (read_by a qs) → Memᴰ b (read_in qs)
unfolding read_by read_in
read_somewhere a b [] m = m
read_somewhere a b (q ∷ qs) m = go (a among q.lhs) m (read_somewhere a b qs)
  where
    go : (t : Bool) → Memᴰ b ((if t then reads q.rhs else []) ++ read_by a qs) → (Memᴰ b (read_by a qs) → Memᴰ b (read_in qs)) → Memᴰ b (reads q.rhs ++ read_in qs)
    go true m rest = ⊎_elim (λ i. Memᴰ.append_left (read_in qs) i) (λ i. Memᴰ.append_right (reads q.rhs) (rest i)) (Memᴰ.append_cases (reads q.rhs) m)
    go false m rest = Memᴰ.append_right (reads q.rhs) (rest m)

-- names that are read, and names that are defined, are names of the graph
module _ (qs : List Equation) where
  read_named : (a b : Name) → Memᴰ b (read_by a qs) → (b among graph_names qs) ≡ true
  unfolding graph_names
  read_named a b m = in_mem ◌is◌ is_test (in_set b (defined qs ++ read_in qs) (Memᴰ.append_right (defined qs) (read_somewhere a b qs m)))

  defined_named : (a : Name) → Memᴰ a (defined qs) → (a among graph_names qs) ≡ true
  unfolding graph_names
  defined_named a m = in_mem ◌is◌ is_test (in_set a (defined qs ++ read_in qs) (Memᴰ.append_left (read_in qs) m))

module _ {qs : List Equation} {text : ℕ → Name} {names : ℕ} {graph defs : List ℕ} (sh : Shows qs text names graph defs) where
  row_texts : (x : ℕ) → x < names → successors qs (text x) ≡ map text (row graph x)
  unfolding successors row_from
  row_texts x h =
      set_texts
      names
      text
      sh.increasing
      (has graph x)
      (read_by (text x) qs)
      (λ b. sh.edges_within x b h)
      (λ b. sh.edges x b h)
      sh.few
      (λ y m. sh.numbered y (read_named qs (text x) y m))

  start_texts : set_of (defined qs) ≡ map text (row defs 0)
  unfolding row_from
  start_texts = set_texts names text sh.increasing (has defs 0) (defined qs) sh.starts_within sh.starts sh.few (λ y m. sh.numbered y (defined_named qs y m))

  row_known : (ws : List ℕ) (a : ℕ) → ((b : ℕ) → b < 512 → has ws a b ≡ true → b < names) → Each (λ (b : ℕ). b < names) (row ws a)
  unfolding row_from
  row_known ws a within = passing_each (has ws a) (λ (b : ℕ). b < names) 512 0 (λ b l u e. within b u e)

  -- the search, and that it meets no number but those of names
  pub searched_texts : let o : Search ℕ = walk eqb (row graph) (length (graph_names qs) + 512) (row defs 0) in EachIn (λ (b : ℕ). b < names) o × (search qs ≡ renamed text o)
  unfolding search successors
  searched_texts =
      let univ : List Name = graph_names qs in
      let r =
      walk_renamed
      eqb
      ◌is◌
      (row graph)
      (successors qs)
      text
      (λ (b : ℕ). b < names)
      (texts_apart names text sh.increasing)
      row_texts
      (λ x h. row_known graph x (λ b. sh.edges_within x b h))
      (length univ + 512)
      (row defs 0)
      (row_known defs 0 sh.starts_within) in
      let fuel : walk ◌is◌ (successors qs) (length univ + 512) (set_of (defined qs)) ≡ search qs =
      walk_fuel
      ◌is◌
      is_test
      (successors qs)
      univ
      (λ x y u m. read_named qs x y (set_in y (read_by x qs) (mem_in ◌is◌ is_test y (successors qs x) m)))
      (set_of (defined qs))
      (λ t m. defined_named qs t (set_in t (defined qs) (mem_in ◌is◌ is_test t (set_of (defined qs)) m)))
      512 in
      (r.0, sym fuel ∙ ap (walk ◌is◌ (successors qs) (length univ + 512)) start_texts ∙ r.1)
