-- The edges of an equation in the graph: from each name assigned to each name that is read.
-- Assumes nothing.
use Prim.Native.Nat.{ℕ, ◌+◌, ◌≤◌, ◌<◌}
use native.Mathlib.Omega.{arith}
use mathlib.Core.Path.{◌≡◌, refl, sym, ◌∙◌, ap}
use mathlib.Core.Logic.{⊎_elim}
use mathlib.Core.Bool.{Bool, true, false, ◌&&◌, ◌||◌}
use mathlib.Core.List.{List, ◌∷◌, map}
use lib.Dec.{eqb}
use lib.ListN.{length, get_or, drop, drop_of_length-le}
use borrow.Author.Tests.{eq-eqb, ne_eqb}
use Rattle.std.proofs.lemmas.List.{drop_more}
use Rattle.lustre.specs.Name.{Name, ◌is◌, ◌among◌, mem}
use Rattle.lustre.specs.Deps.{reads}
use Rattle.demands.proofs.Sets.{mustnt, mem_ne, mem_self}
use Rattle.demands.proofs.Orders.{is_test}
use Rattle.standing.specs.Standing.{source, names_size}
use Rattle.standing.specs.Owed.{There}
use Rattle.standing.proofs.Inversions.{expr_record}
use Rattle.standing.proofs.Sizes.{names_sizes}
use Rattle.body.specs.Body.{Collected}
use Rattle.loops.specs.Rows.{has, Joined}
use Rattle.loops.proofs.Rows.{same_or}
use Rattle.types.specs.Value.{Naming, Injective}
use Rattle.scope.specs.Names.{NamesHere}
use Rattle.equations.specs.Equations.{EquationHere, EdgesAdded}

-- a text is the first of a list, or among the others
among_first : {text : Naming} → Injective text → (a w : ℕ) (more : List Name) → (text a among (text w ∷ more)) ≡ (eqb a w || text a among more)
among_first {text} inj a w more =
    ⊎_elim
    (λ (e : a ≡ w). rw (eq-eqb a w e) (ap (λ (m : ℕ). text m among (text w ∷ more)) e ∙ mem_self ◌is◌ is_test (text w) more))
    (λ (e : a ≡ w → ⊥). rw (ne_eqb a w e) (mem_ne ◌is◌ (text a) (text w) more (mustnt (text a is text w) (λ s. e (inj a w (is_test.same (text a) (text w) s))))))
    (same_or a w)

-- an edge from the first name, and those from the others
both : (h e m r : Bool) → ((h || (e && r)) || (m && r)) ≡ (h || ((e || m) && r))
both true e m r = refl
both false true true true = refl
both false true true false = refl
both false true false true = refl
both false true false false = refl
both false false m r = refl

-- or with false
or_false : (b : Bool) → (b || false) ≡ b
or_false true = refl
or_false false = refl

-- the edges from the names of a list to the set, beside those of a graph
abbrev with_edges : (text : Naming) (ns row graph : List ℕ) → ℕ → ℕ → Bool
with_edges text ns row graph a b = has graph a b || ((text a among map text ns) && has row 0 b)

-- with edges from the names from i on the graph has those from all
pub record Joining (ns row graph₀ : List ℕ) (i : ℕ) (graph : List ℕ) : Type 0 where
  pub edges : (text : Naming) → Injective text → (a b : ℕ) → a < 512 → b < 512 → with_edges text (drop i ns) row graph a b ≡ with_edges text ns row graph₀ a b

module _ {ns row graph₀ : List ℕ} {i : ℕ} {graph : List ℕ} (j : Joining ns row graph₀ i graph) where
  -- one name more
  pub joining_more : {graph' : List ℕ} → i < length ns → Joined graph (get_or ns i 0) row graph' → Joining ns row graph₀ (i + 1) graph'
  joining_more {graph'} h d = record {
    edges = λ text inj a b p q.
        let w = get_or ns i 0 in
        let more = map text (drop (i + 1) ns) in
        let e = drop_more ns i 0 h in
        ap (λ (t : Bool). t || ((text a among more) && has row 0 b)) (d.edges a b q)
        ∙ both (has graph a b) (eqb a w) (text a among more) (has row 0 b)
        ∙ ap (λ (t : Bool). has graph a b || (t && has row 0 b)) (sym (among_first inj a w more))
        ∙ ap (λ (l : List ℕ). with_edges text l row graph a b) (sym e)
        ∙ j.edges text inj a b p q;
  }

  -- all names
  pub joining_done : length ns ≤ i → (text : Naming) → Injective text → (a b : ℕ) → a < 512 → b < 512 → has graph a b ≡ with_edges text ns row graph₀ a b
  unfolding mem
  joining_done h text inj a b p q =
      let e = drop_of_length-le ns {i = i} h in
      sym (or_false (has graph a b))
      ∙ ap (λ (l : List ℕ). with_edges text l row graph a b) (sym e)
      ∙ j.edges text inj a b p q

module _ {ks ws : List ℕ} {at : ℕ} (g : EquationHere ks ws at) where
  -- the names assigned
  abbrev pub names_of : NamesHere ws (at + 1)
  names_of = record { ks = ks; text = g.text; xs = g.eq.lhs; listed = g.stands.lhs }

  -- the right-hand side stands behind them
  abbrev pub side_of : {start : ℕ} → start ≡ at + 1 + 1 + get_or ws (at + 1) 0 → There ks ws start
  side_of {start} h =
      let z : start ≡ at + 1 + names_size g.eq.lhs = omega (arith, names_sizes g.eq.lhs, g.stands.lhs.many) in
      record { text = g.text; e = g.eq.rhs; stands = rw z g.stands.rhs }

  -- and starts within the words
  pub side_inside : at + 1 + 1 + get_or ws (at + 1) 0 < length ws
  side_inside = let t = side_of refl in (expr_record (source ks ws g.text) t.e (at + 1 + 1 + get_or ws (at + 1) 0) t.stands).in_words

  -- edges to the names that were collected from none
  pub edges_added : {start r : ℕ} {none row graph graph' : List ℕ} → Injective g.text → ((b : ℕ) → has none 0 b ≡ false)
      → Collected g.text g.eq.rhs start none r row
      → ((a b : ℕ) → a < 512 → b < 512 → has graph' a b ≡ (has graph a b || ((g.text a among g.eq.lhs) && has row 0 b)))
      → EdgesAdded g.text g.eq graph graph'
  edges_added {row = row} {graph} {graph'} inj empty c f = record {
    edges = λ a b p q.
        f a b p q
        ∙ ap (λ (t : Bool). has graph a b || ((g.text a among g.eq.lhs) && t))
        (c.names.each b q (λ m s e. inj m b e) ∙ ap (λ (t : Bool). t || g.text b among reads g.eq.rhs) (empty b));
  }
