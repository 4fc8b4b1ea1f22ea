-- The equations of a node one after another: their lines, the names assigned and the edges of the graph.
-- Assumes nothing.
use Rattle.std.specs.Prelude.{if◌then◌else◌}
use Prim.Native.Nat.{ℕ, suc, ◌+◌, ◌≤◌, ◌<◌}
use native.Mathlib.Omega.{arith}
use mathlib.Core.Path.{◌≡◌, refl, sym, ◌∙◌, ap}
use mathlib.Core.Bool.{Bool, true, false, ◌&&◌, ◌||◌}
use mathlib.Core.List.{List, [], ◌∷◌, ◌++◌, map, map-append}
use mathlib.Core.Option.{some}
use lib.ListN.{length}
use Rattle.lustre.specs.Name.{Name, ◌among◌, mem}
use Rattle.lustre.specs.Project.{Equation, Node, skeleton, port_names, is_function}
use Rattle.lustre.specs.Line.{Note, Line, at_node}
use Rattle.lustre.specs.Resolve.{Scope, context}
use Rattle.lustre.specs.Deps.{reads, defined, read_by}
use Rattle.lustre.specs.Node.{equation_notes, of_equation, equations_remarks}
use Rattle.lustre.specs.Report.{of_place}
use Rattle.lustre.specs.Answer.{or_none, place_number}
use Rattle.demands.specs.Reading.{Each}
use Rattle.input.specs.Depths.{ShallowExpr}
use Rattle.standing.specs.Standing.{Source, EachAt, ListAt, EquationAt, sizes_of, list_size, equation_size, equations_from}
use Rattle.standing.proofs.Sizes.{First, first, no_items}
use Rattle.lines.specs.declared.Spot.{Spot}
use Rattle.lines.specs.declared.Lines.{Lines}
use Rattle.loops.specs.Rows.{has}
use Rattle.types.specs.Value.{Injective}
use Rattle.scope.specs.Tables.{records}
use Rattle.scope.specs.Sets.{Holds}
use Rattle.scope.specs.Writes.{Reports}
use Rattle.scope.proofs.World.{apart}
use Rattle.scope.proofs.Sets.{holds_same, among_append}
use Rattle.scope.proofs.Writes.{placed, reports_none, reports_append, reports_noted}
use Rattle.equations.specs.Equations.{EquationGiven, EquationChecked, EquationHere, EdgesAdded}
use Rattle.nodes.specs.Nodes.{Blank, env_of, NodeOpen, EquationsChecked}

-- ---- the equations that are left

-- the equations behind the first e of them stand from a position on, and end where the whole list does
pub record Ahead (S : Source) (all : List Equation) (list next e : ℕ) : Type 0 where
  pub rest : List Equation
  pub stand : EachAt (EquationAt S) equation_size rest next
  pub many : length rest + e ≡ length all
  pub shallow : Each (λ (q : Equation). ShallowExpr q.rhs) rest
  pub ends : next + sizes_of equation_size rest ≡ list + list_size equation_size all

-- the list of the equations of a node
pub list_here : {ks ws sc : List ℕ} {at list : ℕ} (g : NodeOpen ks ws sc at) → list ≡ equations_from g.n at → ListAt (records g.model) (EquationAt (records g.model)) equation_size g.n.equations list
list_here g h = rw h g.node.stands.equations

-- all of them, behind the list record
pub ahead_start : {ks ws sc : List ℕ} {at list : ℕ} (g : NodeOpen ks ws sc at) → list ≡ equations_from g.n at → Ahead (records g.model) g.n.equations list (list + 1) 0
ahead_start g h = record { rest = g.n.equations; stand = (list_here g h).items; many = omega arith; shallow = g.node.shallow.equations; ends = omega arith }

-- the records of the first and of the others
sizes_more : {qs : List Equation} (q : Equation) (rest : List Equation) → qs ≡ q ∷ rest → sizes_of equation_size qs ≡ equation_size q + sizes_of equation_size rest
unfolding sizes_of
sizes_more q rest e = rw e

module _ {S : Source} {all : List Equation} {list next e : ℕ} (a : Ahead S all list next e) (h : e < length all) where
  -- the first that is left
  abbrev pub ahead_first : First (EquationAt S) equation_size a.rest next (length a.rest)
  ahead_first = first (EquationAt S) equation_size a.rest next (length a.rest) refl (λ z. omega (arith, a.many)) a.stand

  -- it and the others are shallow
  pub ahead_shallow : Each (λ (q : Equation). ShallowExpr q.rhs) (ahead_first.x ∷ ahead_first.rest)
  ahead_shallow = rw ahead_first.is at a.shallow

  -- the others
  pub ahead_next : {r : ℕ} → r ≡ next + equation_size ahead_first.x → Ahead S all list r (e + 1)
  ahead_next {r} c =
      let f = ahead_first in
      record { rest = f.rest; stand = rw c f.rest_at; many = omega (arith, f.fewer, a.many); shallow = ahead_shallow.1; ends = omega (arith, a.ends, sizes_more f.x f.rest f.is) }

module _ {S : Source} {all : List Equation} {list next e : ℕ} (a : Ahead S all list next e) (z : length all ≤ e) where
  -- none is left
  pub ahead_none : a.rest ≡ []
  ahead_none = no_items a.rest (omega (arith, a.many))

  -- then the list is passed
  pub ahead_end : next ≡ list + list_size equation_size all
  unfolding sizes_of
  ahead_end = let t : sizes_of equation_size a.rest ≡ 0 = rw ahead_none in omega (arith, a.ends)

-- ---- the first equation as `equations` asks for it

module _ {ks ws sc : List ℕ} {at list next e : ℕ} (g : NodeOpen ks ws sc at) (a : Ahead (records g.model) g.n.equations list next e) (h : e < length g.n.equations) where
  -- with its scope
  abbrev pub given_first : EquationGiven ks ws sc next
  given_first = record {
    scoped = record { model = g.model; env = env_of g.n; declared = g.declared };
    eq = (ahead_first a h).x;
    stands = (ahead_first a h).x_at;
    shallow = (ahead_shallow a h).0;
  }

  -- and by its records alone
  abbrev pub here_first : EquationHere ks ws next
  here_first = record { text = g.model.text; eq = (ahead_first a h).x; stands = (ahead_first a h).x_at }

-- ---- lists of equations

-- of three tests the first two change places
turned : (a b c : Bool) → ((a || b) || c) ≡ (b || (a || c))
turned true true c = refl
turned true false c = refl
turned false b c = refl

-- of three tests the last two are taken together
or_join : (a b c : Bool) → ((a || b) || c) ≡ (a || (b || c))
or_join true b c = refl
or_join false b c = refl

-- or nothing more
or_false : (b : Bool) → (b || false) ≡ b
or_false true = refl
or_false false = refl

-- the names of the first equation go from the front of one list to the front of the other
defined_moved : (x : Name) (seen : List Name) (q : Equation) (qs : List Equation) → (x among ((q.lhs ++ seen) ++ defined qs)) ≡ (x among (seen ++ defined (q ∷ qs)))
unfolding defined
defined_moved x seen q qs =
    among_append x (q.lhs ++ seen) (defined qs)
    ∙ ap (λ (b : Bool). b || x among defined qs) (among_append x q.lhs seen)
    ∙ turned (x among q.lhs) (x among seen) (x among defined qs)
    ∙ ap (λ (b : Bool). x among seen || b) (sym (among_append x q.lhs (defined qs)))
    ∙ sym (among_append x seen (q.lhs ++ defined qs))

-- no equation is left
defined_end : (x : Name) (seen : List Name) → (x among (seen ++ defined [])) ≡ (x among seen)
unfolding defined mem
defined_end x seen = among_append x seen [] ∙ or_false (x among seen)

-- what the first equation reads for a name, and what the others read
read_first : (a b : Name) (q : Equation) (qs : List Equation) → (b among read_by a (q ∷ qs)) ≡ (((a among q.lhs) && (b among reads q.rhs)) || b among read_by a qs)
unfolding read_by mem
read_first a b q qs =
    among_append b (if a among q.lhs then reads q.rhs else []) (read_by a qs)
    ∙ ap (λ (t : Bool). t || b among read_by a qs) (go (a among q.lhs))
  where
    go : (t : Bool) → (b among (if t then reads q.rhs else [])) ≡ (t && (b among reads q.rhs))
    go true = refl
    go false = refl

-- the lines of an equation's notes
lines_placed : (i e : ℕ) (ns : List Note) → map (of_place i) (map (of_equation e) ns) ≡ map (placed at_node i (some e)) ns
unfolding of_place of_equation
lines_placed i e [] = refl
lines_placed i e (n ∷ ns) = ap (λ (l : List Line). placed at_node i (some e) n ∷ l) (lines_placed i e ns)

-- the lines of the first equation, and those of the others
lines_first : (Γ : Scope) (n : Node) (seen : List Name) (i e : ℕ) (q : Equation) (qs : List Equation)
    → map (of_place i) (equations_remarks Γ n (env_of n) seen e (q ∷ qs)) ≡ map (placed at_node i (some e)) (equation_notes Γ n (env_of n) seen q) ++ map (of_place i) (equations_remarks Γ n (env_of n) (q.lhs ++ seen) (suc e) qs)
unfolding equations_remarks
lines_first Γ n seen i e q qs =
    map-append (of_place i) (map (of_equation e) (equation_notes Γ n (env_of n) seen q)) (equations_remarks Γ n (env_of n) (q.lhs ++ seen) (suc e) qs)
    ∙ ap (λ (l : List Line). l ++ map (of_place i) (equations_remarks Γ n (env_of n) (q.lhs ++ seen) (suc e) qs)) (lines_placed i e (equation_notes Γ n (env_of n) seen q))

-- no equation, no line
lines_none : (Γ : Scope) (n : Node) (seen : List Name) (i e : ℕ) → map (of_place i) (equations_remarks Γ n (env_of n) seen e []) ≡ []
unfolding equations_remarks
lines_none Γ n seen i e = refl

-- ---- the loop

-- what edges a call leaves: those of the equation
abbrev pub AddsEdges : {ks ws : List ℕ} {next : ℕ} → EquationHere ks ws next → List ℕ → List ℕ → Type 0
AddsEdges h graph graph' = Injective h.text → EdgesAdded h.text h.eq graph graph'

-- p is the spot of equation e of the node at q
abbrev pub SpotIn : Spot → ℕ → Spot → Type 0
SpotIn q e p = (p.place ≡ q.place) × (p.number ≡ q.number) × (p.equation ≡ e) × (p.function ≡ q.function)

module _ {ks ws sc : List ℕ} {at : ℕ} (g : NodeOpen ks ws sc at) (list : ℕ) (q : Spot) (l₀ : Lines) where
  -- the lines of equations, numbered from e, where the names `seen` are assigned before
  abbrev lines : List Name → ℕ → List Equation → List Line
  lines seen e qs = map (of_place q.number) (equations_remarks (context (skeleton g.model.P)) g.n (env_of g.n) seen e qs)

  -- b is among the names that equations with a on the left read
  abbrev read : List Equation → ℕ → ℕ → Bool
  read qs a b = g.model.text b among read_by (g.model.text a) qs

  -- the equations that are left: with their lines, names and edges those of the node are complete
  pub record Checking (set graph : List ℕ) (l : Lines) (next e : ℕ) : Type 0 where
    pub ahead : Ahead (records g.model) g.n.equations list next e
    pub seen : List Name
    pub holds : Holds g.model.text seen set
    pub same : (x : Name) → (x among (seen ++ defined ahead.rest)) ≡ (x among defined g.n.equations)
    pub reports : {l' : Lines} → Reports g.model.number (lines seen e ahead.rest) l l' → Reports g.model.number (lines [] 0 g.n.equations) l₀ l'
    pub edges : (a b : ℕ) → a < 512 → b < 512 → (has graph a b || read ahead.rest a b) ≡ read g.n.equations a b

  -- all are left
  pub checking_start : {set graph : List ℕ} → list ≡ equations_from g.n at → Holds g.model.text [] set → Blank graph → Checking set graph l₀ (list + 1) 0
  unfolding ahead_start
  checking_start {graph = graph} h s b = record {
    ahead = ahead_start g h;
    seen = [];
    holds = s;
    same = λ x. refl;
    reports = λ r. r;
    edges = λ x y s t. ap (λ (u : Bool). u || read g.n.equations x y) (b.empty x y s t);
  }

  module _ {set graph : List ℕ} {l : Lines} {next e : ℕ} (c : Checking set graph l next e) where
    module _ (h : e < length g.n.equations) where
      -- the lines of the first, then those of the others
      reports_next : {p : Spot} → SpotIn q e p → is_function g.n.kind ≡ q.function → q.place ≡ 4 → {ins set' : List ℕ} {r : ℕ} {l₁ : Lines} → Holds g.model.text (port_names g.n.inputs) ins
          → EquationChecked (given_first g c.ahead h) p ins set l r set' l₁ → {l' : Lines}
          → Reports g.model.number (lines ((ahead_first c.ahead h).x.lhs ++ c.seen) (suc e) (ahead_first c.ahead h).rest) l₁ l'
          → Reports g.model.number (lines c.seen e c.ahead.rest) l l'
      unfolding or_none place_number
      reports_next {p} w f at4 {l₁ = l₁} t d rest =
          let x = (ahead_first c.ahead h).x in
          let notes = equation_notes (context (skeleton g.model.P)) g.n (env_of g.n) c.seen x in
          let mine : Reports g.model.number (map (placed at_node q.number (some e)) notes) l l₁ = reports_noted at_node (some e) notes (d.noted g.n c.seen (f ∙ sym w.3) t c.holds) (w.0 ∙ at4) w.1 w.2 in
          rw ((ahead_first c.ahead h).is, lines_first (context (skeleton g.model.P)) g.n c.seen q.number e x (ahead_first c.ahead h).rest)
          (reports_append g.model.number (map (placed at_node q.number (some e)) notes) (lines (x.lhs ++ c.seen) (suc e) (ahead_first c.ahead h).rest) mine rest)

      -- the edges of the first and of the others
      edges_next : {graph' : List ℕ} → EdgesAdded g.model.text (ahead_first c.ahead h).x graph graph' → (a b : ℕ) → a < 512 → b < 512
          → (has graph' a b || read (ahead_first c.ahead h).rest a b) ≡ (has graph a b || read c.ahead.rest a b)
      edges_next {graph'} d a b s t =
          let x = (ahead_first c.ahead h).x in
          let rest = (ahead_first c.ahead h).rest in
          let added : Bool = (g.model.text a among x.lhs) && (g.model.text b among reads x.rhs) in
          ap (λ (u : Bool). u || read rest a b) (d.edges a b s t)
          ∙ or_join (has graph a b) added (read rest a b)
          ∙ ap (λ (u : Bool). has graph a b || u) (sym (read_first (g.model.text a) (g.model.text b) x rest))
          ∙ ap (λ (l : List Equation). has graph a b || read l a b) (sym (ahead_first c.ahead h).is)

      -- one more
      pub checking_next : {p : Spot} → SpotIn q e p → is_function g.n.kind ≡ q.function → q.place ≡ 4 → {ins set' graph' : List ℕ} {r : ℕ} {l₁ : Lines}
          → Holds g.model.text (port_names g.n.inputs) ins → AddsEdges (here_first g c.ahead h) graph graph'
          → EquationChecked (given_first g c.ahead h) p ins set l r set' l₁ → Checking set' graph' l₁ r (e + 1)
      unfolding ahead_next
      checking_next w f at4 t v d =
          let u : e + 1 ≡ suc e = omega arith in
          let x = ahead_first c.ahead h in
          record {
            ahead = ahead_next c.ahead h d.next;
            seen = x.x.lhs ++ c.seen;
            holds = d.assigned c.seen c.holds;
            same = λ y. defined_moved y c.seen x.x x.rest ∙ ap (λ (l : List Equation). y among (c.seen ++ defined l)) (sym x.is) ∙ c.same y;
            reports = λ s. c.reports (reports_next w f at4 t d (rw u at s));
            edges = λ a b s s'. edges_next (v (apart g.model)) a b s s' ∙ c.edges a b s s';
          }

    -- none is left
    pub checking_end : length g.n.equations ≤ e → EquationsChecked g.model g.n list q l₀ next set graph l
    unfolding read_by mem
    checking_end z =
        let none = ahead_none c.ahead z in
        record {
          next = ahead_end c.ahead z;
          reports = c.reports (rw (none, lines_none (context (skeleton g.model.P)) g.n c.seen q.number e) (reports_none g.model.number));
          assigned = holds_same (λ x. sym (defined_end x c.seen) ∙ ap (λ (l : List Equation). x among (c.seen ++ defined l)) (sym none) ∙ c.same x) c.holds;
          graph = record {
            edges = λ a b s t. sym (or_false (has graph a b)) ∙ ap (λ (l : List Equation). has graph a b || read l a b) (sym none) ∙ c.edges a b s t;
          };
        }
