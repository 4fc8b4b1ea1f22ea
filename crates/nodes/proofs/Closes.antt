-- The lines of a node behind those of its equations: what its search is shown, and the lines one after another.
-- Assumes nothing.
use Rattle.std.specs.Prelude.{if◌then◌else◌}
use Prim.Native.Nat.{ℕ, ◌≤◌, ◌<◌}
use native.Mathlib.Omega.{arith}
use mathlib.Core.Path.{◌≡◌, refl, sym, ◌∙◌}
use mathlib.Core.Bool.{Bool, true, false, ◌||◌}
use mathlib.Core.List.{List, [], ◌∷◌, ◌++◌}
use Rattle.lustre.specs.Name.{Name, ◌is◌, ◌among◌, mem}
use Rattle.lustre.specs.Types.{Ty}
use Rattle.lustre.specs.Project.{Port, Heading, NodeKind, Imported, Equation, Node, port_names}
use Rattle.lustre.specs.Deps.{reads, defined, read_in, read_by}
use Rattle.lustre.specs.Walk.{graph_names}
use Rattle.lustre.specs.Node.{absent, cycle_notes, looks, closing_notes}
use Rattle.demands.proofs.Sets.{mem_in, in_mem}
use Rattle.demands.proofs.Orders.{is_test, in_set}
use Rattle.standing.specs.Standing.{source, probes_from}
use Rattle.lines.specs.Lines.{Noted}
use Rattle.lines.specs.declared.Spot.{Spot}
use Rattle.lines.specs.declared.Lines.{Lines}
use Rattle.lines.proofs.Laws.{noted_append}
use Rattle.loops.specs.Search.{Shows}
use Rattle.types.specs.Value.{Naming}
use Rattle.rules.specs.World.{PortsHere}
use Rattle.scope.specs.Model.{Model}
use Rattle.scope.specs.Names.{NamesHere, Numbers}
use Rattle.scope.specs.Tables.{Tables}
use Rattle.scope.specs.Sets.{Holds}
use Rattle.scope.proofs.World.{apart}
use Rattle.scope.proofs.Sets.{among_append}
use Rattle.nodes.specs.declared.Opened.{Opened}
use Rattle.nodes.specs.Nodes.{env_of, StandingNode, NodeOpen, ListsAt, GraphOf, NodeClosed}
use Rattle.nodes.proofs.Opens.{outputs_here, locals_here, probes_here}

-- ---- names of the graph

-- of two tests the first holds
or_first : (a b : Bool) → a ≡ true → (a || b) ≡ true
or_first a b h = rw h

-- of two tests the second holds
or_second : (a b : Bool) → b ≡ true → (a || b) ≡ true
or_second true b h = refl
or_second false b h = h

-- a name that one name reads is read
pub read_somewhere : (a b : Name) (qs : List Equation) → (b among read_by a qs) ≡ true → (b among read_in qs) ≡ true
unfolding read_by read_in mem
read_somewhere a b [] h = h
read_somewhere a b (q ∷ qs) h =
    among_append b (reads q.rhs) (read_in qs)
    ∙ here (read_somewhere a b qs) (a among q.lhs) (sym (among_append b (if a among q.lhs then reads q.rhs else []) (read_by a qs)) ∙ h)
  where
    later : (t u : Bool) → (t || u) ≡ true → (u ≡ true → (b among read_in qs) ≡ true) → (t || b among read_in qs) ≡ true
    later true u k f = refl
    later false u k f = f k

    here : ((b among read_by a qs) ≡ true → (b among read_in qs) ≡ true) → (t : Bool) → (b among (if t then reads q.rhs else []) || b among read_by a qs) ≡ true → (b among reads q.rhs || b among read_in qs) ≡ true
    here f true k = later (b among reads q.rhs) (b among read_by a qs) k f
    here f false k = or_second (b among reads q.rhs) (b among read_in qs) (f k)

-- a name that is defined or read is a name of the graph
in_graph : (x : Name) (qs : List Equation) → (x among defined qs || x among read_in qs) ≡ true → (x among graph_names qs) ≡ true
unfolding graph_names
in_graph x qs h =
    let l = defined qs ++ read_in qs in
    in_mem ◌is◌ is_test (in_set x l (mem_in ◌is◌ is_test x l (among_append x (defined qs) (read_in qs) ∙ h)))

-- ---- what the search is shown

-- the edges and the names assigned show the equations
pub shown : {ks ws : List ℕ} (g : Model ks ws) {n : Node} {at : ℕ} → StandingNode g n at → {set graph : List ℕ} → Holds g.text (defined n.equations) set → GraphOf g n graph
    → Shows n.equations g.text g.names graph set
shown g {n} s k e = record {
  few = g.some_names;
  increasing = g.increasing;
  numbered = s.numbered;
  edges = λ a b p r. e.edges a b (omega (arith, g.some_names)) (omega (arith, g.some_names));
  edges_within = λ a b p r h.
      below b (or_second (g.text b among defined n.equations) (g.text b among read_in n.equations) (read_somewhere (g.text a) (g.text b) n.equations (sym (e.edges a b (omega (arith, g.some_names)) r) ∙ h)));
  starts = λ a p. k.each a (omega (arith, g.some_names));
  starts_within = λ a p h. below a (or_first (g.text a among defined n.equations) (g.text a among read_in n.equations) (sym (k.each a p) ∙ h));
}
  where
    below : (b : ℕ) → (g.text b among defined n.equations || g.text b among read_in n.equations) ≡ true → b < g.names
    below b h =
        let r = s.numbered (g.text b) (in_graph (g.text b) n.equations h) in
        let q = apart g r.0 b r.2 in
        omega (arith, r.1, q)

-- ---- the lines

-- the notes behind those of the equations, part by part
closing_parts : (n : Node) (env : List Port)
    → closing_notes n env
    ≡ absent 50 (defined n.equations) (port_names n.outputs) ++ absent 51 (defined n.equations) (port_names n.locals) ++ cycle_notes n.kind n.equations ++ absent 150 (port_names env) n.probes
unfolding closing_notes
closing_parts n env = refl

-- what writing a line for each port that a set lacks does
abbrev Lacks : List ℕ → List ℕ → ℕ → List ℕ → ℕ → Spot → Lines → Lines → Type 0
Lacks ks ws list set code q l l' =
    (g : PortsHere ks ws list) (num : Name → ℕ) → Numbers g.text num → (xs : List Name) → Holds g.text xs set → Noted num q (absent code xs (port_names g.ps)) l l'

-- the outputs and locals that are not assigned, the loop, and the probes that are not in force
pub closed : {ks ws sc : List ℕ} {at : ℕ} (g : NodeOpen ks ws sc at) {r : Opened} {probes : ℕ} {q : Spot} {set graph : List ℕ} {l l₁ l₂ l₃ l₄ : Lines} {looked : ℕ}
    → ListsAt g.n at r → probes ≡ probes_from g.n at → (g.n.kind ≡ Imported → ⊥)
    → Holds g.model.text (defined g.n.equations) set → GraphOf g.model g.n graph
    → Lacks ks ws r.outputs set 50 q l l₁ → Lacks ks ws r.locals set 51 q l₁ l₂
    → looked ≤ 262144
    → ((kind : NodeKind) (qs : List Equation) (text : Naming) (num : Name → ℕ) (names : ℕ) → (kind ≡ Imported → ⊥) → Numbers text num
    → Shows qs text names graph set → Noted num q (cycle_notes kind qs) l₂ l₃ × (looked ≡ looks kind qs))
    → ((h : NamesHere ws probes) (num : Name → ℕ) → Numbers h.text num
    → (as' : List (Name × Ty)) (rs : List (Name × List Port)) (vs : List (Name × Name)) (cs : List (Name × Ty)) (ns : List (Name × Heading)) (env : List Port)
    → Tables (source h.ks ws h.text) as' rs vs cs ns env sc → Noted num q (absent 150 (port_names env) h.xs) l₃ l₄)
    → NodeClosed g.model g.n q l looked l₄
closed g ls e k h w first second few loops third =
    let s = g.node.stands in
    let f = g.node.shallow in
    let num = g.model.number in
    let b = g.model.back in
    let xs = defined g.n.equations in
    let c = loops g.n.kind g.n.equations g.model.text num g.model.names k b (shown g.model g.node h w) in
    record {
      noted = rw (closing_parts g.n (env_of g.n)) (
          noted_append
          (noted_append (noted_append (first (outputs_here s f ls.outputs) num b xs h) (second (locals_here s f ls.locals) num b xs h)) c.0)
          (third (probes_here s f e) num b _ _ _ _ _ (env_of g.n) g.declared));
      looked = c.1;
      few = few;
    }
