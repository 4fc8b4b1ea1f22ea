-- A node's ports and edges taken out again, and the lines behind those of its equations.
-- Assumes nothing.
use Prim.Native.Nat.{ℕ}
use mathlib.Core.Path.{◌≡◌, refl, sym, ◌∙◌}
use mathlib.Core.Logic.{⊎_elim}
use mathlib.Core.Bool.{Bool, true, false, ◌||◌, ◌&&◌}
use mathlib.Core.List.{List, [], ◌∷◌, ◌++◌, append_assoc, append-nil}
use Rattle.lustre.specs.Name.{Name, ◌among◌, mem}
use Rattle.lustre.specs.Types.{Ty}
use Rattle.lustre.specs.Project.{Port, Heading, Equation, Node, port_names}
use Rattle.lustre.specs.Deps.{defined, read_by}
use Rattle.demands.proofs.Sets.{clash, split}
use Rattle.standing.specs.Standing.{source}
use Rattle.loops.specs.Rows.{has, Cleared}
use Rattle.types.specs.Value.{Injective}
use Rattle.rules.specs.World.{PortsHere}
use Rattle.scope.specs.Model.{Model}
use Rattle.scope.specs.Tables.{Declared, Forgetting}
use Rattle.scope.specs.Sets.{Holds}
use Rattle.scope.proofs.Rows.{forgetting_start, forgetting_done}
use Rattle.scope.proofs.World.{apart}
use Rattle.scope.proofs.Sets.{among_append}
use Rattle.nodes.specs.declared.Opened.{Opened}
use Rattle.nodes.specs.Nodes.{Blank, env_of, NodeOpen, ListsAt, GraphOf}
use Rattle.nodes.proofs.Opens.{inputs_here, outputs_here, locals_here, names_append}

-- ---- the graph

-- of two tests neither holds
neither : (a b : Bool) → (a || b) ≡ false → (a ≡ false) × (b ≡ false)
neither true b h = absurd (clash refl h)
neither false b h = (refl, h)

-- a name on no left-hand side reads nothing
pub read_nothing : (a : Name) (qs : List Equation) → (a among defined qs) ≡ false → read_by a qs ≡ []
unfolding defined read_by
read_nothing a [] h = refl
read_nothing a (q ∷ qs) h =
    let e = neither (a among q.lhs) (a among defined qs) (sym (among_append a q.lhs (defined qs)) ∙ h) in
    rw (e.0, read_nothing a qs e.1)

-- no name is among none
among_none : (x : Name) → (x among []) ≡ false
unfolding mem
among_none x = refl

-- a conjunction whose second part fails
and_false : (b : Bool) → (b && false) ≡ false
and_false true = refl
and_false false = refl

-- where the rows of the names assigned are emptied, no edge is left
pub cleared_blank : {ks ws : List ℕ} (g : Model ks ws) (n : Node) {set graph graph' : List ℕ} → Holds g.text (defined n.equations) set → GraphOf g n graph
    → Cleared graph set graph' → Blank graph'
cleared_blank g n {set} {graph} k e c = record {
  empty = λ a b p r.
      c.edges a b p r
      ∙ ⊎_elim
      (λ (h : (g.text a among defined n.equations) ≡ true). rw (k.each a p, h) (and_false (has graph a b)))
      (λ (h : (g.text a among defined n.equations) ≡ false). rw (e.edges a b p r, read_nothing (g.text a) n.equations h, among_none (g.text b)))
      (split (g.text a among defined n.equations));
}

-- ---- the scope

-- the names of a node's ports and locals, list by list
env_names : (n : Node) → port_names (env_of n) ≡ port_names n.inputs ++ (port_names n.outputs ++ (port_names n.locals ++ []))
env_names n =
    names_append (n.inputs ++ n.outputs) n.locals
    ∙ rw (names_append n.inputs n.outputs, append-nil (port_names n.locals), append_assoc (port_names n.inputs) (port_names n.outputs) (port_names n.locals))

-- what taking the ports of a list out of the scope does
abbrev Forgets : List ℕ → List ℕ → ℕ → List ℕ → List ℕ → Type 0
Forgets ks ws list sc sc' =
    (g : PortsHere ks ws list) → Injective g.text
    → (as' : List (Name × Ty)) (rs : List (Name × List Port)) (vs : List (Name × Name)) (cs : List (Name × Ty)) (ns : List (Name × Heading)) (xs : List Name)
    → Forgetting (source ks ws g.text) as' rs vs cs ns (port_names g.ps ++ xs) sc → Forgetting (source ks ws g.text) as' rs vs cs ns xs sc'

-- the inputs, outputs and locals are taken out one after another
pub cleared_scope : {ks ws sc : List ℕ} {at : ℕ} (g : NodeOpen ks ws sc at) {r : Opened} {sc₁ sc₂ sc₃ : List ℕ} → ListsAt g.n at r
    → Forgets ks ws r.inputs sc sc₁ → Forgets ks ws r.outputs sc₁ sc₂ → Forgets ks ws r.locals sc₂ sc₃ → Declared g.model [] sc₃
cleared_scope g ls first second third =
    let s = g.node.stands in
    let f = g.node.shallow in
    let i = apart g.model in
    let outs = port_names g.n.outputs in
    let locs = port_names g.n.locals in
    forgetting_done (
    third (locals_here s f ls.locals) i _ _ _ _ _ [] (
    second (outputs_here s f ls.outputs) i _ _ _ _ _ (locs ++ []) (
    first (inputs_here s f ls.inputs) i _ _ _ _ _ (outs ++ (locs ++ [])) (rw (env_names g.n) at (forgetting_start g.declared)))))
