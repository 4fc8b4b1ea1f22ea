-- The pass over the nodes, step by step: lib.rs 192.
-- Assumes nothing.
use Prim.Native.Nat.{ℕ, suc, ◌+◌, ◌*◌, ◌/◌, ◌%◌, ◌<◌, ◌≤◌}
use native.Mathlib.Omega.{arith}
use native.Mathlib.Numerals.{add-one}
use mathlib.Core.Path.{◌≡◌, ap, ◌∙◌}
use mathlib.Core.List.{List, []}
use lib.ListN.{length, get_or, take, replicate, length-replicate, get_or-replicate}
use lib.Seq.{get_or-take}
use Rattle.lustre.specs.Project.{skeleton, all_nodes}
use Rattle.lustre.specs.Line.{Line}
use Rattle.lustre.specs.Node.{looks as looks_of}
use Rattle.lustre.specs.Resolve.{context}
use Rattle.lustre.specs.Report.{node_lines, nodes_lines, looks_all}
use Rattle.loops.specs.Rows.{bit, has}
use Rattle.loops.proofs.Bits.{bit_zero}
use Rattle.scope.specs.Model.{Model}
use Rattle.scope.specs.Tables.{Declared}
use Rattle.scope.specs.Writes.{Reports}
use Rattle.scope.proofs.Writes.{reports_none, reports_append}
use Rattle.tables.specs.Heads.{Head, heads, nodes_among, Meets}
use Rattle.tables.proofs.Heads.{meets, nodes_met, past, node_here, no_more}
use Rattle.nodes.specs.Nodes.{Blank, NodeGiven, NodeChecked}
use Rattle.lines.specs.declared.Lines.{Lines}

-- the first 4,096 of zero words are a graph with no edge
pub blank_front : {w : List ℕ} {n : ℕ} → w ≡ replicate n 0 → 4096 ≤ n → Blank (take 4096 w)
unfolding has
blank_front {w} {n} e l =
    let long : length w ≡ n = ap length e ∙ length-replicate {A = ℕ} n 0 in
    record {
      empty = λ a b p q. (
          let i = 8 * a + b / 64 in
          let zero : get_or (take 4096 w) i 0 ≡ 0 = get_or-take 4096 w i 0 (omega arith) ∙ ap (λ (v : List ℕ). get_or v i 0) e ∙ get_or-replicate {A = ℕ} n i 0 0 (omega arith) in
          ap (λ (v : ℕ). bit v (b % 64)) zero ∙ bit_zero (b % 64));
    }

-- what the check of the node at a record does
abbrev pub NodePassed : (ks ws sc : List ℕ) (at number : ℕ) (l : Lines) (r : ℕ) (sc' graph' : List ℕ) (l' : Lines) → Type 0
NodePassed ks ws sc at number l r sc' graph' l' = (G : NodeGiven ks ws sc at) → NodeChecked G.model G.n number l r sc' graph' l'

-- The state of the pass at a record: the heads still to come, the declarations in the scope with no port, the graph with no edge, and how
-- the lines and looks of the nodes still to come complete those of the project.
pub record Judging {ks ws : List ℕ} (g : Model ks ws) (l₀ : Lines) (at number looks : ℕ) (sc graph : List ℕ) (l : Lines) : Type 0 where
  pub hs : List Head
  pub to_come : Meets g at hs
  pub declared : Declared g [] sc
  pub blank : Blank graph
  pub looked : looks + looks_all (nodes_among hs) ≡ looks_all (all_nodes g.P)
  pub rest : {l' : Lines} → Reports g.number (nodes_lines (context (skeleton g.P)) number (nodes_among hs)) l l' → Reports g.number (nodes_lines (context (skeleton g.P)) 0 (all_nodes g.P)) l₀ l'

module _ {ks ws : List ℕ} (g : Model ks ws) {l₀ : Lines} where
  -- no node yet
  pub judging_start : {sc graph : List ℕ} → Declared g [] sc → Blank graph → Judging g l₀ 1 0 0 sc graph l₀
  judging_start T b = record {
    hs = heads g.P;
    to_come = meets g;
    declared = T;
    blank = b;
    looked = let q = ap looks_all (nodes_met g.P) in omega (arith, q);
    rest = λ r. rw (nodes_met g.P) at r;
  }

  module _ {at number looks : ℕ} {sc graph : List ℕ} {l : Lines} (d : Judging g l₀ at number looks sc graph l) where
    -- a record that begins no node
    pub judging_past : at < length ks → (10 ≤ get_or ks at 0 → get_or ks at 0 ≤ 12 → ⊥) → Judging g l₀ (at + 1) number looks sc graph l
    judging_past b a =
        let p = past g d.to_come b in
        record {
          hs = p.rest;
          to_come = p.onward;
          declared = d.declared;
          blank = d.blank;
          looked = rw (p.nodes a) at d.looked;
          rest = λ r. d.rest (rw (p.nodes a) r);
        }

    -- what the check of a node asks
    abbrev pub judging_given : at < length ks → 10 ≤ get_or ks at 0 → get_or ks at 0 ≤ 12 → NodeGiven ks ws sc at
    judging_given h a b =
        let c = node_here g d.to_come h a b in
        record { model = g; n = c.node; node = record { stands = c.stands; shallow = c.shallow; numbered = c.numbered }; declared = d.declared }

    -- a node, with its lines and looks
    pub judging_node : {r : ℕ} {sc' graph' : List ℕ} {l' : Lines} → at < length ks → 10 ≤ get_or ks at 0 → get_or ks at 0 ≤ 12 → NodePassed ks ws sc at number l r sc' graph' l' → Judging g l₀ (at + 1) (number + 1) (looks + r) sc' graph' l'
    unfolding nodes_among nodes_lines looks_all
    judging_node h a b w =
        let c = node_here g d.to_come h a b in
        let Γ = context (skeleton g.P) in
        let done = w (judging_given h a b) in
        let own : List Line = node_lines Γ number c.node in
        let later : List Line = nodes_lines Γ (suc number) (nodes_among c.rest) in
        let before : looks + (looks_of c.node.kind c.node.equations + looks_all (nodes_among c.rest)) ≡ looks_all (all_nodes g.P) = rw c.are at d.looked in
        record {
          hs = c.rest;
          to_come = c.onward;
          declared = done.declared;
          blank = done.blank;
          looked = omega (arith, done.looked, before);
          rest = λ e. d.rest (rw c.are (reports_append g.number own later done.reports (rw add-one at e)));
        }

    -- every record has been looked at
    pub judging_done : length ks ≤ at → Reports g.number (nodes_lines (context (skeleton g.P)) 0 (all_nodes g.P)) l₀ l × (looks ≡ looks_all (all_nodes g.P))
    unfolding nodes_among nodes_lines looks_all
    judging_done b =
        let e = no_more g d.to_come b in
        let looked : looks + 0 ≡ looks_all (all_nodes g.P) = rw e at d.looked in
        (d.rest (rw e (reports_none g.number)), omega (arith, looked))
