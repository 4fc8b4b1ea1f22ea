-- The first law of demand 3: the lines about a node depend on the skeleton and that node alone, those about no node on the skeleton.
-- Assumes nothing.
use Prim.Native.Nat.{ℕ, zero, suc, ◌+◌, ◌<◌}
use native.Mathlib.Nat.{add-zero, zero-add, add-suc, suc-add}
use native.Mathlib.Omega.{arith}
use mathlib.Core.Path.{◌≡◌, refl, ap}
use mathlib.Core.List.{List, [], ◌∷◌, ◌++◌, map, append-nil}
use mathlib.Core.Option.{Option, none, some}
use lib.ListN.{get_elem?}
use borrow.Author.Tests.{eq-eqb, ne_eqb}
use Rattle.lustre.specs.Project.{Node, Project, skeleton, all_nodes}
use Rattle.lustre.specs.Line.{Line, Remark}
use Rattle.lustre.specs.Resolve.{Scope, context}
use Rattle.lustre.specs.Node.{node_remarks}
use Rattle.lustre.specs.Report.{report, opening, of_place, node_lines, nodes_lines}
use Rattle.demands.specs.Nodes.{about_node, about_none, JudgedAlone}
use Rattle.demands.proofs.Keeps.{keep_append}

-- the lines of node k are all about it, and about no other node; and none is about no node
own : (k : ℕ) (rs : List Remark) → about_node k (map (of_place k) rs) ≡ map (of_place k) rs
unfolding of_place
own k [] = refl
own k (r ∷ rs) = rw (eq-eqb k k refl, own k rs)

other : (i k : ℕ) → (k ≡ i → ⊥) → (rs : List Remark) → about_node i (map (of_place k) rs) ≡ []
unfolding of_place
other i k h [] = refl
other i k h (r ∷ rs) = rw (ne_eqb k i h, other i k h rs)

at_nodes : (k : ℕ) (rs : List Remark) → about_none (map (of_place k) rs) ≡ []
unfolding of_place
at_nodes k [] = refl
at_nodes k (r ∷ rs) = at_nodes k rs

-- of the nodes' lines, from number k on: none is about an earlier node, those about node k + j are that node's own, and all are about nodes
before : (Γ : Scope) (i k : ℕ) → i < k → (ns : List Node) → about_node i (nodes_lines Γ k ns) ≡ []
unfolding nodes_lines node_lines
before Γ i k h [] = refl
before Γ i k h (n ∷ ns) = rw (keep_append, other i k (omega arith) (node_remarks Γ n), before Γ i (suc k) (omega arith) ns)

-- the lines of the node that is number i, if there is one
unfoldable pub own_lines : Scope → ℕ → Option Node → List Line
own_lines Γ i none = []
own_lines Γ i (some n) = node_lines Γ i n

picked : (Γ : Scope) (k j : ℕ) (ns : List Node) → about_node (k + j) (nodes_lines Γ k ns) ≡ own_lines Γ (k + j) (get_elem? ns j)
unfolding nodes_lines node_lines own_lines
picked Γ k j [] = refl
picked Γ k zero (n ∷ ns) = rw (add-zero, keep_append, own k (node_remarks Γ n), before Γ k (suc k) (omega arith) ns, append-nil)
picked Γ k (suc j) (n ∷ ns) = rw (add-suc, ← suc-add, keep_append, other (suc k + j) k (omega arith) (node_remarks Γ n)) (picked Γ (suc k) j ns)

all_about_nodes : (Γ : Scope) (k : ℕ) (ns : List Node) → about_none (nodes_lines Γ k ns) ≡ []
unfolding nodes_lines node_lines
all_about_nodes Γ k [] = refl
all_about_nodes Γ k (n ∷ ns) = rw (keep_append, at_nodes k (node_remarks Γ n)) (all_about_nodes Γ (suc k) ns)

-- the lines about node i
pub lines_about : (P : Project) (i : ℕ) → about_node i (report P) ≡ about_node i (opening (skeleton P)) ++ own_lines (context (skeleton P)) i (get_elem? (all_nodes P) i)
unfolding report
lines_about P i = rw keep_append (ap (λ r. about_node i (opening (skeleton P)) ++ r) (rw zero-add at (picked (context (skeleton P)) 0 i (all_nodes P))))

pub judged_alone : JudgedAlone
unfolding report
judged_alone = record {
  node_law = λ s i n. about_node i (opening s) ++ own_lines (context s) i n;
  node_is = lines_about;
  none_law = λ s. about_none (opening s);
  none_is = λ P. rw (keep_append, all_about_nodes (context (skeleton P)) 0 (all_nodes P), append-nil);
}
