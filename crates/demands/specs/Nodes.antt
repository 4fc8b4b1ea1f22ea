-- The lines about a node and about no node; and the first law of demand 3: they depend on the skeleton and that node alone.
-- Assumes nothing: these are definitions and statements, proved in proofs/.
use Rattle.std.specs.Prelude.{ℕ, ◌≡◌, Bool, true, false, ◌&&◌, not, List, [], ◌∷◌, eqb, if◌then◌else◌}
use Rattle.std.proofs.Math.Option.{Option}
use Rattle.std.proofs.Math.ListN.{get_elem?}
use Rattle.lustre.specs.Project.{Node, Project, Skeleton, skeleton, all_nodes}
use Rattle.lustre.specs.Line.{Line, Place, at_package, at_enum, at_type, at_constant, at_node}
use Rattle.lustre.specs.Report.{report}

abbrev pub keep : {A : Type 0} → (A → Bool) → List A → List A
keep f [] = []
keep f (l ∷ ls) = if f l then l ∷ keep f ls else keep f ls

abbrev pub is_node : Place → Bool
is_node at_package = false
is_node at_enum = false
is_node at_type = false
is_node at_constant = false
is_node at_node = true

-- the lines about node i, and the lines about no node
abbrev pub about_node : ℕ → List Line → List Line
about_node i = keep (λ l. is_node l.place && eqb l.number i)

abbrev pub about_none : List Line → List Line
about_none = keep (λ l. not (is_node l.place))

-- the lines about node i are a function of the skeleton, i and node i; those about no node, of the skeleton
pub record JudgedAlone : Type 0 where
  pub node_law : Skeleton → ℕ → Option Node → List Line
  pub node_is : (P : Project) (i : ℕ) → about_node i (report P) ≡ node_law (skeleton P) i (get_elem? (all_nodes P) i)
  pub none_law : Skeleton → List Line
  pub none_is : (P : Project) → about_none (report P) ≡ none_law (skeleton P)
