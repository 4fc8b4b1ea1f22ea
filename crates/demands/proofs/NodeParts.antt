-- The records of a node are found by their kinds alone, and the records outside nodes' locals, equations and probes tell the skeleton.
-- Assumes nothing.
use Rattle.std.specs.Prelude.{if◌then◌else◌}
use Prim.Native.Nat.{ℕ, zero, suc}
use mathlib.Core.Path.{◌≡◌, refl, ap, sym, ◌∙◌}
use mathlib.Core.Bool.{true}
use mathlib.Core.List.{List, [], ◌∷◌, ◌++◌, map}
use mathlib.Core.Option.{none}
use lib.Dec.{eqb}
use lib.ListN.{length, get_elem?}
use Rattle.lustre.specs.Name.{mem}
use Rattle.lustre.specs.Records.{Rec}
use Rattle.lustre.specs.Project.{NodeKind, Function, Operator, Imported, Node, Heading, PackageOf, Package, Project, heading, skeleton, all_nodes}
use Rattle.lustre.specs.Grammar.{node_kind, numbered_rec, named_rec, each_of, list_of, flat_port, flat_decl, flat_constant, flat_node, flat_package, flat_project}
use Rattle.lustre.specs.Grammar.{list, a_declaration, a_constant, a_port}
use Rattle.lustre.specs.Answer.{no_project, project_read}
use Rattle.demands.specs.Parts.{View, all, lists, hidden, fewer, starts_node, ends_node, up_to_next, node_part, view, within, show, shown}
use Rattle.demands.specs.Reading.{Each, WritableNode, WritablePackage, Tidy, part_of, NodeParts, SameSkeleton}
use Rattle.demands.proofs.Inside.{done, next, fewer_barred, up_to_next_in, node_part_in, hidden_in, all_in, lists_in, in_ports, in_body, in_node, in_opening}
use Rattle.demands.proofs.ReadBack.{same_parts}
use Rattle.demands.proofs.Reading.{whole_project}

-- the records of a node's heading, and with headings in place of nodes those of a package and a project
abbrev outer_node : Node → List Rec → List Rec
outer_node n k = named_rec (node_kind n.kind) n.name ∷ list_of flat_port n.inputs (list_of flat_port n.outputs k)

abbrev outer_rest : Package → List Rec → List Rec
outer_rest p k = list_of flat_constant p.constants (list_of outer_node p.nodes k)

abbrev outer_package : Package → List Rec → List Rec
outer_package p k = named_rec 2 p.name ∷ list_of flat_decl p.types (outer_rest p k)

abbrev outer_project : Project → List Rec
outer_project P = numbered_rec 1 (length P) ∷ each_of outer_package P []

-- the records k begin with a node or a package, if with any; their nodes are ms, and o is what is shown of them
record Rest (k : List Rec) (ms : List Node) (o : List Rec) : Type 0 where
  ends : up_to_next k ≡ []
  part : (i : ℕ) → node_part i k ≡ part_of (get_elem? ms i)
  seen : (s : View) → shown s k ≡ o

pub starts : (c : NodeKind) → (starts_node (node_kind c) ≡ true) × (ends_node (node_kind c) ≡ true)
unfolding mem
starts = elim [ Function ↦ (refl, refl) | Operator ↦ (refl, refl) | Imported ↦ (refl, refl) ]

view_node : (s : View) (c : NodeKind) → view s (node_kind c) ≡ lists 2
unfolding view
view_node s c = rw ((starts c).0, view)

-- a node in front of such records, nodes, a package, and packages
rest_node : (n : Node) {k o : List Rec} {ms : List Node} → WritableNode n → Rest k ms o → Rest (flat_node n k) (n ∷ ms) (outer_node n o)
unfolding up_to_next node_part shown show view within fewer mem
rest_node n {k} {o} {ms} h t = record {
  ends = rw ((starts n.kind).1, up_to_next);
  part = part_at;
  seen = λ s. rw (view_node s n.kind, lists_in 1 (in_ports n.inputs h.0), lists_in 0 (in_ports n.outputs h.1), hidden_in (in_body n h), t.seen hidden);
}
  where
    part_at : (i : ℕ) → node_part i (flat_node n k) ≡ part_of (get_elem? (n ∷ ms) i)
    part_at zero = rw ((starts n.kind).0, node_part) (rw (up_to_next_in (in_node n h) k, t.ends))
    part_at (suc i) = rw ((starts n.kind).0, node_part) (node_part_in i (fewer_barred (in_node n h)) k ∙ t.part i)

rest_nodes : (ns : List Node) {k o : List Rec} {ms : List Node} → Each WritableNode ns → Rest k ms o → Rest (each_of flat_node ns k) (ns ++ ms) (each_of outer_node ns o)
unfolding each_of
rest_nodes [] h t = t
rest_nodes (n ∷ ns) h t = rest_node n h.0 (rest_nodes ns h.1 t)

rest_package : (p : Package) {k o : List Rec} {ms : List Node} → WritablePackage p → Rest k ms o → Rest (flat_package p k) (p.nodes ++ ms) (outer_package p o)
unfolding up_to_next shown show view within mem
rest_package p {k} {o} {ms} h t = record {
  ends = refl;
  part = λ i. node_part_in i (next _ refl (fewer_barred (in_opening p h))) _ ∙ ns.part i;
  seen = λ s. rw (all_in (in_opening p h), ns.seen all);
}
  where
    ns : Rest (each_of flat_node p.nodes k) (p.nodes ++ ms) (each_of outer_node p.nodes o)
    ns = rest_nodes p.nodes h.2 t

rest_packages : (P : Project) → Each WritablePackage P → Rest (each_of flat_package P []) (all_nodes P) (each_of outer_package P [])
unfolding each_of all_nodes up_to_next node_part shown
rest_packages [] h = record { ends = refl; part = λ i. refl; seen = λ s. refl }
rest_packages (p ∷ P) h = rest_package p h.0 (rest_packages P h.1)

-- the walks over a whole project
pub node_of : (P : Project) → Each WritablePackage P → (i : ℕ) → node_part i (flat_project P []) ≡ part_of (get_elem? (all_nodes P) i)
unfolding mem
node_of P h i = node_part_in i (next (numbered_rec 1 (length P)) refl done) _ ∙ (rest_packages P h).part i

outer_of : (P : Project) → Each WritablePackage P → shown all (flat_project P []) ≡ outer_project P
unfolding shown show view within mem
outer_of P h = rw ((rest_packages P h).seen all)

-- Where equal records f of elements tell that g of them and what follows are equal, so do equal records of lists.
module _ {X Y : Type 0} (f : X → List Rec → List Rec) (g : X → Y) (Ok : X → Type 0)
    (same : (v w : X) (j k : List Rec) → Ok v → Ok w → f v j ≡ f w k → (g v ≡ g w) × (j ≡ k)) where
  same_each : (vs ws : List X) (j k : List Rec) → Each Ok vs → Each Ok ws → length vs ≡ length ws → each_of f vs j ≡ each_of f ws k → (map g vs ≡ map g ws) × (j ≡ k)
  unfolding each_of
  same_each [] [] j k p q l e = (refl, e)
  same_each [] (w ∷ ws) j k p q l e = (cc, cc)
  same_each (v ∷ vs) [] j k p q l e = (cc, cc)
  same_each (v ∷ vs) (w ∷ ws) j k p q l e =
      let first = same v w (each_of f vs j) (each_of f ws k) p.0 q.0 e in
      let others = same_each vs ws j k p.1 q.1 (cc) first.1 in
      (cc, others.1)

  same_list : (c : ℕ) (vs ws : List X) (j k : List Rec) → Each Ok vs → Each Ok ws
      → numbered_rec c (length vs) ∷ each_of f vs j ≡ numbered_rec c (length ws) ∷ each_of f ws k → (map g vs ≡ map g ws) × (j ≡ k)
  same_list c vs ws j k p q e =
      let r : numbered_rec c (length vs) ≡ numbered_rec c (length ws) = cc in
      same_each vs ws j k p q (ap (λ (x : Rec). x.number) r) cc

-- the node kind that a record kind says
kind_of : ℕ → NodeKind
kind_of k = if eqb k 10 then Function else if eqb k 11 then Operator else Imported

kind_back : (c : NodeKind) → kind_of (node_kind c) ≡ c
unfolding kind_of
kind_back = elim [ Function ↦ refl | Operator ↦ refl | Imported ↦ refl ]

same_node : (n m : Node) (j k : List Rec) → WritableNode n → WritableNode m → outer_node n j ≡ outer_node m k → (heading n ≡ heading m) × (j ≡ k)
unfolding heading
same_node n m j k p q e =
    let r : named_rec (node_kind n.kind) n.name ≡ named_rec (node_kind m.kind) m.name = cc in
    let i = same_parts (list a_port) n.inputs m.inputs (list_of flat_port n.outputs j) (list_of flat_port m.outputs k) p.0 q.0 cc in
    let o = same_parts (list a_port) n.outputs m.outputs j k p.1 q.1 i.1 in
    let c = sym (kind_back n.kind) ∙ ap (λ (x : Rec). kind_of x.kind) r ∙ kind_back m.kind in
    let x = ap (λ (x : Rec). x.text) r in
    (cc, o.1)

-- a package of the skeleton
abbrev headings : Package → PackageOf Heading
headings p = record { name = p.name; types = p.types; constants = p.constants; nodes = map heading p.nodes }

same_package : (p q : Package) (j k : List Rec) → WritablePackage p → WritablePackage q → outer_package p j ≡ outer_package q k → (headings p ≡ headings q) × (j ≡ k)
same_package p q j k u v e =
    let r : named_rec 2 p.name ≡ named_rec 2 q.name = cc in
    let x = ap (λ (x : Rec). x.text) r in
    let d = same_parts (list a_declaration) p.types q.types (outer_rest p j) (outer_rest q k) u.0 v.0 cc in
    let c = same_parts (list a_constant) p.constants q.constants (list_of outer_node p.nodes j) (list_of outer_node q.nodes k) u.1 v.1 d.1 in
    let n = same_list outer_node heading WritableNode same_node 3 p.nodes q.nodes j k u.2 v.2 c.1 in
    (cc, n.1)

skeleton_each : (P : Project) → skeleton P ≡ map headings P
unfolding skeleton
skeleton_each [] = refl
skeleton_each (p ∷ P) = rw (skeleton_each P)

same_outer : (P Q : Project) → Each WritablePackage P → Each WritablePackage Q → outer_project P ≡ outer_project Q → skeleton P ≡ skeleton Q
same_outer P Q u v e = skeleton_each P ∙ (same_list outer_package headings WritablePackage same_package 1 P Q [] [] u v e).0 ∙ sym (skeleton_each Q)

pub node_parts : NodeParts
node_parts rs t e i = ap (node_part i) (whole_project rs t e).1 ∙ node_of (project_read rs) (whole_project rs t e).0 i

outer_at : (rs : List Rec) → Tidy rs → no_project rs ≡ none → shown all rs ≡ outer_project (project_read rs)
outer_at rs t e = ap (shown all) (whole_project rs t e).1 ∙ outer_of (project_read rs) (whole_project rs t e).0

pub same_skeleton : SameSkeleton
same_skeleton rs ss t u e d q = same_outer (project_read rs) (project_read ss) (whole_project rs t e).0 (whole_project ss u d).0 (sym (outer_at rs t e) ∙ q ∙ outer_at ss u d)
