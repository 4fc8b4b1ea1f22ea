-- The records with `false` for one right-hand side are those of the project with `false` there, so records are equal but for it exactly if the
-- projects are.
-- Assumes nothing.
use Rattle.std.specs.Prelude.{if◌then◌else◌}
use Prim.Native.Nat.{ℕ, zero, suc, ◌-◌, ◌<◌, ◌≤◌}
use native.Mathlib.Omega.{arith}
use mathlib.Core.Path.{◌≡◌, refl, sym, ◌∙◌, ap}
use mathlib.Core.Bool.{Bool, true, false}
use mathlib.Core.List.{List, [], ◌∷◌, ◌++◌, map}
use lib.Dec.{eqb, ltb}
use lib.ListN.{length, length-map}
use lib.Seq.{take_at, drop_at}
use borrow.Author.Tests.{ltb-true, ltb-false}
use Rattle.lustre.specs.Name.{Name, mem}
use Rattle.lustre.specs.Records.{Rec}
use Rattle.lustre.specs.Expr.{Expr}
use Rattle.lustre.specs.Project.{Port, Equation, Node, Package, Project}
use Rattle.lustre.specs.Grammar.{one, a_project, an_expression, node_kind, plain_rec, numbered_rec, named_rec, each_of, list_of, flat, flat_name, flat_port, flat_decl, flat_constant, flat_equation, flat_node, flat_package, flat_project}
use Rattle.lustre.specs.Answer.{project_read}
use Rattle.demands.specs.Parts.{starts_node, ends_node}
use Rattle.demands.specs.Reading.{Each, WritableExpr, WritablePorts, WritableNode, WritablePackage}
use Rattle.demands.specs.OneEquation.{past, mask_side, mask_in, masked, replace_equations, replace_node, replace_nodes, replace, literal_false, mask, MaskedRecords, MaskedTrees}
use Rattle.demands.proofs.Inside.{Inner, done, next, nodes_only, equations_too, fewer_barred, not_mem, kept, ◌then◌, in_expr, in_names, in_ports, in_node, in_opening}
use Rattle.demands.proofs.Reading.{same_parts, whole_project}
use Rattle.demands.proofs.ReadBack.{reads_back}
use Rattle.demands.proofs.NodeParts.{starts}
use Rattle.demands.proofs.Replace.{equations_many, nodes_many, packages_many}

-- ---- the equation

-- records that are no equation's, no node's and no package's stay
stays : (j : ℕ) (r : Rec) (k : List Rec) → mem eqb r.kind equations_too ≡ false → mask_in j (r ∷ k) ≡ r ∷ mask_in j k
unfolding mask_in
stays zero r k p = let q = not_mem r.kind 13 _ p in rw (q.1, mask_in, q.0, mask_in)
stays (suc j) r k p = let q = not_mem r.kind 13 _ p in rw (q.1, mask_in, q.0, mask_in)

mask_in_kept : (j : ℕ) {F : List Rec → List Rec} → Inner equations_too F → (k : List Rec) → mask_in j (F k) ≡ F (mask_in j k)
mask_in_kept j = kept (mask_in j) (stays j)

names_first : (xs : List Name) (k : List Rec) → each_of flat_name xs k ≡ map (named_rec 8) xs ++ k
unfolding each_of
names_first [] k = refl
names_first (x ∷ xs) k = ap (λ r. named_rec 8 x ∷ r) (names_first xs k)

side_masked : (xs : List Name) (e : Expr) (k : List Rec) → WritableExpr e
    → mask_side (list_of flat_name xs (flat e k)) ≡ list_of flat_name xs (numbered_rec 40 0 ∷ k)
unfolding mask_side past
side_masked xs e k w =
    let m = map (named_rec 8) xs in
    let n : length m ≡ length xs = length-map xs (named_rec 8) in
    rw (names_first xs (flat e k), take_at m (flat e k) (length xs) n, drop_at m (flat e k) (length xs) n, reads_back (one an_expression) e k w)
    (ap (λ r. numbered_rec 3 (length xs) ∷ r) (sym (names_first xs (numbered_rec 40 0 ∷ k))))

-- no equation follows in the same node
abbrev Ends : List Rec → Type 0
Ends k = (t : ℕ) → mask_in t k ≡ k

in_list_of_names : (xs : List Name) → Inner equations_too (list_of flat_name xs)
unfolding mem
in_list_of_names xs = next _ refl (in_names xs)

equations_masked : (j : ℕ) (qs : List Equation) (ps : List Name) (k : List Rec) → Each (λ (q : Equation). WritableExpr q.rhs) qs → Ends k
    → mask_in j (each_of flat_equation qs (list_of flat_name ps k)) ≡ each_of flat_equation (replace_equations literal_false j qs) (list_of flat_name ps k)
unfolding each_of replace_equations mask_in mem flat
equations_masked j [] ps k w z = mask_in_kept j (in_list_of_names ps) k ∙ ap (list_of flat_name ps) (z j)
equations_masked zero (q ∷ qs) ps k w z = ap (λ r. plain_rec 13 ∷ r) (side_masked q.lhs q.rhs (each_of flat_equation qs (list_of flat_name ps k)) w.0)
equations_masked (suc j) (q ∷ qs) ps k w z =
    ap (λ r. plain_rec 13 ∷ r)
    (mask_in_kept j (in_list_of_names q.lhs then in_expr q.rhs w.0) (each_of flat_equation qs (list_of flat_name ps k))
    ∙ ap (λ r. list_of flat_name q.lhs (flat q.rhs r)) (equations_masked j qs ps k w.1 z))

-- ---- the node

in_list_of_ports : (ps : List Port) → WritablePorts ps → Inner equations_too (list_of flat_port ps)
unfolding mem
in_list_of_ports ps h = next _ refl (fewer_barred (in_ports ps h))

-- a node's ports and locals
abbrev ports_of : Node → List Rec → List Rec
ports_of n k = list_of flat_port n.inputs (list_of flat_port n.outputs (list_of flat_port n.locals k))

in_ports_of : (n : Node) → WritableNode n → Inner equations_too (ports_of n)
in_ports_of n w = in_list_of_ports n.inputs w.0 then in_list_of_ports n.outputs w.1 then in_list_of_ports n.locals w.2

body_masked : (j : ℕ) (n : Node) (k : List Rec) → WritableNode n → Ends k
    → mask_in j (ports_of n (list_of flat_equation n.equations (list_of flat_name n.probes k)))
    ≡ ports_of n (list_of flat_equation (replace_equations literal_false j n.equations) (list_of flat_name n.probes k))
unfolding mem
body_masked j n k w z =
    let probes = list_of flat_name n.probes k in
    let counted = numbered_rec 3 (length n.equations) in
    let replaced = replace_equations literal_false j n.equations in
    mask_in_kept j (in_ports_of n w then next counted refl done) (each_of flat_equation n.equations probes)
    ∙ ap (λ r. ports_of n (counted ∷ r)) (equations_masked j n.equations n.probes k w.3 z)
    ∙ ap (λ (m : ℕ). ports_of n (numbered_rec 3 m ∷ each_of flat_equation replaced probes)) (sym (equations_many literal_false j n.equations))

-- what starts a node or a package has no equation of the node before
ends_at : (r : Rec) (k : List Rec) → ends_node r.kind ≡ true → Ends (r ∷ k)
unfolding mask_in
ends_at r k e zero = rw (e, mask_in)
ends_at r k e (suc t) = rw (e, mask_in)

ends_nil : Ends []
unfolding mask_in
ends_nil t = refl

-- records that start no node stay
passes : (i j : ℕ) (r : Rec) (k : List Rec) → starts_node r.kind ≡ false → masked i j (r ∷ k) ≡ r ∷ masked i j k
unfolding masked
passes zero j r k p = rw (p, masked)
passes (suc i) j r k p = rw (p, masked)

masked_kept : (i j : ℕ) {F : List Rec → List Rec} → Inner nodes_only F → (k : List Rec) → masked i j (F k) ≡ F (masked i j k)
masked_kept i j = kept (masked i j) (passes i j)

module _ (j : ℕ) (n : Node) (k : List Rec) where
  node_masked : WritableNode n → Ends k → masked zero j (flat_node n k) ≡ flat_node (replace_node literal_false j n) k
  unfolding masked
  node_masked w z = rw ((starts n.kind).0, masked) (ap (λ r. named_rec (node_kind n.kind) n.name ∷ r) (body_masked j n k w z))

  node_passed : (i : ℕ) → WritableNode n → masked (suc i) j (flat_node n k) ≡ flat_node n (masked i j k)
  unfolding masked
  node_passed i w = rw ((starts n.kind).0, masked) (ap (λ r. named_rec (node_kind n.kind) n.name ∷ r) (masked_kept i j (fewer_barred (in_node n w)) k))

-- ---- nodes, packages, the project

ends_nodes : (ns : List Node) {k : List Rec} → Ends k → Ends (each_of flat_node ns k)
unfolding each_of
ends_nodes [] z = z
ends_nodes (n ∷ ns) z = ends_at (named_rec (node_kind n.kind) n.name) _ (starts n.kind).1

nodes_within : (i j : ℕ) (ns : List Node) {k : List Rec} → Each WritableNode ns → Ends k → i < length ns
    → masked i j (each_of flat_node ns k) ≡ each_of flat_node (replace_nodes literal_false i j ns) k
unfolding each_of replace_nodes
nodes_within i j [] w z h = absurd (omega arith)
nodes_within zero j (n ∷ ns) {k} w z h = node_masked j n (each_of flat_node ns k) w.0 (ends_nodes ns z)
nodes_within (suc i) j (n ∷ ns) {k} w z h = node_passed j n (each_of flat_node ns k) i w.0 ∙ ap (flat_node n) (nodes_within i j ns w.1 z (omega arith))

nodes_behind : (i j : ℕ) (ns : List Node) (k : List Rec) → Each WritableNode ns → length ns ≤ i
    → masked i j (each_of flat_node ns k) ≡ each_of flat_node (replace_nodes literal_false i j ns) (masked (i - length ns) j k)
unfolding each_of replace_nodes
nodes_behind i j [] k w h = ap (λ (m : ℕ). masked m j k) (omega arith)
nodes_behind zero j (n ∷ ns) k w h = absurd (omega arith)
nodes_behind (suc i) j (n ∷ ns) k w h =
    let rest = each_of flat_node (replace_nodes literal_false i j ns) in
    node_passed j n (each_of flat_node ns k) i w.0
    ∙ ap (flat_node n) (nodes_behind i j ns k w.1 (omega arith) ∙ ap (λ (m : ℕ). rest (masked m j k)) (omega arith))

-- a package, before its nodes
abbrev opened : Package → ℕ → List Rec → List Rec
opened p m k = named_rec 2 p.name ∷ list_of flat_decl p.types (list_of flat_constant p.constants (numbered_rec 3 m ∷ k))

package_opened : (i j : ℕ) (p : Package) (k : List Rec) → WritablePackage p
    → masked i j (opened p (length p.nodes) k) ≡ opened p (length p.nodes) (masked i j k)
unfolding mem
package_opened i j p k w = masked_kept i j (next (named_rec 2 p.name) refl (fewer_barred (in_opening p w))) k

ends_packages : (P : Project) → Ends (each_of flat_package P [])
unfolding each_of mem
ends_packages [] = ends_nil
ends_packages (p ∷ P) = ends_at (named_rec 2 p.name) _ refl

packages_masked : (i j : ℕ) (P : Project) → Each WritablePackage P → masked i j (each_of flat_package P []) ≡ each_of flat_package (mask i j P) []
unfolding each_of replace masked
packages_masked i j [] w = refl
packages_masked i j (p ∷ P) w =
    package_opened i j p (each_of flat_node p.nodes (each_of flat_package P [])) w.0
    ∙ ap (opened p m) (go (ltb i m) refl (packages_masked (i - m) j P w.1))
    ∙ ap (λ (n : ℕ). opened p n (front (each_of flat_package (if ltb i m then P else mask (i - m) j P) []))) (sym (nodes_many literal_false i j p.nodes))
  where
    m : ℕ
    m = length p.nodes

    front : List Rec → List Rec
    front = each_of flat_node (replace_nodes literal_false i j p.nodes)

    go : (t : Bool) → ltb i m ≡ t → masked (i - m) j (each_of flat_package P []) ≡ each_of flat_package (mask (i - m) j P) []
        → masked i j (each_of flat_node p.nodes (each_of flat_package P [])) ≡ front (each_of flat_package (if t then P else mask (i - m) j P) [])
    go true e ih = nodes_within i j p.nodes w.0.2 (ends_packages P) (ltb-true i m e)
    go false e ih = nodes_behind i j p.nodes (each_of flat_package P []) w.0.2 (ltb-false i m e) ∙ ap front ih

pub project_masked : (i j : ℕ) (P : Project) → Each WritablePackage P → masked i j (flat_project P []) ≡ flat_project (mask i j P) []
unfolding mem
project_masked i j P w =
    passes i j (numbered_rec 1 (length P)) (each_of flat_package P []) refl
    ∙ ap (λ r. numbered_rec 1 (length P) ∷ r) (packages_masked i j P w)
    ∙ ap (λ (m : ℕ). numbered_rec 1 m ∷ each_of flat_package (mask i j P) []) (sym (packages_many literal_false i j P))

pub masked_records : MaskedRecords
masked_records rs t e i j = ap (masked i j) (whole_project rs t e).1 ∙ project_masked i j (project_read rs) (whole_project rs t e).0

-- ---- what is put there can be written

abbrev WritableSides : List Equation → Type 0
WritableSides = Each (λ (q : Equation). WritableExpr q.rhs)

equations_writable : (j : ℕ) (qs : List Equation) → WritableSides qs → WritableSides (replace_equations literal_false j qs)
unfolding replace_equations WritableExpr
equations_writable j [] w = tt
equations_writable zero (q ∷ qs) w = (tt, w.1)
equations_writable (suc j) (q ∷ qs) w = (w.0, equations_writable j qs w.1)

nodes_writable : (i j : ℕ) (ns : List Node) → Each WritableNode ns → Each WritableNode (replace_nodes literal_false i j ns)
unfolding replace_nodes
nodes_writable i j [] w = tt
nodes_writable zero j (n ∷ ns) w = ((w.0.0, w.0.1, w.0.2, equations_writable j n.equations w.0.3), w.1)
nodes_writable (suc i) j (n ∷ ns) w = (w.0, nodes_writable i j ns w.1)

pub packages_writable : (i j : ℕ) (P : Project) → Each WritablePackage P → Each WritablePackage (mask i j P)
unfolding replace
packages_writable i j [] w = tt
packages_writable i j (p ∷ P) w =
    ((w.0.0, w.0.1, nodes_writable i j p.nodes w.0.2), go (ltb i (length p.nodes)) (packages_writable (i - length p.nodes) j P w.1))
  where
    go : (t : Bool) → Each WritablePackage (mask (i - length p.nodes) j P) → Each WritablePackage (if t then P else mask (i - length p.nodes) j P)
    go true h = w.1
    go false h = h

-- ---- equal records, equal trees

pub masked_trees : MaskedTrees
masked_trees rs ss t u e d i j =
    let P = project_read rs in
    let Q = project_read ss in
    let p = packages_writable i j P (whole_project rs t e).0 in
    let q = packages_writable i j Q (whole_project ss u d).0 in
    let a = masked_records rs t e i j in
    let b = masked_records ss u d i j in (
      λ same. (same_parts (one a_project) (mask i j P) (mask i j Q) [] [] p q (sym a ∙ same ∙ b)).0,
      λ same. a ∙ ap (λ (R : Project). flat_project R []) same ∙ sym b,
    )
