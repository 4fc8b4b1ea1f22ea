-- What one equation can move, and some equations of a node, on the arguments of two calls.
-- Assumes nothing.
use Prim.Native.Nat.{ℕ}
use mathlib.Core.Path.{◌≡◌, refl, sym, ◌∙◌, ap}
use mathlib.Core.Bool.{true, ◌&&◌, not}
use mathlib.Core.List.{List, [], ◌∷◌, map}
use mathlib.Core.Option.{Option}
use lib.Dec.{eqb}
use lib.ListN.{get_elem?}
use borrow.Author.Tests.{eq-eqb}
use Rattle.lustre.specs.Name.{mem}
use Rattle.lustre.specs.Project.{Node, Project, skeleton, all_nodes}
use Rattle.lustre.specs.Grammar.{flat_project}
use Rattle.lustre.specs.Line.{Line}
use Rattle.lustre.specs.Report.{report}
use Rattle.lustre.specs.Answer.{project_of}
use Rattle.demands.specs.Parts.{node_part}
use Rattle.demands.specs.Nodes.{is_node, about_node}
use Rattle.demands.specs.Reading.{Each, WritableNode, WritablePackage, part_of}
use Rattle.demands.specs.Demand3.{Call, Reported, project_records, project, lines_of, about}
use Rattle.demands.specs.OneEquation.{masked, masked_all, is_imported, may_move, others, OneEquation, SomeEquations, literal_false, mask, TreeMeant, remark_may_move, line_may_move, other_lines}
use Rattle.demands.proofs.Keeps.{keep_map, keep_swap}
use Rattle.demands.proofs.Sets.{mem_eq, mem_later}
use Rattle.demands.proofs.Eaches.{IfSome}
use Rattle.demands.proofs.Nodes.{judged_alone}
use Rattle.demands.proofs.NodeParts as PartsProved
use Rattle.demands.proofs.Calls.{passed, spoken}
use Rattle.demands.proofs.Demand3.{four, about_spoken, tidy, whole, lines_spoken, part_is, same_node, writable_at, writable_nodes}
use Rattle.demands.proofs.Replace.{same_skeleton, masks_replace}
use Rattle.demands.proofs.Apart.{replaced, imported, still_imported, imported_moves_none}
use Rattle.demands.proofs.Masked.{project_masked, packages_writable, masked_trees}

-- the lines of a call that may not move
others_told : (c : Call) (r : Reported c) (i : ℕ) (js : List ℕ) → others i js (lines_of c r) ≡ map spoken (other_lines i js (report (project c)))
unfolding spoken
others_told c r i js =
    rw (lines_spoken c r)
    (keep_map (λ l. not (may_move i js l)) spoken (λ l. not (line_may_move i js l))
    (λ l. ap (λ t. not ((t && eqb l.number i) && remark_may_move js l.remark)) (four l.place))
    (report (project c)))

-- a call's node i is imported where its records say so
told_imported : (c : Call) (r : Reported c) (i : ℕ) → is_imported (node_part i (project_records c)) ≡ true → imported (project c) i ≡ true
told_imported c r i h = sym (ap is_imported (part_is c r i)) ∙ h

-- ---- one equation

module _ (c d : Call) (r : Reported c) (s : Reported d) (i j : ℕ) where
  -- records that are equal but for a right-hand side are those of projects that are, and the other way round
  trees : (masked i j (project_records c) ≡ masked i j (project_records d) → mask i j (project c) ≡ mask i j (project d))
      × (mask i j (project c) ≡ mask i j (project d) → masked i j (project_records c) ≡ masked i j (project_records d))
  unfolding project_of
  trees = masked_trees (project_records c) (project_records d) (tidy c) (tidy d) (passed c r).tree (passed d s).tree i j

pub tree_meant : TreeMeant
tree_meant c d r s i j =
    let masks = masks_replace (project c) (project d) i j in
    (λ e. masks.0 ((trees c d r s i j).0 e), λ new e. (trees c d r s i j).1 (masks.1 new e))

pub one_equation : OneEquation
one_equation c d r s i j e =
    let P = project c in
    let Q = project d in
    let same = (trees c d r s i j).0 e in
    let own = mem_eq eqb j j [] (eq-eqb j j refl) in
    let kept : Project → List Line = λ R. other_lines i (j ∷ []) (report R) in
    let apart : (R : Project) → kept R ≡ kept (mask i j R) = λ R. replaced R literal_false i j (j ∷ []) own in (
      others_told c r i (j ∷ [])
          ∙ ap (map spoken) (apart P ∙ ap kept same ∙ sym (apart Q))
          ∙ sym (others_told d s i (j ∷ [])),
      λ h.
          let p = told_imported c r i h in
          let q = sym (still_imported literal_false i j Q) ∙ ap (λ (R : Project). imported R i) (sym same) ∙ still_imported literal_false i j P ∙ p in
          lines_spoken c r
          ∙ ap (map spoken) (imported_moves_none literal_false i j P p ∙ ap report same ∙ sym (imported_moves_none literal_false i j Q q))
          ∙ sym (lines_spoken d s),
    )

-- ---- some equations of a node

-- `false` for their right-hand sides, one after the other; it can be written, and its records, skeleton and other lines are as expected
unfoldable mask_all : ℕ → List ℕ → Project → Project
mask_all i [] P = P
mask_all i (j ∷ js) P = mask i j (mask_all i js P)

all_writable : (i : ℕ) (js : List ℕ) (P : Project) → Each WritablePackage P → Each WritablePackage (mask_all i js P)
unfolding mask_all
all_writable i [] P w = w
all_writable i (j ∷ js) P w = packages_writable i j (mask_all i js P) (all_writable i js P w)

all_masked : (i : ℕ) (js : List ℕ) (P : Project) → Each WritablePackage P → masked_all i js (flat_project P []) ≡ flat_project (mask_all i js P) []
unfolding mask_all masked_all
all_masked i [] P w = refl
all_masked i (j ∷ js) P w = ap (masked i j) (all_masked i js P w) ∙ project_masked i j (mask_all i js P) (all_writable i js P w)

all_skeleton : (i : ℕ) (js : List ℕ) (P : Project) → skeleton (mask_all i js P) ≡ skeleton P
unfolding mask_all
all_skeleton i [] P = refl
all_skeleton i (j ∷ js) P = same_skeleton literal_false i j (mask_all i js P) ∙ all_skeleton i js P

all_replaced : (i : ℕ) (js ks : List ℕ) → ((k : ℕ) → mem eqb k ks ≡ true → mem eqb k js ≡ true) → (P : Project)
    → other_lines i js (report P) ≡ other_lines i js (report (mask_all i ks P))
unfolding mask_all
all_replaced i js [] h P = refl
all_replaced i js (k ∷ ks) h P =
    all_replaced i js ks (λ m e. h m (mem_later eqb m k ks e)) P
    ∙ replaced (mask_all i ks P) literal_false i k js (h k (mem_eq eqb k k ks (eq-eqb k k refl)))

-- an imported node stays one, and all its lines stay
all_still : (i : ℕ) (js : List ℕ) (P : Project) → imported (mask_all i js P) i ≡ imported P i
unfolding mask_all
all_still i [] P = refl
all_still i (j ∷ js) P = still_imported literal_false i j (mask_all i js P) ∙ all_still i js P

all_move_none : (i : ℕ) (js : List ℕ) (P : Project) → imported P i ≡ true → report P ≡ report (mask_all i js P)
unfolding mask_all
all_move_none i [] P h = refl
all_move_none i (j ∷ js) P h = all_move_none i js P h ∙ imported_moves_none literal_false i j (mask_all i js P) (all_still i js P ∙ h)

module _ (c : Call) (r : Reported c) (i : ℕ) (js : List ℕ) where
  abbrev masked_project : Project
  masked_project = mask_all i js (project c)

  abbrev node : Option Node
  node = get_elem? (all_nodes masked_project) i

  can_write : Each WritablePackage masked_project
  can_write = all_writable i js (project c) (whole c r).0

  -- node i's masked records are those of the masked node
  masked_part : node_part i (masked_all i js (project_records c)) ≡ part_of node
  masked_part =
      ap (λ rs. node_part i (masked_all i js rs)) (whole c r).1
      ∙ ap (node_part i) (all_masked i js (project c) (whole c r).0)
      ∙ PartsProved.node_of masked_project can_write i

  can_read : IfSome WritableNode node
  can_read = writable_at (all_nodes masked_project) i (writable_nodes masked_project can_write)

  -- what is said about the masked node, with the skeleton as it was
  about_masked : about_node i (report masked_project) ≡ judged_alone.node_law (skeleton (project c)) i node
  about_masked = judged_alone.node_is masked_project i ∙ ap (λ s. judged_alone.node_law s i node) (all_skeleton i js (project c))

  others_about : about i (others i js (lines_of c r)) ≡ map spoken (other_lines i js (judged_alone.node_law (skeleton (project c)) i node))
  others_about =
      ap (about i) (others_told c r i js ∙ ap (map spoken) (all_replaced i js js (λ k e. e) (project c)))
      ∙ about_spoken i (other_lines i js (report masked_project))
      ∙ ap (map spoken)
      (keep_swap (λ l. is_node l.place && eqb l.number i) (λ l. not (line_may_move i js l)) (report masked_project)
      ∙ ap (other_lines i js) about_masked)

  all_about : imported (project c) i ≡ true → about i (lines_of c r) ≡ map spoken (judged_alone.node_law (skeleton (project c)) i node)
  all_about h =
      ap (about i) (lines_spoken c r ∙ ap (map spoken) (all_move_none i js (project c) h))
      ∙ about_spoken i (report masked_project)
      ∙ ap (map spoken) about_masked

pub some_equations : SomeEquations
unfolding project_of
some_equations c d r s i js e part =
    let skeletons = PartsProved.same_skeleton (project_records c) (project_records d) (tidy c) (tidy d) (passed c r).tree (passed d s).tree e in
    let parts = sym (masked_part c r i js) ∙ part ∙ masked_part d s i js in
    let nodes : node c r i js ≡ node d s i js = same_node (node c r i js) (node d s i js) (can_read c r i js) (can_read d s i js) parts in (
      rw (others_about c r i js, others_about d s i js, skeletons, nodes),
      λ h.
          let p = told_imported c r i h in
          let q = sym (all_still i js (project d)) ∙ ap (λ (o : Option Node). is_imported (part_of o)) (sym nodes) ∙ all_still i js (project c) ∙ p in
          rw (all_about c r i js p, all_about d s i js q, skeletons, nodes),
    )
