-- Demand 3 on the arguments of two calls, and that no line has a number that is no name's.
-- Assumes nothing.
use Prim.Native.Nat.{ℕ, zero, suc}
use native.Mathlib.Omega.{arith}
use mathlib.Core.Path.{◌≡◌, refl, sym, ◌∙◌, ap}
use mathlib.Core.Bool.{Bool, true, false, ◌&&◌, not}
use mathlib.Core.List.Memᴰ
use mathlib.Core.List.{List, [], ◌∷◌, map}
use mathlib.Core.Option.{Option, none, some}
use lib.Dec.{eqb}
use lib.ListN.{get_elem?}
use Rattle.lustre.specs.Name.{Name, mem, ◌among◌}
use Rattle.lustre.specs.Names.{names_of, name_at}
use Rattle.lustre.specs.Records.{word_classes, class_in, word_class, spell_as}
use Rattle.lustre.specs.Project.{Node, Project, skeleton, all_nodes}
use Rattle.lustre.specs.Grammar.{one, a_project, a_node, each_of, flat_node, flat_project}
use Rattle.lustre.specs.Line.{Line, Place, at_package, at_enum, at_type, at_constant, at_node}
use Rattle.lustre.specs.Report.{report}
use Rattle.lustre.specs.Answer.{place_number, is_blank, spelled, project_of}
use Rattle.lustre.proofs.Blank.{read_as_lent, of_both, blank_project}
use Rattle.demands.specs.Parts.{node_part}
use Rattle.demands.specs.Nodes.{is_node, about_node, about_none}
use Rattle.demands.specs.Reading.{Each, Writable, WritableNode, WritablePackage, Tidy, part_of}
use Rattle.demands.specs.Demand3.{Call, Reported, project_records, project, Said, stray, lines_of, about, about_no_node, Demand3, NoStray}
use Rattle.demands.proofs.Keeps.{keep_map}
use Rattle.demands.proofs.Known.{KnownRecords}
use Rattle.demands.proofs.Eaches.{IfSome, each_append}
use Rattle.demands.proofs.Naming.{accepted_names}
use Rattle.demands.proofs.Nodes.{judged_alone}
use Rattle.demands.proofs.Reading.{same_parts, spelled_tidy, whole_project}
use Rattle.demands.proofs.NodeParts.{node_parts, same_skeleton}
use Rattle.demands.proofs.RecordNames.{project_known, spelled_known}
use Rattle.demands.proofs.ReportNames.{report_known}
use Rattle.demands.proofs.Calls.{passed, reported_lines, spoken_name, spoken, said_lines}

-- place kind 4 is node
pub four : (p : Place) → eqb (place_number p) 4 ≡ is_node p
unfolding place_number
four at_package = refl
four at_enum = refl
four at_type = refl
four at_constant = refl
four at_node = refl

-- the lines about node i, and about no node, are the same before and after names are told as texts
pub about_spoken : (i : ℕ) (ls : List Line) → about i (map spoken ls) ≡ map spoken (about_node i ls)
unfolding spoken
about_spoken i = keep_map (λ l. eqb l.place 4 && eqb l.number i) spoken (λ l. is_node l.place && eqb l.number i) (λ l. ap (λ t. t && eqb l.number i) (four l.place))

about_none_spoken : (ls : List Line) → about_no_node (map spoken ls) ≡ map spoken (about_none ls)
unfolding spoken
about_none_spoken = keep_map (λ l. not (eqb l.place 4)) spoken (λ l. not (is_node l.place)) (λ l. ap not (four l.place))

never_stray : (o : Option Name) (w : ℕ) → spoken_name o ≡ stray w → ⊥
unfolding spoken_name
never_stray none w e = let z : ◌≡◌ {A = ℕ} 0 1 = cc in omega arith
never_stray (some x) w e = let z : ◌≡◌ {A = ℕ} 0 1 = cc in omega arith

pub writable_at : (ns : List Node) (i : ℕ) → Each WritableNode ns → IfSome WritableNode (get_elem? ns i)
writable_at [] i h = tt
writable_at (n ∷ ns) zero h = h.0
writable_at (n ∷ ns) (suc i) h = writable_at ns i h.1

pub writable_nodes : (P : Project) → Each WritablePackage P → Each WritableNode (all_nodes P)
unfolding all_nodes
writable_nodes [] h = tt
writable_nodes (p ∷ ps) h = each_append WritableNode p.nodes (all_nodes ps) h.0.2 (writable_nodes ps h.1)

pub tidy : (c : Call) → Tidy (project_records c)
unfolding spelled spell_as word_class class_in word_classes mem each_of
tidy c = of_both c.kinds c.words c.text Tidy (refl, tt) (spelled_tidy (name_at (names_of c.text)) c.kinds c.words)

-- nodes of equal records are equal
pub same_node : (m n : Option Node) → IfSome WritableNode m → IfSome WritableNode n → part_of m ≡ part_of n → m ≡ n
same_node none none v w e = refl
same_node none (some n) v w e = cc
same_node (some m) none v w e = cc
same_node (some m) (some n) v w e = ap some (same_parts (one a_node) m n [] [] v w e).0

module _ (c : Call) (r : Reported c) where
  -- the records that the project is read from are its flattening, and their names are among the names lent
  pub whole : Writable (one a_project) (project c) × (project_records c ≡ flat_project (project c) [])
  unfolding project_of
  whole = whole_project (project_records c) (tidy c) (passed c r).tree

  known : KnownRecords (λ x. (x among names_of c.text) ≡ true) (project_records c)
  unfolding spelled word_class class_in word_classes mem each_of
  known =
      of_both c.kinds c.words c.text (KnownRecords (λ x. (x among names_of c.text) ≡ true)) (tt, tt)
      (spelled_known (names_of c.text) c.kinds c.words 0 (passed c r).ranged)

  -- the records lent are the flattening too, unless there are none
  pub written : is_blank c.kinds c.text ≡ false → spelled c.kinds c.words c.text ≡ flat_project (project c) []
  written b = sym (read_as_lent c.kinds c.words c.text b) ∙ whole.1

  -- the lines are the report's, with names as texts
  pub lines_spoken : lines_of c r ≡ map spoken (report (project c))
  lines_spoken =
      let names = names_of c.text in
      let K : Name → Type 0 = λ x. (x among names) ≡ true in
      reported_lines c r ∙ said_lines names (accepted_names c.text (passed c r).named) (report (project c)) (report_known K (project c) (project_known K (project c) (rw whole.1 at known)))

  -- the two laws of the report's lines, on the lines of the call
  none_told : about_no_node (lines_of c r) ≡ map spoken (judged_alone.none_law (skeleton (project c)))
  none_told = rw (lines_spoken, about_none_spoken (report (project c)), judged_alone.none_is (project c))

  module _ (i : ℕ) where
    abbrev node : Option Node
    node = get_elem? (all_nodes (project c)) i

    node_told : about i (lines_of c r) ≡ map spoken (judged_alone.node_law (skeleton (project c)) i node)
    node_told = rw (lines_spoken, about_spoken i (report (project c)), judged_alone.node_is (project c) i)

    -- node i's records are the records of the tree's node i
    pub part_is : node_part i (project_records c) ≡ part_of node
    unfolding project_of
    part_is = node_parts (project_records c) (tidy c) (passed c r).tree i

    -- and so are those among the records lent
    pub lent_part : (n : Node) → node ≡ some n → node_part i (spelled c.kinds c.words c.text) ≡ flat_node n []
    unfolding all_nodes
    lent_part n e = go (is_blank c.kinds c.text) refl
      where
        go : (t : Bool) → is_blank c.kinds c.text ≡ t → node_part i (spelled c.kinds c.words c.text) ≡ flat_node n []
        go true b =
            let z : ◌≡◌ {A = Option Node} none (some n) = sym (ap (λ (P : Project). get_elem? (all_nodes P) i) (blank_project c.kinds c.words c.text b)) ∙ e in
            absurd (let w : ◌≡◌ {A = ℕ} 0 1 = cc in omega arith)
        go false b = ap (node_part i) (sym (read_as_lent c.kinds c.words c.text b)) ∙ part_is ∙ ap part_of e

    writable : IfSome WritableNode node
    writable = writable_at (all_nodes (project c)) i (writable_nodes (project c) whole.0)

pub demand_3 : Demand3
unfolding project_of
demand_3 c d r s e =
    let same : skeleton (project c) ≡ skeleton (project d) = same_skeleton (project_records c) (project_records d) (tidy c) (tidy d) (passed c r).tree (passed d s).tree e in (
      rw (none_told c r, none_told d s, same),
      λ i part.
          let equal = same_node (node c r i) (node d s i) (writable c r i) (writable d s i) (sym (part_is c r i) ∙ part ∙ part_is d s i) in
          rw (node_told c r i, node_told d s i, same, equal),
    )

pub no_stray : NoStray
unfolding spoken
no_stray c r l m w e =
    let a = Memᴰ.of_map spoken (report (project c)) (rw (lines_spoken c r) at m) in
    never_stray a.0.remark.note.name w (ap (λ (k : Said). k.name) a.2 ∙ e)
