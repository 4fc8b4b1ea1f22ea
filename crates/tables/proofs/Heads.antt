-- One pass over the records of a model meets every head, from the first package on; and what a pass learns from the kind of a record.
-- Assumes nothing.
use Prim.Native.Nat.{ℕ, zero, suc, ◌+◌, ◌-◌, ◌≤◌, ◌<◌}
use native.Mathlib.Omega.{arith}
use mathlib.Core.Path.{◌≡◌, refl, ap, sym, ◌∙◌}
use mathlib.Core.Bool.{false}
use mathlib.Core.List.{List, [], ◌∷◌, ◌++◌, map, append_assoc, map-append}
use lib.Dec.{eqb}
use lib.ListN.{length, get_or}
use borrow.Author.Tests.{ne_eqb, eq-eqb}
use Rattle.lustre.specs.Name.{Name, mem}
use Rattle.lustre.specs.Types.{Ty, levels}
use Rattle.lustre.specs.Expr.{Expr, size}
use Rattle.lustre.specs.Project.{Port, Decl, Alias, Record, Enum, Constant, Equation, NodeKind, Function, Operator, Imported, Node, Heading, Package, Project, heading, skeleton, all_types, all_constants, all_nodes}
use Rattle.lustre.specs.Grammar.{node_kind}
use Rattle.lustre.specs.Report.{tagged}
use Rattle.demands.specs.Reading.{Each}
use Rattle.demands.proofs.Sets.{clash, mustnt, mem_eq, mem_ne}
use Rattle.input.specs.Depths.{ShallowDecl, ShallowConstant, ShallowNode, ShallowPackage}
use Rattle.standing.specs.Standing.{RecAt, TypeAt, ExprAt, EachAt, sizes_of, ListAt, list_size, PortAt, port_size, PortsAt, ports_size, MentionAt, one_record, NamesAt, names_size}
use Rattle.standing.specs.Standing.{DeclAt, decl_size, ConstantAt, constant_size, EquationAt, equation_size, NodeAt, node_size, outputs_from, locals_from, equations_from, probes_from, PackageAt, package_size}
use Rattle.standing.proofs.Inversions.{type_kind, expr_kind, decl_record, decl_kind}
use Rattle.standing.proofs.Owed.{Part, of_type, of_expr, of_list, of_values, of_value, PartAt, Owing, next, start, owing_none}
use Rattle.scope.specs.Model.{Model, Numbered}
use Rattle.scope.specs.Tables.{records}
use Rattle.tables.specs.Heads.{Head, a_package, a_type, a_constant, a_node, heads_in, heads, head_kinds, types_among, constants_among, nodes_among, Meets, at_end, passed, met}

-- ---- kinds of heads and others

-- a number that is not found in a list is none of them
absent : (k : ℕ) (bs : List ℕ) → mem eqb k bs ≡ false → Each (λ b. (k ≡ b → ⊥)) bs
absent k [] h = tt
absent k (b ∷ bs) h =
    let no = mustnt (eqb k b) (λ q. clash (mem_eq eqb k b bs q) h) in
    (λ e. clash (eq-eqb k b e) no, absent k bs (sym (mem_ne eqb k b bs no) ∙ h))

-- and one that is none of them is not found
none_of : (k : ℕ) (bs : List ℕ) → Each (λ b. (k ≡ b → ⊥)) bs → mem eqb k bs ≡ false
unfolding mem
none_of k [] h = refl
none_of k (b ∷ bs) h = mem_ne eqb k b bs (ne_eqb k b h.0) ∙ none_of k bs h.1

-- a kind that begins no head, sort by sort
record Other (k : ℕ) : Type 0 where
  no_package : k ≡ 2 → ⊥
  no_type : 4 ≤ k → k ≤ 6 → ⊥
  no_constant : k ≡ 9 → ⊥
  no_node : 10 ≤ k → k ≤ 12 → ⊥

-- a number that is none of three in a row is not from the first to the last
three : (k n : ℕ) → (k ≡ n → ⊥) → (k ≡ n + 1 → ⊥) → (k ≡ n + 2 → ⊥) → n ≤ k → k ≤ n + 2 → ⊥
three k n a b c l h = omega arith

-- a kind that is not found among those of heads is none of theirs, sort by sort
other : (k : ℕ) → mem eqb k head_kinds ≡ false → Other k
other k h =
    let a = absent k head_kinds h in
    record {
      no_package = a.0;
      no_type = three k 4 a.1.0 a.1.1.0 a.1.1.1.0;
      no_constant = a.1.1.1.1.0;
      no_node = three k 10 a.1.1.1.1.1.0 a.1.1.1.1.1.1.0 a.1.1.1.1.1.1.1.0;
    }

-- kinds from 13 on begin no head
above : (k : ℕ) → 13 ≤ k → mem eqb k head_kinds ≡ false
above k h = none_of k head_kinds
    (λ e. omega arith, (λ e. omega arith, (λ e. omega arith, (λ e. omega arith, (λ e. omega arith, (λ e. omega arith, (λ e. omega arith, (λ e. omega arith, tt))))))))

-- nodes have the kinds 10 to 12
node_kinds : (k : NodeKind) → (10 ≤ node_kind k) × (node_kind k ≤ 12)
node_kinds Function = (omega arith, omega arith)
node_kinds Operator = (omega arith, omega arith)
node_kinds Imported = (omega arith, omega arith)

-- what holds of each of two lists' elements, of each list's
each_parts : {X : Type 0} (P : X → Type 0) (xs ys : List X) → Each P (xs ++ ys) → Each P xs × Each P ys
each_parts P [] ys h = (tt, h)
each_parts P (x ∷ xs) ys h = let r = each_parts P xs ys h.1 in ((h.0, r.0), r.1)

module _ {ks ws : List ℕ} (g : Model ks ws) where
  -- no head begins from one position up to another: what is met from the end is met from the start
  abbrev Through : ℕ → ℕ → Type 0
  Through at end = (hs : List Head) → Meets g end hs → Meets g at hs

  -- a record of a kind that begins no head
  through_one : {at k : ℕ} → RecAt (records g) at k → mem eqb k head_kinds ≡ false → Through at (at + 1)
  through_one r h hs m = passed r.in_kinds (rw r.kind h) m

  -- there is nothing between a position and itself
  through_same : {a b : ℕ} → a ≡ b → Through a b
  through_same q hs m = rw q m

  -- ---- types and expressions, record by record

  -- a part of an expression begins with a record of another kind
  part_kind : (p : Part) (at : ℕ) → PartAt (records g) p at → mem eqb (get_or ks at 0) head_kinds ≡ false
  unfolding mem
  part_kind (of_type t) at s = above (get_or ks at 0) (omega (arith, type_kind (records g) t at s))
  part_kind (of_expr e) at s = above (get_or ks at 0) (omega (arith, expr_kind (records g) e at s))
  part_kind (of_list es) at s = rw s.0.kind refl
  part_kind (of_values vs) at s = rw s.0.kind refl
  part_kind (of_value x e) at s = rw s.0.kind refl

  -- the records that are left of the parts owed begin no head
  walk : (fuel left : ℕ) {ps : List Part} {at end : ℕ} → Owing (records g) ps at end left → at + fuel ≡ end → Through at end
  walk zero left w q hs m = through_same (omega arith) hs m
  walk (suc fuel) zero w q hs m = absurd (omega (arith, owing_none (records g) w refl))
  walk (suc fuel) (suc left) {at = at} w q hs m =
      let n = next (records g) w (λ e. omega arith) in
      passed n.head.in_kinds (part_kind n.p at n.p_at) (walk fuel _ n.onward (omega arith) hs m)

  -- an expression has no head
  through_expr : (e : Expr) (at : ℕ) → ExprAt (records g) e at → Through at (at + size e)
  through_expr e at s = walk (size e) 1 (start (records g) e at s) refl

  -- a type has none
  through_type : (t : Ty) (at : ℕ) → TypeAt (records g) t at → Through at (at + levels t)
  unfolding sizes_of EachAt
  through_type t at s = walk (levels t) 1 {ps = of_type t ∷ []} (record { many = refl; stand = (s, tt); ends = omega arith }) refl

  -- ---- lists of parts that have no heads

  module _ {X : Type 0} (P : X → ℕ → Type 0) (size_of : X → ℕ) (one : (x : X) (at : ℕ) → P x at → Through at (at + size_of x)) where
    -- parts one after another have none
    through_each : (xs : List X) (at : ℕ) → EachAt P size_of xs at → Through at (at + sizes_of size_of xs)
    unfolding EachAt sizes_of
    through_each [] at s hs m = let q : at + 0 ≡ at = omega arith in rw q at m
    through_each (x ∷ xs) at s hs m =
        let q : at + (size_of x + sizes_of size_of xs) ≡ at + size_of x + sizes_of size_of xs = omega arith in
        one x at s.0 hs (through_each xs (at + size_of x) s.1 hs (rw q at m))

    -- a list record with its parts has none
    through_list : (xs : List X) (at : ℕ) → ListAt (records g) P size_of xs at → Through at (at + list_size size_of xs)
    unfolding mem
    through_list xs at s hs m =
        let q : at + (1 + sizes_of size_of xs) ≡ at + 1 + sizes_of size_of xs = omega arith in
        through_one s.head refl hs (through_each xs (at + 1) s.items hs (rw q at m))

  -- a port has none
  through_port : (p : Port) (at : ℕ) → PortAt (records g) p at → Through at (at + port_size p)
  unfolding mem
  through_port p at s hs m =
      let q : at + (1 + levels p.1) ≡ at + 1 + levels p.1 = omega arith in
      through_one s.head refl hs (through_type p.1 (at + 1) s.type hs (rw q at m))

  -- a list of ports has none
  through_ports : (ps : List Port) (at : ℕ) → PortsAt (records g) ps at → Through at (at + ports_size ps)
  through_ports = through_list (PortAt (records g)) port_size through_port

  -- a list of names has none
  through_names : (xs : List Name) (at : ℕ) → NamesAt (records g) xs at → Through at (at + names_size xs)
  unfolding mem
  through_names = through_list (MentionAt (records g)) one_record (λ x at s. through_one s.head refl)

  -- an equation has none
  through_equation : (q : Equation) (at : ℕ) → EquationAt (records g) q at → Through at (at + equation_size q)
  unfolding mem
  through_equation e at s hs m =
      let q : at + (1 + names_size e.lhs + size e.rhs) ≡ at + 1 + names_size e.lhs + size e.rhs = omega arith in
      let r = through_expr e.rhs (at + 1 + names_size e.lhs) s.rhs hs (rw q at m) in
      through_one s.head refl hs (through_names e.lhs (at + 1) s.lhs hs r)

  -- a list of equations has none
  through_equations : (qs : List Equation) (at : ℕ) → ListAt (records g) (EquationAt (records g)) equation_size qs at → Through at (at + list_size equation_size qs)
  through_equations = through_list (EquationAt (records g)) equation_size through_equation

  -- ---- declarations, constants and nodes: a head, and no other within

  -- a type is met at its record, then what is met behind it
  meet_decl : (d : Decl) (at : ℕ) (hs : List Head) → DeclAt (records g) d at → ShallowDecl d → Meets g (at + decl_size d) hs → Meets g at (a_type d ∷ hs)
  unfolding DeclAt decl_size
  meet_decl (Alias x t) at hs s h m =
      let q : at + (1 + levels t) ≡ at + 1 + levels t = omega arith in
      met {h = a_type (Alias x t)} (s, h) (through_type t (at + 1) s.2 hs (rw q at m))
  meet_decl (Record x fs) at hs s h m =
      let q : at + (1 + ports_size fs) ≡ at + 1 + ports_size fs = omega arith in
      met {h = a_type (Record x fs)} (s, h) (through_ports fs (at + 1) s.2 hs (rw q at m))
  meet_decl (Enum x vs) at hs s h m =
      let q : at + (1 + names_size vs) ≡ at + 1 + names_size vs = omega arith in
      met {h = a_type (Enum x vs)} (s, h) (through_names vs (at + 1) s.2 hs (rw q at m))

  -- so is a constant
  meet_constant : (c : Constant) (at : ℕ) (hs : List Head) → ConstantAt (records g) c at → ShallowConstant c → Meets g (at + constant_size c) hs → Meets g at (a_constant c ∷ hs)
  meet_constant c at hs s h m =
      let q : at + constant_size c ≡ at + 1 + levels c.type + size c.value = omega arith in
      let v = through_expr c.value (at + 1 + levels c.type) s.value hs (rw q at m) in
      met {h = a_constant c} (s, h) (through_type c.type (at + 1) s.type hs v)

  -- what a model says of a node beyond where it stands
  abbrev KeptNode : Node → Type 0
  KeptNode n = ShallowNode n × Numbered g.text g.names n.equations

  -- so is a node
  meet_node : (n : Node) (at : ℕ) (hs : List Head) → NodeAt (records g) n at → KeptNode n → Meets g (at + node_size n) hs → Meets g at (a_node n ∷ hs)
  meet_node n at hs s h m =
      let q : at + node_size n ≡ probes_from n at + names_size n.probes = omega arith in
      let p = through_names n.probes (probes_from n at) s.probes hs (rw q at m) in
      let e = through_equations n.equations (equations_from n at) s.equations hs p in
      let l = through_ports n.locals (locals_from n at) s.locals hs e in
      let o = through_ports n.outputs (outputs_from n at) s.outputs hs l in
      met {h = a_node n} (s, h.0, h.1) (through_ports n.inputs (at + 1) s.inputs hs o)

  -- a list whose every part is a head
  module _ {X : Type 0} (P : X → ℕ → Type 0) (Q : X → Type 0) (size_of : X → ℕ) (f : X → Head)
      (one : (x : X) (at : ℕ) (hs : List Head) → P x at → Q x → Meets g (at + size_of x) hs → Meets g at (f x ∷ hs)) where
    -- parts that are heads are met one after another
    meet_each : (xs : List X) (at : ℕ) (hs : List Head) → EachAt P size_of xs at → Each Q xs → Meets g (at + sizes_of size_of xs) hs → Meets g at (map f xs ++ hs)
    unfolding EachAt sizes_of
    meet_each [] at hs s h m = let q : at + 0 ≡ at = omega arith in rw q at m
    meet_each (x ∷ xs) at hs s h m =
        let q : at + (size_of x + sizes_of size_of xs) ≡ at + size_of x + sizes_of size_of xs = omega arith in
        one x at (map f xs ++ hs) s.0 h.0 (meet_each xs (at + size_of x) hs s.1 h.1 (rw q at m))

    -- so are those behind a list record
    meet_list : (xs : List X) (at : ℕ) (hs : List Head) → ListAt (records g) P size_of xs at → Each Q xs → Meets g (at + list_size size_of xs) hs → Meets g at (map f xs ++ hs)
    unfolding mem
    meet_list xs at hs s h m =
        let q : at + (1 + sizes_of size_of xs) ≡ at + 1 + sizes_of size_of xs = omega arith in
        through_one s.head refl (map f xs ++ hs) (meet_each xs (at + 1) hs s.items h (rw q at m))

  -- ---- packages and the project

  -- a package is met at its record, then its types, constants and nodes
  meet_package : (p : Package) (at : ℕ) (hs : List Head) → PackageAt (records g) p at → ShallowPackage p → Each KeptNode p.nodes
      → Meets g (at + package_size p) hs → Meets g at (a_package ∷ (heads_in p ++ hs))
  unfolding heads_in
  meet_package p at hs s h k m =
      let types = list_size decl_size p.types in
      let constants = list_size constant_size p.constants in
      let q : at + package_size p ≡ at + 1 + types + constants + list_size node_size p.nodes = omega arith in
      let n = meet_list (NodeAt (records g)) KeptNode node_size a_node meet_node p.nodes (at + 1 + types + constants) hs s.nodes k (rw q at m) in
      let c = meet_list (ConstantAt (records g)) ShallowConstant constant_size a_constant meet_constant p.constants (at + 1 + types) (map a_node p.nodes ++ hs) s.constants h.constants n in
      let t = meet_list (DeclAt (records g)) ShallowDecl decl_size a_type meet_decl p.types (at + 1) (map a_constant p.constants ++ (map a_node p.nodes ++ hs)) s.types h.types c in
      met {h = a_package} {hs = heads_in p ++ hs} s.head (simp append_assoc t)

  -- the names of each node are numbered
  abbrev NumbersKept : List Node → Type 0
  NumbersKept = Each (λ (n : Node). Numbered g.text g.names n.equations)

  -- what is said of each node's levels and of its names, together
  both_kept : (ns : List Node) → Each ShallowNode ns → NumbersKept ns → Each KeptNode ns
  both_kept [] h k = tt
  both_kept (n ∷ ns) h k = ((h.0, k.0), both_kept ns h.1 k.1)

  -- the packages are met one after another, up to the last record
  meet_packages : (P : Project) (at : ℕ) → EachAt (PackageAt (records g)) package_size P at → Each ShallowPackage P → NumbersKept (all_nodes P)
      → at + sizes_of package_size P ≡ length ks → Meets g at (heads P)
  unfolding EachAt sizes_of heads all_nodes
  meet_packages [] at s h k q = through_same (omega arith) [] at_end
  meet_packages (p ∷ ps) at s h k q =
      let parts = each_parts (λ (n : Node). Numbered g.text g.names n.equations) p.nodes (all_nodes ps) k in
      let rest = meet_packages ps (at + package_size p) s.1 h.1 parts.1 (omega arith) in
      meet_package p at (heads ps) s.0 h.0 (both_kept p.nodes h.0.nodes parts.0) rest

  -- from the first package on, a pass meets the heads of the project
  pub meets : Meets g 1 (heads g.P)
  meets = meet_packages g.P 1 g.stands.packages g.shallow g.numbered g.whole

-- ---- the heads of a project, by sort

-- the types after types are these and those, and other heads add none
types_after : (i : ℕ) (ds : List Decl) (hs : List Head) → types_among i (map a_type ds ++ hs) ≡ map (λ d. (i - 1, d)) ds ++ types_among i hs
unfolding types_among
types_after i [] hs = refl
types_after i (d ∷ ds) hs = ap (λ (l : List (ℕ × Decl)). (i - 1, d) ∷ l) (types_after i ds hs)

-- constants add no type
types_past_constants : (i : ℕ) (cs : List Constant) (hs : List Head) → types_among i (map a_constant cs ++ hs) ≡ types_among i hs
unfolding types_among
types_past_constants i [] hs = refl
types_past_constants i (c ∷ cs) hs = types_past_constants i cs hs

-- nodes add no type
types_past_nodes : (i : ℕ) (ns : List Node) (hs : List Head) → types_among i (map a_node ns ++ hs) ≡ types_among i hs
unfolding types_among
types_past_nodes i [] hs = refl
types_past_nodes i (n ∷ ns) hs = types_past_nodes i ns hs

-- the same of constants
constants_past_types : (ds : List Decl) (hs : List Head) → constants_among (map a_type ds ++ hs) ≡ constants_among hs
unfolding constants_among
constants_past_types [] hs = refl
constants_past_types (d ∷ ds) hs = constants_past_types ds hs

-- the constants after constants are these and those
constants_after : (cs : List Constant) (hs : List Head) → constants_among (map a_constant cs ++ hs) ≡ cs ++ constants_among hs
unfolding constants_among
constants_after [] hs = refl
constants_after (c ∷ cs) hs = ap (λ (l : List Constant). c ∷ l) (constants_after cs hs)

-- nodes add no constant
constants_past_nodes : (ns : List Node) (hs : List Head) → constants_among (map a_node ns ++ hs) ≡ constants_among hs
unfolding constants_among
constants_past_nodes [] hs = refl
constants_past_nodes (n ∷ ns) hs = constants_past_nodes ns hs

-- and of nodes
nodes_past_types : (ds : List Decl) (hs : List Head) → nodes_among (map a_type ds ++ hs) ≡ nodes_among hs
unfolding nodes_among
nodes_past_types [] hs = refl
nodes_past_types (d ∷ ds) hs = nodes_past_types ds hs

-- constants add no node
nodes_past_constants : (cs : List Constant) (hs : List Head) → nodes_among (map a_constant cs ++ hs) ≡ nodes_among hs
unfolding nodes_among
nodes_past_constants [] hs = refl
nodes_past_constants (c ∷ cs) hs = nodes_past_constants cs hs

-- the nodes after nodes are these and those
nodes_after : (ns : List Node) (hs : List Head) → nodes_among (map a_node ns ++ hs) ≡ ns ++ nodes_among hs
unfolding nodes_among
nodes_after [] hs = refl
nodes_after (n ∷ ns) hs = ap (λ (l : List Node). n ∷ l) (nodes_after ns hs)

-- the heads of a package and those after it, sort by sort
heads_after : (p : Package) (hs : List Head) → heads_in p ++ hs ≡ map a_type p.types ++ (map a_constant p.constants ++ (map a_node p.nodes ++ hs))
unfolding heads_in
heads_after p hs = simp append_assoc

-- the types that a pass meets, with their packages' numbers, are those of the project
pub types_tagged : (i : ℕ) (P : Project) → types_among i (heads P) ≡ tagged i (skeleton P)
unfolding types_among heads tagged skeleton
types_tagged i [] = refl
types_tagged i (p ∷ ps) =
    let q : suc i - 1 ≡ i = omega arith in
    ap (types_among (suc i)) (heads_after p (heads ps))
    ∙ types_after (suc i) p.types _
    ∙ simp (q, types_past_constants, types_past_nodes, types_tagged (suc i) ps)

-- the types alone
tagged_types : (i : ℕ) (P : Project) → map (λ e. e.1) (tagged i (skeleton P)) ≡ all_types (skeleton P)
unfolding tagged skeleton all_types
tagged_types i [] = refl
tagged_types i (p ∷ ps) = untagged p.types ∙ ap (λ (l : List Decl). p.types ++ l) (tagged_types (suc i) ps)
  where
    untagged : (ds : List Decl) → map (λ e. e.1) (map (λ d. (i, d)) ds ++ tagged (suc i) (skeleton ps)) ≡ ds ++ map (λ e. e.1) (tagged (suc i) (skeleton ps))
    untagged [] = refl
    untagged (d ∷ ds) = ap (λ (l : List Decl). d ∷ l) (untagged ds)

-- the types of the project are those met, without their packages' numbers
pub types_met : (P : Project) → all_types (skeleton P) ≡ map (λ e. e.1) (types_among 0 (heads P))
types_met P = rw (types_tagged 0 P) (sym (tagged_types 0 P))

-- the constants met are those of the project
pub constants_met : (P : Project) → constants_among (heads P) ≡ all_constants (skeleton P)
unfolding constants_among heads skeleton all_constants
constants_met [] = refl
constants_met (p ∷ ps) = ap constants_among (heads_after p (heads ps)) ∙ simp (constants_past_types, constants_after, constants_past_nodes, constants_met ps)

-- the nodes met are those of the project
pub nodes_met : (P : Project) → nodes_among (heads P) ≡ all_nodes P
unfolding nodes_among heads all_nodes
nodes_met [] = refl
nodes_met (p ∷ ps) = ap nodes_among (heads_after p (heads ps)) ∙ simp (nodes_past_types, nodes_past_constants, nodes_after, nodes_met ps)

-- the headings of a project's nodes
pub headings : (P : Project) → map heading (all_nodes P) ≡ all_nodes (skeleton P)
unfolding all_nodes skeleton
headings [] = refl
headings (p ∷ ps) = map-append heading p.nodes (all_nodes ps) ∙ ap (λ (l : List Heading). map heading p.nodes ++ l) (headings ps)

-- so are the headings of the nodes met
pub headings_met : (P : Project) → map heading (nodes_among (heads P)) ≡ all_nodes (skeleton P)
headings_met P = ap (map heading) (nodes_met P) ∙ headings P

-- ---- what the kind of a record says of the heads still to come

module _ {ks ws : List ℕ} (g : Model ks ws) where
  -- a package begins
  pub record AtPackage (at : ℕ) (hs : List Head) : Type 0 where
    pub rest : List Head
    pub are : hs ≡ a_package ∷ rest
    pub onward : Meets g (at + 1) rest

  -- a type begins
  pub record AtType (at : ℕ) (hs : List Head) : Type 0 where
    pub type : Decl
    pub rest : List Head
    pub are : hs ≡ a_type type ∷ rest
    pub stands : DeclAt (records g) type at
    pub shallow : ShallowDecl type
    pub onward : Meets g (at + 1) rest

  -- a constant begins
  pub record AtConstant (at : ℕ) (hs : List Head) : Type 0 where
    pub constant : Constant
    pub rest : List Head
    pub are : hs ≡ a_constant constant ∷ rest
    pub stands : ConstantAt (records g) constant at
    pub shallow : ShallowConstant constant
    pub onward : Meets g (at + 1) rest

  -- a node begins
  pub record AtNode (at : ℕ) (hs : List Head) : Type 0 where
    pub node : Node
    pub rest : List Head
    pub are : hs ≡ a_node node ∷ rest
    pub stands : NodeAt (records g) node at
    pub shallow : ShallowNode node
    pub numbered : Numbered g.text g.names node.equations
    pub onward : Meets g (at + 1) rest

  -- whatever begins, the heads after it; a kind of no type, of no constant or of no node leaves the types, constants or nodes as they are
  pub record Past (at : ℕ) (hs : List Head) : Type 0 where
    pub rest : List Head
    pub onward : Meets g (at + 1) rest
    pub types : (get_or ks at 0 ≡ 2 → ⊥) → (4 ≤ get_or ks at 0 → get_or ks at 0 ≤ 6 → ⊥) → (i : ℕ) → types_among i hs ≡ types_among i rest
    pub constants : (get_or ks at 0 ≡ 9 → ⊥) → constants_among hs ≡ constants_among rest
    pub nodes : (10 ≤ get_or ks at 0 → get_or ks at 0 ≤ 12 → ⊥) → nodes_among hs ≡ nodes_among rest

  -- the kinds of a node's record
  node_range : (n : Node) (at : ℕ) → NodeAt (records g) n at → (10 ≤ get_or ks at 0) × (get_or ks at 0 ≤ 12)
  node_range n at s = (omega (arith, s.head.kind, node_kinds n.kind), omega (arith, s.head.kind, node_kinds n.kind))

  -- behind the last record no head is to come
  pub no_more : {at : ℕ} {hs : List Head} → Meets g at hs → length ks ≤ at → hs ≡ []
  no_more at_end l = refl
  no_more (passed h k m) l = absurd (omega arith)
  no_more (met {h = a_package} s m) l = absurd (omega (arith, s.in_kinds))
  no_more {at} (met {h = a_type d} s m) l = absurd (omega (arith, (decl_record (records g) d at s.0).in_kinds))
  no_more (met {h = a_constant c} s m) l = absurd (omega (arith, s.0.head.in_kinds))
  no_more (met {h = a_node n} s m) l = absurd (omega (arith, s.0.head.in_kinds))

  -- what a pass knows behind any record
  pub past : {at : ℕ} {hs : List Head} → Meets g at hs → at < length ks → Past at hs
  unfolding types_among constants_among nodes_among
  past at_end l = absurd (omega arith)
  past (passed {hs = hs} h k m) l = record { rest = hs; onward = m; types = λ a b i. refl; constants = λ a. refl; nodes = λ a. refl }
  past (met {h = a_package} {hs = hs} s m) l = record { rest = hs; onward = m; types = λ a b i. absurd (a s.kind); constants = λ a. refl; nodes = λ a. refl }
  past {at} (met {h = a_type d} {hs = hs} s m) l =
      let k = decl_kind (records g) d at s.0 in
      record { rest = hs; onward = m; types = λ a b i. absurd (b k.0 k.1); constants = λ a. refl; nodes = λ a. refl }
  past (met {h = a_constant c} {hs = hs} s m) l = record { rest = hs; onward = m; types = λ a b i. refl; constants = λ a. absurd (a s.0.head.kind); nodes = λ a. refl }
  past {at} (met {h = a_node n} {hs = hs} s m) l =
      let k = node_range n at s.0 in
      record { rest = hs; onward = m; types = λ a b i. refl; constants = λ a. refl; nodes = λ a. absurd (a k.0 k.1) }

  -- behind a record of another kind the same heads are to come
  pub plain : {at : ℕ} {hs : List Head} → Meets g at hs → at < length ks → mem eqb (get_or ks at 0) head_kinds ≡ false → Meets g (at + 1) hs
  plain at_end l k = absurd (omega arith)
  plain (passed h k m) l q = m
  plain {at} (met {h = a_package} s m) l q = absurd ((other (get_or ks at 0) q).no_package s.kind)
  plain {at} (met {h = a_type d} s m) l q = let k = decl_kind (records g) d at s.0 in absurd ((other (get_or ks at 0) q).no_type k.0 k.1)
  plain {at} (met {h = a_constant c} s m) l q = absurd ((other (get_or ks at 0) q).no_constant s.0.head.kind)
  plain {at} (met {h = a_node n} s m) l q = let k = node_range n at s.0 in absurd ((other (get_or ks at 0) q).no_node k.0 k.1)

  -- a record of kind 2 begins a package
  pub package_here : {at : ℕ} {hs : List Head} → Meets g at hs → at < length ks → get_or ks at 0 ≡ 2 → AtPackage at hs
  package_here at_end l k = absurd (omega arith)
  package_here {at} (passed h q m) l k = absurd ((other (get_or ks at 0) q).no_package k)
  package_here (met {h = a_package} {hs = hs} s m) l k = record { rest = hs; are = refl; onward = m }
  package_here {at} (met {h = a_type d} s m) l k = absurd (omega (arith, decl_kind (records g) d at s.0))
  package_here (met {h = a_constant c} s m) l k = absurd (omega (arith, s.0.head.kind))
  package_here {at} (met {h = a_node n} s m) l k = absurd (omega (arith, node_range n at s.0))

  -- a record of kind 4 to 6 begins a type
  pub type_here : {at : ℕ} {hs : List Head} → Meets g at hs → at < length ks → 4 ≤ get_or ks at 0 → get_or ks at 0 ≤ 6 → AtType at hs
  type_here at_end l a b = absurd (omega arith)
  type_here {at} (passed h q m) l a b = absurd ((other (get_or ks at 0) q).no_type a b)
  type_here (met {h = a_package} s m) l a b = absurd (omega (arith, s.kind))
  type_here (met {h = a_type d} {hs = hs} s m) l a b = record { type = d; rest = hs; are = refl; stands = s.0; shallow = s.1; onward = m }
  type_here (met {h = a_constant c} s m) l a b = absurd (omega (arith, s.0.head.kind))
  type_here {at} (met {h = a_node n} s m) l a b = absurd (omega (arith, node_range n at s.0))

  -- a record of kind 9 begins a constant
  pub constant_here : {at : ℕ} {hs : List Head} → Meets g at hs → at < length ks → get_or ks at 0 ≡ 9 → AtConstant at hs
  constant_here at_end l k = absurd (omega arith)
  constant_here {at} (passed h q m) l k = absurd ((other (get_or ks at 0) q).no_constant k)
  constant_here (met {h = a_package} s m) l k = absurd (omega (arith, s.kind))
  constant_here {at} (met {h = a_type d} s m) l k = absurd (omega (arith, decl_kind (records g) d at s.0))
  constant_here (met {h = a_constant c} {hs = hs} s m) l k = record { constant = c; rest = hs; are = refl; stands = s.0; shallow = s.1; onward = m }
  constant_here {at} (met {h = a_node n} s m) l k = absurd (omega (arith, node_range n at s.0))

  -- a record of kind 10 to 12 begins a node
  pub node_here : {at : ℕ} {hs : List Head} → Meets g at hs → at < length ks → 10 ≤ get_or ks at 0 → get_or ks at 0 ≤ 12 → AtNode at hs
  node_here at_end l a b = absurd (omega arith)
  node_here {at} (passed h q m) l a b = absurd ((other (get_or ks at 0) q).no_node a b)
  node_here (met {h = a_package} s m) l a b = absurd (omega (arith, s.kind))
  node_here {at} (met {h = a_type d} s m) l a b = absurd (omega (arith, decl_kind (records g) d at s.0))
  node_here (met {h = a_constant c} s m) l a b = absurd (omega (arith, s.0.head.kind))
  node_here (met {h = a_node n} {hs = hs} s m) l a b = record { node = n; rest = hs; are = refl; stands = s.0; shallow = s.1; numbered = s.2; onward = m }
