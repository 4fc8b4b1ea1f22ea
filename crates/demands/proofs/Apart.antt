-- What one equation can move: the other lines do not depend on its right-hand side, and an imported node's lines on none.
-- Assumes nothing.
use Prim.Native.Nat.{ℕ, zero, suc, ◌+◌}
use native.Mathlib.Nat.{add-zero, zero-add}
use native.Mathlib.Omega.{arith}
use mathlib.Core.Path.{◌≡◌, refl, sym, ◌∙◌, ap, ap₂}
use mathlib.Core.Bool.{Bool, true, false, not, or-true}
use mathlib.Core.List.{List, [], ◌∷◌, ◌++◌, map, map-append}
use mathlib.Core.Option.{Option, none, some}
use lib.Dec.{eqb}
use lib.ListN.{get_elem?}
use borrow.Author.Tests.{eq-eqb, eqb-true}
use Rattle.lustre.specs.Name.{Name, mem}
use Rattle.lustre.specs.Expr.{Expr}
use Rattle.lustre.specs.Project.{Port, Equation, Node, NodeKind, Function, Operator, Imported, Project, skeleton, all_nodes, port_names}
use Rattle.lustre.specs.Grammar.{node_kind}
use Rattle.lustre.specs.Line.{Note, Remark, Line}
use Rattle.lustre.specs.Resolve.{Scope, context}
use Rattle.lustre.specs.Deps.{defined}
use Rattle.lustre.specs.Walk.{search, path_of}
use Rattle.lustre.specs.Node.{absent, path_notes, loop_notes, equation_notes, of_equation, of_node, equations_remarks, cycle_notes, opening_notes, closing_notes, body_remarks, imported_remarks, remarks_as, node_remarks}
use Rattle.lustre.specs.Report.{report, opening, of_place, node_lines, nodes_lines}
use Rattle.lustre.specs.Answer.{or_none}
use Rattle.demands.specs.Nodes.{keep}
use Rattle.demands.specs.Reading.{part_of}
use Rattle.demands.specs.OneEquation.{is_imported, with_rhs, replace_equations, replace_node, replace_nodes, replace, remark_may_move, line_may_move, other_lines, Replaced}
use Rattle.demands.proofs.Keeps.{keep_append, keep_map, Lacks, lacks_nil, lacks_cons, lacks_map, kept_behind, kept_before}
use Rattle.demands.proofs.Replace.{same_defined, same_skeleton, nodes_replaced}

-- where every element fails the test, nothing is kept
all_lack : {A : Type 0} {f : A → Bool} → ((x : A) → f x ≡ false) → (l : List A) → Lacks f l
all_lack h [] = lacks_nil
all_lack h (x ∷ l) = lacks_cons (h x) (all_lack h l)

-- an imported node is told by its equations' number alone
imported_same : (new : Expr) (j : ℕ) (qs : List Equation) → imported_remarks qs ≡ imported_remarks (replace_equations new j qs)
unfolding imported_remarks replace_equations
imported_same new j [] = refl
imported_same new zero (q ∷ qs) = refl
imported_same new (suc j) (q ∷ qs) = refl

-- ---- one node

module _ (new : Expr) (j : ℕ) (js : List ℕ) (among_them : mem eqb j js ≡ true) where
  -- the test on a node's remarks
  abbrev stays : Remark → Bool
  stays r = not (remark_may_move js r)

  -- an equation's own remarks are struck
  own_struck : (k : ℕ) → k ≡ j → (ms : List Note) → Lacks stays (map (of_equation k) ms)
  unfolding of_equation or_none
  own_struck k e ms = lacks_map stays (of_equation k) (all_lack (λ m. rw (e, among_them)) ms)

  -- the equations' remarks, from number k on, but for those of number j = k + t
  equations_apart : (Γ : Scope) (n : Node) (env : List Port) (seen : List Name) (k t : ℕ) (qs : List Equation) → k + t ≡ j
      → keep stays (equations_remarks Γ n env seen k qs) ≡ keep stays (equations_remarks Γ n env seen k (replace_equations new t qs))
  unfolding equations_remarks replace_equations
  equations_apart Γ n env seen k t [] e = refl
  equations_apart Γ n env seen k zero (q ∷ qs) e =
      let z : k ≡ j = omega arith in
      let rest = equations_remarks Γ n env (q.lhs ++ seen) (suc k) qs in
      kept_behind rest (own_struck k z (equation_notes Γ n env seen q)) ∙ sym (kept_behind rest (own_struck k z (equation_notes Γ n env seen (with_rhs new q))))
  equations_apart Γ n env seen k (suc t) (q ∷ qs) e =
      let first = map (of_equation k) (equation_notes Γ n env seen q) in
      let rest = equations_remarks Γ n env (q.lhs ++ seen) (suc k) in
      keep_append stays first (rest qs)
      ∙ ap (λ r. keep stays first ++ r) (equations_apart Γ n env (q.lhs ++ seen) (suc k) t qs (omega arith))
      ∙ sym (keep_append stays first (rest (replace_equations new t qs)))

  -- every line of a loop is struck
  path_struck : (i : ℕ) (path : List Name) → Lacks stays (map of_node (path_notes i path))
  unfolding path_notes of_node
  path_struck i [] = lacks_nil
  path_struck i (a ∷ as') = lacks_cons (ap not (or-true (mem eqb (or_none none) js))) (path_struck (suc i) as')

  loop_struck : (o : Option (List Name)) → Lacks stays (map of_node (loop_notes o))
  unfolding loop_notes
  loop_struck none = lacks_nil
  loop_struck (some path) = path_struck 0 path

  cycle_struck : (c : NodeKind) (qs : List Equation) → Lacks stays (map of_node (cycle_notes c qs))
  unfolding cycle_notes
  cycle_struck Function qs = loop_struck (path_of (search qs))
  cycle_struck Operator qs = loop_struck (path_of (search qs))
  cycle_struck Imported qs = lacks_nil

  -- a loop between other notes
  around_loop : (a l l' d : List Note) → Lacks stays (map of_node l) → Lacks stays (map of_node l')
      → keep stays (map of_node (a ++ l ++ d)) ≡ keep stays (map of_node (a ++ l' ++ d))
  around_loop a l l' d h h' = without l h ∙ sym (without l' h')
    where
      without : (l : List Note) → Lacks stays (map of_node l)
          → keep stays (map of_node (a ++ l ++ d)) ≡ keep stays (map of_node a) ++ keep stays (map of_node d)
      without l h =
          rw (map-append of_node (a ++ l) d, map-append of_node a l, keep_append stays (map of_node a ++ map of_node l) (map of_node d))
          (ap (λ r. r ++ keep stays (map of_node d)) (kept_before (map of_node a) h))

  module _ (Γ : Scope) (n : Node) where
    abbrev m : Node
    m = replace_node new j n

    abbrev env : List Port
    env = n.inputs ++ n.outputs ++ n.locals

    -- the check of an equation asks a node for its kind and inputs alone
    same_checks : (seen : List Name) (k : ℕ) (qs : List Equation) → equations_remarks Γ m env seen k qs ≡ equations_remarks Γ n env seen k qs
    unfolding equations_remarks equation_notes
    same_checks seen k [] = refl
    same_checks seen k (q ∷ qs) = ap (λ r. map (of_equation k) (equation_notes Γ n env seen q) ++ r) (same_checks (q.lhs ++ seen) (suc k) qs)

    closing_apart : keep stays (map of_node (closing_notes n env)) ≡ keep stays (map of_node (closing_notes m env))
    unfolding closing_notes
    closing_apart =
        let qs = replace_equations new j n.equations in
        rw (same_defined new j n.equations)
        (around_loop
        (absent 50 (defined n.equations) (port_names n.outputs) ++ absent 51 (defined n.equations) (port_names n.locals))
        (cycle_notes n.kind n.equations) (cycle_notes n.kind qs) (absent 150 (port_names env) n.probes)
        (cycle_struck n.kind n.equations) (cycle_struck n.kind qs))

    body_apart : keep stays (body_remarks Γ n) ≡ keep stays (body_remarks Γ m)
    unfolding body_remarks opening_notes
    body_apart =
        let o = map of_node (opening_notes n) in
        let qs = replace_equations new j n.equations in
        let es = equations_remarks Γ n env [] 0 n.equations in
        let fs = equations_remarks Γ m env [] 0 qs in
        let closing = map of_node (closing_notes n env) in
        let closed = map of_node (closing_notes m env) in
        let middle : keep stays es ≡ keep stays fs = equations_apart Γ n env [] 0 j n.equations (zero-add j) ∙ ap (keep stays) (sym (same_checks [] 0 qs)) in
        let front : keep stays (o ++ es) ≡ keep stays (o ++ fs) = keep_append stays o es ∙ ap (λ r. keep stays o ++ r) middle ∙ sym (keep_append stays o fs) in
        keep_append stays (o ++ es) closing ∙ ap₂ ◌++◌ front closing_apart ∙ sym (keep_append stays (o ++ fs) closed)

    remarks_apart : (c : NodeKind) → keep stays (remarks_as c Γ n) ≡ keep stays (remarks_as c Γ m)
    unfolding remarks_as
    remarks_apart Function = body_apart
    remarks_apart Operator = body_apart
    remarks_apart Imported = ap (keep stays) (imported_same new j n.equations)

  -- ---- the report

  -- the lines of node k, which is the one
  node_apart : (Γ : Scope) (k : ℕ) (n : Node) → other_lines k js (node_lines Γ k n) ≡ other_lines k js (node_lines Γ k (replace_node new j n))
  unfolding node_lines node_remarks of_place
  node_apart Γ k n =
      let e : (r : Remark) → not (line_may_move k js (of_place k r)) ≡ stays r = λ r. rw (eq-eqb k k refl) in
      keep_map (λ l. not (line_may_move k js l)) (of_place k) stays e (node_remarks Γ n)
      ∙ ap (map (of_place k)) (remarks_apart Γ n n.kind)
      ∙ sym (keep_map (λ l. not (line_may_move k js l)) (of_place k) stays e (node_remarks Γ (replace_node new j n)))

  abbrev stay_lines : ℕ → Line → Bool
  stay_lines i l = not (line_may_move i js l)

  lines_apart : (Γ : Scope) (k i : ℕ) (ns : List Node)
      → other_lines (k + i) js (nodes_lines Γ k ns) ≡ other_lines (k + i) js (nodes_lines Γ k (replace_nodes new i j ns))
  unfolding nodes_lines replace_nodes
  lines_apart Γ k i [] = refl
  lines_apart Γ k zero (n ∷ ns) =
      let stay = stay_lines k in
      let rest = nodes_lines Γ (suc k) ns in
      rw (add-zero k)
      (keep_append stay (node_lines Γ k n) rest
      ∙ ap (λ r. r ++ keep stay rest) (node_apart Γ k n)
      ∙ sym (keep_append stay (node_lines Γ k (replace_node new j n)) rest))
  lines_apart Γ k (suc i) (n ∷ ns) =
      let stay = stay_lines (k + suc i) in
      let first = node_lines Γ k n in
      let z : suc k + i ≡ k + suc i = omega arith in
      keep_append stay first (nodes_lines Γ (suc k) ns)
      ∙ ap (λ r. keep stay first ++ r) (rw z at (lines_apart Γ (suc k) i ns))
      ∙ sym (keep_append stay first (nodes_lines Γ (suc k) (replace_nodes new i j ns)))

pub replaced : Replaced
unfolding report
replaced P new i j js h =
    let stay = stay_lines new j js h i in
    let Γ = context (skeleton P) in
    rw (same_skeleton new i j P, nodes_replaced new i j P)
    (keep_append stay (opening (skeleton P)) (nodes_lines Γ 0 (all_nodes P))
    ∙ ap (λ r. keep stay (opening (skeleton P)) ++ r) (rw (zero-add i) at (lines_apart new j js h Γ 0 i (all_nodes P)))
    ∙ sym (keep_append stay (opening (skeleton P)) (nodes_lines Γ 0 (replace_nodes new i j (all_nodes P)))))

-- ---- an imported node

-- node i of a list is imported
abbrev imported_at : List Node → ℕ → Bool
imported_at ns i = is_imported (part_of (get_elem? ns i))

-- the kind that says so
imported_kind : (c : NodeKind) → eqb (node_kind c) 12 ≡ true → c ≡ Imported
imported_kind Function e = let z = eqb-true 10 12 e in absurd (omega arith)
imported_kind Operator e = let z = eqb-true 11 12 e in absurd (omega arith)
imported_kind Imported e = refl

imported_lines : (Γ : Scope) (new : Expr) (k i j : ℕ) (ns : List Node) → imported_at ns i ≡ true
    → nodes_lines Γ k ns ≡ nodes_lines Γ k (replace_nodes new i j ns)
unfolding nodes_lines node_lines node_remarks remarks_as replace_nodes
imported_lines Γ new k i j [] h = refl
imported_lines Γ new k zero j (n ∷ ns) h = rw (imported_kind n.kind h, remarks_as, imported_same new j n.equations)
imported_lines Γ new k (suc i) j (n ∷ ns) h = ap (λ r. node_lines Γ k n ++ r) (imported_lines Γ new (suc k) i j ns h)

-- an imported node stays one
imported_stays : (new : Expr) (i j : ℕ) (ns : List Node) → imported_at (replace_nodes new i j ns) i ≡ imported_at ns i
unfolding replace_nodes
imported_stays new i j [] = refl
imported_stays new zero j (n ∷ ns) = refl
imported_stays new (suc i) j (n ∷ ns) = imported_stays new i j ns

-- node i of a project is imported
abbrev pub imported : Project → ℕ → Bool
imported P i = imported_at (all_nodes P) i

pub still_imported : (new : Expr) (i j : ℕ) (P : Project) → imported (replace new i j P) i ≡ imported P i
still_imported new i j P = rw (nodes_replaced new i j P) (imported_stays new i j (all_nodes P))

-- its equations move nothing
pub imported_moves_none : (new : Expr) (i j : ℕ) (P : Project) → imported P i ≡ true → report P ≡ report (replace new i j P)
unfolding report
imported_moves_none new i j P h =
    rw (same_skeleton new i j P, nodes_replaced new i j P)
    (ap (λ r. opening (skeleton P) ++ r) (imported_lines (context (skeleton P)) new 0 i j (all_nodes P) h))
