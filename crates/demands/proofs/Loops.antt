-- Demand 2, second sentence: the E0060 lines about a node are those of its search, since no other note has that code; and what the
-- search finds is what `Demand2Loops` says. Assumes nothing.
use Prim.Native.Nat.{ℕ, suc}
use native.Mathlib.Omega.{arith}
use mathlib.Core.Path.{◌≡◌, refl, sym, ◌∙◌, ap}
use mathlib.Core.Bool.{Bool, true, false, ◌&&◌}
use mathlib.Core.List.{List, [], ◌∷◌, ◌++◌, map, map-map, cons≢nil}
use mathlib.Core.Option.{Option, none, some}
use lib.Dec.{eqb}
use lib.ListN.{length, get_elem?}
use borrow.Author.Tests.{ne_eqb}
use Rattle.lustre.specs.Name.{Name, ◌among◌, lookup, set_of}
use Rattle.lustre.specs.Types.{Ty, Named, members}
use Rattle.lustre.specs.Expr.{Expr, Form, form, contains_temporal}
use Rattle.lustre.specs.Project.{Port, Decl, Constant, Node, NodeKind, Function, Operator, Imported, Heading, Equation, Project, Skeleton, decl_name, is_function, port_names, all_types, all_constants, all_nodes, skeleton}
use Rattle.lustre.specs.Line.{Note, Remark, Line, plain, bare, about, at_package, at_enum, at_constant, at_node}
use Rattle.lustre.specs.Resolve.{Scope, context, within_node, try_resolve, compatible}
use Rattle.lustre.specs.Init.{pres}
use Rattle.lustre.specs.Placement.{nested}
use Rattle.lustre.specs.Infer.{infer}
use Rattle.lustre.specs.Deps.{defined}
use Rattle.lustre.specs.Walk.{search, rust_search, path_of, looks_of}
use Rattle.lustre.specs.Node.{repeated, absent, path_notes, loop_notes, assigns, wanted, bound_one, bound_plain, bound_each, bound_tuple, bound_as, bound, called_outputs, equation_notes, of_equation, of_node, equations_remarks, cycle_notes, looks, opening_notes, closing_notes, body_remarks, imported_remarks, remarks_as, node_remarks}
use Rattle.lustre.specs.Report.{line, tagged, variants_in, repeated_variants, type_lines, alias_numbers, alias_line, alias_lines, node_name_lines, value_notes, constant_notes, constant_lines, opening, of_place, node_lines, report}
use Rattle.demands.specs.Reading.{Each}
use Rattle.demands.specs.Nodes.{keep, is_node, about_node}
use Rattle.demands.specs.Loops.{Cyclic, Closed, loop_lines, path_lines, SearchedLines, Demand2Loops}
use Rattle.demands.proofs.Keeps.{keep_map, Lacks, lacks_nil, lacks_cons, lacks_one, kept_behind, kept_before, ◌also◌, lacks_if, one_if, one_unless, lacks_map, lacks_kept}
use Rattle.demands.proofs.Known.{Fine}
use Rattle.demands.proofs.Notes.{infer_fine, Any, any_expr, any_scope}
use Rattle.demands.proofs.Nodes.{own_lines, lines_about}
use Rattle.demands.proofs.Edges.{search_closed, search_finds, search_dfs, search_rust, search_count}

-- the test for E0060, of notes, remarks and lines
abbrev is_60 : Note → Bool
is_60 m = eqb m.code 60

abbrev remark_60 : Remark → Bool
remark_60 r = is_60 r.note

abbrev line_60 : Line → Bool
line_60 l = is_60 l.remark.note

fine_others : (ns : List Note) → Each (Fine Any) ns → Lacks is_60 ns
fine_others [] h = lacks_nil
fine_others (m ∷ ns) h = lacks_cons (ne_eqb m.code 60 (λ e. omega (arith, h.0.above))) (fine_others ns h.1)

inferred : (Γ : Scope) (function : Bool) (e : Expr) (hint : Option Ty) → Lacks is_60 (infer Γ function 0 e hint).1
inferred Γ function e hint = fine_others (infer Γ function 0 e hint).1 (infer_fine Any Γ (any_scope Γ) function 0 e (any_expr e) hint)

-- The lines before the nodes' own.
variant_lines : (i : ℕ) (seen vs : List Name) → Lacks line_60 (repeated_variants i seen vs)
unfolding repeated_variants line
variant_lines i seen [] = lacks_nil
variant_lines i seen (v ∷ vs) = one_if (v among seen) (line at_enum i (about 7 v)) refl also variant_lines i (v ∷ seen) vs

types_lines : (i : ℕ) (names variants : List Name) (ds : List (ℕ × Decl)) → Lacks line_60 (type_lines i names variants ds)
unfolding type_lines line
types_lines i names variants [] = lacks_nil
types_lines i names variants (d ∷ ds) =
    one_if (decl_name d.1 among names) (line at_package d.0 (about 6 (decl_name d.1))) refl
    also variant_lines i variants (variants_in d.1)
    also types_lines (suc i) (decl_name d.1 ∷ names) (variants_in d.1 ++ variants) ds

one_alias : (a : Name) (t : Option Ty) (o : Option ℕ) → Lacks line_60 (alias_line a t o)
unfolding alias_line line
one_alias a (some t) o = lacks_nil
one_alias a none none = lacks_nil
one_alias a none (some i) = lacks_one refl

aliases_lines : (Γ : Scope) (numbers : List (Name × ℕ)) (as' : List Name) → Lacks line_60 (alias_lines Γ numbers as')
unfolding alias_lines
aliases_lines Γ numbers [] = lacks_nil
aliases_lines Γ numbers (a ∷ as') = one_alias a (try_resolve Γ.alias 65 [] (Named a)) (lookup a numbers) also aliases_lines Γ numbers as'

names_lines : (i : ℕ) (seen : List Name) (ns : List Heading) → Lacks line_60 (node_name_lines i seen ns)
unfolding node_name_lines line
names_lines i seen [] = lacks_nil
names_lines i seen (n ∷ ns) = one_if (n.name among seen) (line at_node i (about 1 n.name)) refl also names_lines (suc i) (n.name ∷ seen) ns

value_others : (Γ : Scope) (c : Constant) (o : Option Ty) → Lacks is_60 (value_notes Γ c o)
unfolding value_notes
value_others Γ c none = lacks_nil
value_others Γ c (some t) = one_unless (compatible Γ.alias c.type t) (about 5 c.name) refl

constant_others : (Γ : Scope) (c : Constant) → Lacks is_60 (constant_notes Γ c)
unfolding constant_notes
constant_others Γ c =
    one_if (contains_temporal c.value) (bare 4) refl
    also inferred Γ true c.value (some c.type)
    also value_others Γ c (infer Γ true 0 c.value (some c.type)).0

constants_lines : (Γ : Scope) (i : ℕ) (seen : List Name) (cs : List Constant) → Lacks line_60 (constant_lines Γ i seen cs)
unfolding constant_lines line
constants_lines Γ i seen [] = lacks_nil
constants_lines Γ i seen (c ∷ cs) =
    lacks_map line_60 (line at_constant i) (lacks_if (c.name among seen) (lacks_one refl) (constant_others Γ c))
    also constants_lines Γ (suc i) (c.name ∷ seen) cs

opening_others : (s : Skeleton) → Lacks line_60 (opening s)
unfolding opening
opening_others s =
    let numbers = alias_numbers 0 (all_types s) in
    types_lines 0 [] [] (tagged 0 s)
    also aliases_lines (context s) numbers (set_of (map (λ e. e.0) numbers))
    also names_lines 0 [] (all_nodes s)
    also constants_lines (context s) 0 [] (all_constants s)

-- The notes of a node but those of its search.
module _ (code : ℕ) (other : eqb code 60 ≡ false) where
  repeated_others : (seen as' : List Name) → Lacks is_60 (repeated code seen as')
  unfolding repeated
  repeated_others seen [] = lacks_nil
  repeated_others seen (a ∷ as') = one_if (a among seen) (about code a) other also repeated_others (a ∷ seen) as'

  absent_others : (known as' : List Name) → Lacks is_60 (absent code known as')
  unfolding absent
  absent_others known [] = lacks_nil
  absent_others known (a ∷ as') = lacks_if (a among known) (absent_others known as') (lacks_cons other (absent_others known as'))

  plain_others : (steps : List ℕ) → Lacks is_60 (map (λ at. plain at code) steps)
  plain_others [] = lacks_nil
  plain_others (at ∷ steps) = lacks_cons other (plain_others steps)

assigns_others : (known inputs seen as' : List Name) → Lacks is_60 (assigns known inputs seen as')
unfolding assigns
assigns_others known inputs seen [] = lacks_nil
assigns_others known inputs seen (a ∷ as') =
    lacks_if (a among known) (one_if (a among inputs) (about 22 a) refl) (lacks_one refl)
    also one_if (a among seen) (about 21 a) refl
    also assigns_others known inputs (a ∷ seen) as'

one_bound : (Γ : Scope) (code : ℕ) → eqb code 60 ≡ false → (a : Name) (t : Ty) (want : Option Ty) → Lacks is_60 (bound_one Γ code a t want)
unfolding bound_one
one_bound Γ code h a t none = lacks_nil
one_bound Γ code h a t (some want) = one_unless (compatible Γ.alias want t) (about code a) h

plain_bound : (Γ : Scope) (env : List Port) (as' : List Name) (t : Ty) → Lacks is_60 (bound_plain Γ env as' t)
unfolding bound_plain
plain_bound Γ env [] t = lacks_one refl
plain_bound Γ env (a ∷ []) t = one_bound Γ 40 refl a t (lookup a env)
plain_bound Γ env (a ∷ b ∷ bs) t = lacks_one refl

each_bound : (Γ : Scope) (env : List Port) (as' : List Name) (os : List Port) → Lacks is_60 (bound_each Γ env as' os)
unfolding bound_each
each_bound Γ env [] os = lacks_nil
each_bound Γ env (a ∷ as') [] = lacks_nil
each_bound Γ env (a ∷ as') (o ∷ os) = one_bound Γ 43 refl a o.1 (lookup a env) also each_bound Γ env as' os

bound_others : (Γ : Scope) (env : List Port) (as' : List Name) (f : Form) (o : Option Ty) → Lacks is_60 (bound Γ env as' f o)
unfolding bound bound_as bound_tuple
bound_others Γ env as' f none = lacks_nil
bound_others Γ env as' f (some t) = go (members t)
  where
    go : (n : Option ℕ) → Lacks is_60 (bound_as Γ env as' f t n)
    go none = plain_bound Γ env as' t
    go (some n) = lacks_if (eqb n (length as')) (each_bound Γ env as' (called_outputs Γ f)) (lacks_one refl)

equation_others : (Γ : Scope) (n : Node) (env : List Port) (seen : List Name) (q : Equation) → Lacks is_60 (equation_notes Γ n env seen q)
unfolding equation_notes
equation_others Γ n env seen q =
    let function = is_function n.kind in
    let want = wanted env q.lhs in
    assigns_others (port_names env) (port_names n.inputs) seen q.lhs
    also one_if (function && contains_temporal q.rhs) (bare 30) refl
    also plain_others 70 refl (pres 0 q.rhs false)
    also plain_others 146 refl (nested q.rhs)
    also inferred (within_node Γ env) function q.rhs want
    also bound_others Γ env q.lhs (form q.rhs) (infer (within_node Γ env) function 0 q.rhs want).0

equations_others : (Γ : Scope) (n : Node) (env : List Port) (seen : List Name) (i : ℕ) (qs : List Equation) → Lacks remark_60 (equations_remarks Γ n env seen i qs)
unfolding equations_remarks of_equation
equations_others Γ n env seen i [] = lacks_nil
equations_others Γ n env seen i (q ∷ qs) = lacks_map remark_60 (of_equation i) (equation_others Γ n env seen q) also equations_others Γ n env (q.lhs ++ seen) (suc i) qs

opening_notes_others : (n : Node) → Lacks is_60 (opening_notes n)
unfolding opening_notes
opening_notes_others n =
    let ins = port_names n.inputs in
    let outs = port_names n.outputs in
    repeated_others 10 refl [] ins
    also repeated_others 11 refl ins outs
    also repeated_others 12 refl (ins ++ outs) (port_names n.locals)

-- What is kept of a node's remarks: the search's.
path_kept : (i : ℕ) (c : List Name) → keep is_60 (path_notes i c) ≡ path_notes i c
unfolding path_notes
path_kept i [] = refl
path_kept i (a ∷ as') = ap (λ r. record { code = 60; step = some i; name = some a } ∷ r) (path_kept (suc i) as')

loop_kept : (o : Option (List Name)) → keep is_60 (loop_notes o) ≡ loop_notes o
unfolding loop_notes
loop_kept none = refl
loop_kept (some c) = path_kept 0 c

cycle_kept : (k : NodeKind) (qs : List Equation) → keep is_60 (cycle_notes k qs) ≡ cycle_notes k qs
unfolding cycle_notes
cycle_kept Function qs = loop_kept (path_of (search qs))
cycle_kept Operator qs = loop_kept (path_of (search qs))
cycle_kept Imported qs = refl

closing_kept : (n : Node) (env : List Port) → keep is_60 (closing_notes n env) ≡ cycle_notes n.kind n.equations
unfolding closing_notes
closing_kept n env =
    let assigned = defined n.equations in
    let outs = absent 50 assigned (port_names n.outputs) in
    let locals = absent 51 assigned (port_names n.locals) in
    let found = cycle_notes n.kind n.equations in
    kept_before (outs ++ locals ++ found) (absent_others 150 refl (port_names env) n.probes)
    ∙ kept_behind found (absent_others 50 refl assigned (port_names n.outputs) also absent_others 51 refl assigned (port_names n.locals))
    ∙ cycle_kept n.kind n.equations

body_kept : (Γ : Scope) (n : Node) → keep remark_60 (body_remarks Γ n) ≡ map of_node (cycle_notes n.kind n.equations)
unfolding body_remarks of_node
body_kept Γ n =
    let env = n.inputs ++ n.outputs ++ n.locals in
    kept_behind (map of_node (closing_notes n env)) (lacks_map remark_60 of_node (opening_notes_others n) also equations_others Γ n env [] 0 n.equations)
    ∙ keep_map remark_60 of_node is_60 (λ m. refl) (closing_notes n env)
    ∙ ap (map of_node) (closing_kept n env)

imported_kept : (qs : List Equation) → keep remark_60 (imported_remarks qs) ≡ []
unfolding imported_remarks of_node
imported_kept [] = refl
imported_kept (q ∷ qs) = refl

remarks_kept : (Γ : Scope) (n : Node) (k : NodeKind) → n.kind ≡ k → keep remark_60 (remarks_as k Γ n) ≡ map of_node (cycle_notes k n.equations)
unfolding remarks_as cycle_notes
remarks_kept Γ n Function e = body_kept Γ n ∙ ap (λ (k : NodeKind). map of_node (cycle_notes k n.equations)) e
remarks_kept Γ n Operator e = body_kept Γ n ∙ ap (λ (k : NodeKind). map of_node (cycle_notes k n.equations)) e
remarks_kept Γ n Imported e = imported_kept n.equations

-- the lines of notes of node i itself
abbrev at_node_itself : ℕ → List Note → List Line
at_node_itself i = map (λ m. of_place i (of_node m))

-- the E0060 lines about node i
lines_are : (P : Project) (i : ℕ) (n : Node) → get_elem? (all_nodes P) i ≡ some n → loop_lines i (report P) ≡ at_node_itself i (cycle_notes n.kind n.equations)
unfolding own_lines node_lines node_remarks of_place
lines_are P i n e =
    let Γ = context (skeleton P) in
    let before : List Line = about_node i (opening (skeleton P)) in
    let found = cycle_notes n.kind n.equations in
    ap (keep line_60) (lines_about P i)
    ∙ ap (λ (o : Option Node). keep line_60 (before ++ own_lines Γ i o)) e
    ∙ kept_behind (node_lines Γ i n) (lacks_kept line_60 (λ l. is_node l.place && eqb l.number i) (opening_others (skeleton P)))
    ∙ keep_map line_60 (of_place i) remark_60 (λ r. refl) (node_remarks Γ n)
    ∙ ap (map (of_place i)) (remarks_kept Γ n n.kind refl)
    ∙ map-map (of_place i) of_node found

module _ (P : Project) (i : ℕ) (n : Node) (here : get_elem? (all_nodes P) i ≡ some n) where
  none_are : (k : NodeKind) → n.kind ≡ k → cycle_notes k n.equations ≡ [] → loop_lines i (report P) ≡ []
  none_are k e h = lines_are P i n here ∙ ap (at_node_itself i) (ap (λ (k : NodeKind). cycle_notes k n.equations) e ∙ h)

  module _ (k : NodeKind) (is : n.kind ≡ k)
      (searched : cycle_notes k n.equations ≡ loop_notes (path_of (search n.equations)))
      (counted : looks k n.equations ≡ looks_of (search n.equations)) where
    lines_shown : (o : Option (List Name)) → path_of (search n.equations) ≡ o → loop_lines i (report P) ≡ at_node_itself i (loop_notes o)
    lines_shown o e = lines_are P i n here ∙ ap (at_node_itself i) (ap (λ (k : NodeKind). cycle_notes k n.equations) is ∙ searched ∙ ap loop_notes e)

    -- lines are of a path that was found
    shown_path : (loop_lines i (report P) ≡ [] → ⊥) → (c : List Name) × (path_of (search n.equations) ≡ some c) × (loop_lines i (report P) ≡ path_lines i c)
    unfolding loop_notes
    shown_path h = go (path_of (search n.equations)) refl
      where
        go : (o : Option (List Name)) → path_of (search n.equations) ≡ o → (c : List Name) × (o ≡ some c) × (loop_lines i (report P) ≡ path_lines i c)
        go none e = absurd (h (lines_shown none e))
        go (some c) e = (c, refl, lines_shown (some c) e)

    -- where there is a cycle, there are lines
    path_shown : Cyclic n.equations → loop_lines i (report P) ≡ [] → ⊥
    unfolding loop_notes
    path_shown k h = go (path_of (search n.equations)) refl
      where
        some_lines : (c : List Name) → Closed n.equations c → path_lines i c ≡ [] → ⊥
        some_lines c k h = unfold path_notes in cons≢nil (rw k.shape at h)

        go : (o : Option (List Name)) → path_of (search n.equations) ≡ o → ⊥
        go none e = search_finds n.equations k.0 k.1 e
        go (some c) e = some_lines c (search_closed n.equations c e) (sym (lines_shown (some c) e) ∙ h)

    searched_lines : SearchedLines P i k n.equations
    searched_lines = record {
      exactly = ((λ h. let p = shown_path h in (p.0, search_closed n.equations p.0 p.1)), path_shown);
      path = λ h. let p = shown_path h in (p.0, search_closed n.equations p.0 p.1, p.2, search_dfs n.equations ∙ p.1);
      dfs = search_dfs n.equations;
      count = rw counted (search_count n.equations);
    }

pub demand_2_loops : Demand2Loops
unfolding cycle_notes looks
demand_2_loops P i n here = (
  λ e. record {
    searched = searched_lines P i n here Operator e refl refl;
    rust = λ a. lines_shown P i n here Operator e refl refl (rust_search n.equations) (sym (search_rust n.equations a));
  },
  λ e. searched_lines P i n here Function e refl refl,
  λ e. none_are P i n here Imported e refl,
)
