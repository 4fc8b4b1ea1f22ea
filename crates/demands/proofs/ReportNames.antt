-- Every name of a report is a name of the project: kind of line by kind of line.
-- Assumes nothing.
use Prim.Native.Nat.{ℕ, suc}
use mathlib.Core.Path.{◌≡◌, refl, sym, subst}
use mathlib.Core.Bool.{Bool}
use mathlib.Core.List.{List, [], ◌∷◌, ◌++◌, map}
use mathlib.Core.Option.{Option, none, some}
use Rattle.lustre.specs.Name.{Name, lookup, set_of}
use Rattle.lustre.specs.Types.{Ty, members}
use Rattle.lustre.specs.Expr.{Expr, Form, Exprs, Inits, const, var, unary, binary, ite, pre, arrow, call, field, index, tuple, array, struct, cast, when, merge, iterate, iterate_from, []ᵉ, ◌∷ᵉ◌, []ⁱ, init}
use Rattle.lustre.specs.Project.{Port, Decl, Alias, Record, Enum, Constant, NodeKind, Function, Operator, Imported, Equation, Node, Heading, Project, decl_name, heading, skeleton, all_types, all_constants, all_nodes, is_function, port_names}
use Rattle.lustre.specs.Line.{Note, Remark, Line, plain}
use Rattle.lustre.specs.Resolve.{Scope, aliases_of, records_of, context, within_node}
use Rattle.lustre.specs.Infer.{infer}
use Rattle.lustre.specs.Deps.{reads, reads_each, reads_eachⁱ}
use Rattle.lustre.specs.Walk.{path_of, search as seek}
use Rattle.lustre.specs.Node.{repeated, absent, path_notes, loop_notes, assigns, wanted, bound_one, bound_plain, bound_each, bound_tuple, bound_as, bound, equation_notes, of_equation, of_node, equations_remarks, cycle_notes, opening_notes, closing_notes, body_remarks, imported_remarks, remarks_as, node_remarks}
use Rattle.lustre.specs.Report.{line, tagged, variants_in, repeated_variants, type_lines, alias_numbers, alias_line, alias_lines, node_name_lines, value_notes, constant_notes, constant_lines, opening, of_place, node_lines, nodes_lines, report}
use Rattle.demands.specs.Reading.{Each}
use Rattle.demands.specs.Loops.{Along, Closed}
use Rattle.demands.proofs.Known.{KnownName, KnownType, KnownExpr, KnownExprs, KnownInits, KnownPorts, KnownDecl, KnownConstant, KnownEquation, KnownNode, KnownProject, KnownScope, Fine}
use Rattle.demands.proofs.Eaches.{IfSome, each_append, each_if, each_map, each_all, each_member, each_within, each_weaken, each_lookup}
use Rattle.demands.proofs.Orders.{set_in}
use Rattle.demands.proofs.Edges.{search_closed}
use Rattle.demands.proofs.Notes.{infer_fine}

module _ (K : Name → Type 0) where
  known_aliases : (ds : List Decl) → Each (KnownDecl K) ds → Each (λ (e : Name × Ty). KnownType K e.1) (aliases_of ds)
  unfolding aliases_of KnownDecl
  known_aliases [] h = tt
  known_aliases (Alias x t ∷ ds) h = (h.0.1, known_aliases ds h.1)
  known_aliases (Record x fs ∷ ds) h = known_aliases ds h.1
  known_aliases (Enum x vs ∷ ds) h = known_aliases ds h.1

  known_records : (ds : List Decl) → Each (KnownDecl K) ds → Each (λ (e : Name × List Port). KnownPorts K e.1) (records_of ds)
  unfolding records_of KnownDecl
  known_records [] h = tt
  known_records (Alias x t ∷ ds) h = known_records ds h.1
  known_records (Record x fs ∷ ds) h = (h.0.1, known_records ds h.1)
  known_records (Enum x vs ∷ ds) h = known_records ds h.1

  known_types : (P : Project) → KnownProject K P → Each (KnownDecl K) (all_types (skeleton P))
  unfolding all_types skeleton
  known_types [] h = tt
  known_types (p ∷ ps) h = each_append (KnownDecl K) p.types _ h.0.types (known_types ps h.1)

  known_constants : (P : Project) → KnownProject K P → Each (KnownConstant K) (all_constants (skeleton P))
  unfolding all_constants skeleton
  known_constants [] h = tt
  known_constants (p ∷ ps) h = each_append (KnownConstant K) p.constants _ h.0.constants (known_constants ps h.1)

  pub known_nodes : (P : Project) → KnownProject K P → Each (KnownNode K) (all_nodes P)
  unfolding all_nodes
  known_nodes [] h = tt
  known_nodes (p ∷ ps) h = each_append (KnownNode K) p.nodes _ h.0.nodes (known_nodes ps h.1)

  -- the headings of known nodes have known names
  known_headings : (P : Project) → KnownProject K P → Each (λ (n : Heading). K n.name) (all_nodes (skeleton P))
  unfolding all_nodes skeleton heading
  known_headings [] h = tt
  known_headings (p ∷ ps) h =
      each_append _ (map heading p.nodes) _
      (each_map (λ (n : Heading). K n.name) heading p.nodes (each_weaken (KnownNode K) _ (λ n k. k.name) p.nodes h.0.nodes))
      (known_headings ps h.1)

  -- what a project's declarations hand out is known
  pub known_context : (P : Project) → KnownProject K P → KnownScope K (context (skeleton P))
  unfolding context
  known_context P h = record {
    alias = λ x t e. subst (IfSome (KnownType K)) e (each_lookup (KnownType K) x _ (known_aliases _ (known_types P h)));
    fields = λ x fs e. subst (IfSome (KnownPorts K)) e (each_lookup (KnownPorts K) x _ (known_records _ (known_types P h)));
  }

  -- ports and locals change nothing of what notes are named by
  pub known_within : (Γ : Scope) (env : List Port) → KnownScope K Γ → KnownScope K (within_node Γ env)
  unfolding within_node
  known_within Γ env g = record { alias = g.alias; fields = g.fields }

  mutual
    unfolding reads reads_each reads_eachⁱ KnownExpr KnownExprs KnownInits

    -- what a known expression reads is known
    pub known_reads : (e : Expr) → KnownExpr K e → Each K (reads e)
    known_reads (const l w) h = tt
    known_reads (var x) h = (h, tt)
    known_reads (unary o e) h = known_reads e h
    known_reads (binary o a b) h = each_append K (reads a) _ (known_reads a h.0) (known_reads b h.1)
    known_reads (ite c a b) h = each_append K (reads c ++ reads a) _ (each_append K (reads c) _ (known_reads c h.0) (known_reads a h.1)) (known_reads b h.2)
    known_reads (pre e) h = tt
    known_reads (arrow a b) h = each_append K (reads a) _ (known_reads a h.0) (known_reads b h.1)
    known_reads (call f es) h = known_reads_each es h.1
    known_reads (field x e) h = known_reads e h.1
    known_reads (index a b) h = each_append K (reads a) _ (known_reads a h.0) (known_reads b h.1)
    known_reads (tuple es) h = known_reads_each es h
    known_reads (array es) h = known_reads_each es h
    known_reads (struct x is) h = known_reads_eachⁱ is h.1
    known_reads (cast t e) h = known_reads e h.1
    known_reads (when on c e) h = (h.0, known_reads e h.1)
    known_reads (merge c a b) h = (h.0, each_append K (reads a) _ (known_reads a h.1) (known_reads b h.2))
    known_reads (iterate k f es) h = known_reads_each es h.1
    known_reads (iterate_from k f s es) h = each_append K (reads s) _ (known_reads s h.1) (known_reads_each es h.2)

    known_reads_each : (es : Exprs) → KnownExprs K es → Each K (reads_each es)
    known_reads_each []ᵉ h = tt
    known_reads_each (e ∷ᵉ es) h = each_append K (reads e) _ (known_reads e h.0) (known_reads_each es h.1)

    known_reads_eachⁱ : (is : Inits) → KnownInits K is → Each K (reads_eachⁱ is)
    known_reads_eachⁱ []ⁱ h = tt
    known_reads_eachⁱ (init x e is) h = each_append K (reads e) _ (known_reads e h.1) (known_reads_eachⁱ is h.2)

  -- each name that a step leads to is read by an equation
  known_along : (qs : List Equation) → Each (KnownEquation K) qs → (x : Name) (l : List Name) → Along qs x l → Each K l
  unfolding Along
  known_along qs h x [] a = tt
  known_along qs h x (y ∷ l) a =
      let edge = a.0 in
      (each_member K (reads edge.0.rhs) y edge.3 (known_reads edge.0.rhs (each_member (KnownEquation K) qs edge.0 edge.1 h).rhs), known_along qs h y l a.1)

  known_last : (xs : List Name) (x : Name) → Each K (xs ++ (x ∷ [])) → K x
  known_last [] x h = h.0
  known_last (y ∷ xs) x h = known_last xs x h.1

  -- a closed path's first name is its last, to which a step leads
  known_closed : (qs : List Equation) (c : List Name) → Each (KnownEquation K) qs → Closed qs c → Each K c
  known_closed qs c h l =
      let names = known_along qs h l.first _ l.steps in
      subst (Each K) (sym l.shape) (known_last l.between l.first names, names)

  abbrev KnownNote : Note → Type 0
  KnownNote m = KnownName K m.name

  abbrev KnownRemark : Remark → Type 0
  KnownRemark r = KnownNote r.note

  abbrev KnownLine : Line → Type 0
  KnownLine l = KnownRemark l.remark

  -- by these a list of notes is known as its parts are
  ruleset listed = (each_append, each_if, each_map)

  known_port_names : (ps : List Port) → KnownPorts K ps → Each K (port_names ps)
  unfolding port_names
  known_port_names [] h = tt
  known_port_names (p ∷ ps) h = (h.0.0, known_port_names ps h.1)

  known_repeated : (code : ℕ) (seen as' : List Name) → Each K as' → Each KnownNote (repeated code seen as')
  unfolding repeated
  known_repeated code seen [] h = tt
  known_repeated code seen (a ∷ as') h = let ih = known_repeated code (a ∷ seen) as' h.1 in let k = h.0 in search listed

  known_absent : (code : ℕ) (present as' : List Name) → Each K as' → Each KnownNote (absent code present as')
  unfolding absent
  known_absent code present [] h = tt
  known_absent code present (a ∷ as') h = let ih = known_absent code present as' h.1 in let k = h.0 in search listed

  known_assigns : (present inputs seen as' : List Name) → Each K as' → Each KnownNote (assigns present inputs seen as')
  unfolding assigns
  known_assigns present inputs seen [] h = tt
  known_assigns present inputs seen (a ∷ as') h = let ih = known_assigns present inputs (a ∷ seen) as' h.1 in let k = h.0 in search listed depth 7

  -- notes with no name
  known_plain : (code : ℕ) (ats : List ℕ) → Each KnownNote (map (λ at. plain at code) ats)
  known_plain code ats = each_map KnownNote _ ats (each_all (λ _. Unit {0}) (λ at. tt) ats)

  known_bound_one : (Γ : Scope) (code : ℕ) (a : Name) (t : Ty) (o : Option Ty) → K a → Each KnownNote (bound_one Γ code a t o)
  unfolding bound_one
  known_bound_one Γ code a t none k = tt
  known_bound_one Γ code a t (some want) k = search listed

  known_bound_plain : (Γ : Scope) (env : List Port) (as' : List Name) (t : Ty) → Each K as' → Each KnownNote (bound_plain Γ env as' t)
  unfolding bound_plain
  known_bound_plain Γ env [] t h = search listed
  known_bound_plain Γ env (a ∷ []) t h = known_bound_one Γ 40 a t (lookup a env) h.0
  known_bound_plain Γ env (a ∷ b ∷ bs) t h = search listed

  known_bound_each : (Γ : Scope) (env : List Port) (as' : List Name) (os : List Port) → Each K as' → Each KnownNote (bound_each Γ env as' os)
  unfolding bound_each
  known_bound_each Γ env [] os h = tt
  known_bound_each Γ env (a ∷ as') [] h = tt
  known_bound_each Γ env (a ∷ as') (o ∷ os) h = each_append KnownNote (bound_one Γ 43 a o.1 (lookup a env)) _ (known_bound_one Γ 43 a o.1 (lookup a env) h.0) (known_bound_each Γ env as' os h.1)

  known_bound_as : (Γ : Scope) (env : List Port) (as' : List Name) (f : Form) (t : Ty) (n : Option ℕ) → Each K as' → Each KnownNote (bound_as Γ env as' f t n)
  unfolding bound_as bound_tuple
  known_bound_as Γ env as' f t none h = known_bound_plain Γ env as' t h
  known_bound_as Γ env as' f t (some n) h = search (listed, known_bound_each)

  known_bound : (Γ : Scope) (env : List Port) (as' : List Name) (f : Form) (o : Option Ty) → Each K as' → Each KnownNote (bound Γ env as' f o)
  unfolding bound
  known_bound Γ env as' f none h = tt
  known_bound Γ env as' f (some t) h = known_bound_as Γ env as' f t (members t) h

  module _ (Γ : Scope) (in_scope : KnownScope K Γ) where
    -- the notes of inference name known names
    known_typed : (function : Bool) (at : ℕ) (e : Expr) → KnownExpr K e → (hint : Option Ty) → Each KnownNote (infer Γ function at e hint).1
    known_typed function at e k hint = each_weaken (Fine K) KnownNote (λ m f. f.known) (infer Γ function at e hint).1 (infer_fine K Γ in_scope function at e k hint)

    known_value_notes : (c : Constant) (o : Option Ty) → K c.name → Each KnownNote (value_notes Γ c o)
    unfolding value_notes
    known_value_notes c none k = tt
    known_value_notes c (some t) k = search listed

    known_constant_notes : (c : Constant) → KnownConstant K c → Each KnownNote (constant_notes Γ c)
    unfolding constant_notes
    known_constant_notes c h = let k = h.name in let v = h.value in search (listed, known_typed, known_value_notes)

    known_constant_lines : (i : ℕ) (seen : List Name) (cs : List Constant) → Each (KnownConstant K) cs → Each KnownLine (constant_lines Γ i seen cs)
    unfolding constant_lines line
    known_constant_lines i seen [] h = tt
    known_constant_lines i seen (c ∷ cs) h =
        let ih = known_constant_lines (suc i) (c.name ∷ seen) cs h.1 in
        let k = h.0.name in
        let notes = known_constant_notes c h.0 in
        search listed

  known_equation_notes : (Γ : Scope) → KnownScope K Γ → (n : Node) (env : List Port) (seen : List Name) (q : Equation) → KnownEquation K q → Each KnownNote (equation_notes Γ n env seen q)
  unfolding equation_notes
  known_equation_notes Γ g n env seen q h =
      let l = h.lhs in
      let typed = known_typed (within_node Γ env) (known_within Γ env g) (is_function n.kind) 0 q.rhs h.rhs (wanted env q.lhs) in
      search (listed, known_assigns, known_plain 70, known_plain 146, known_bound) depth 8

  known_equations_remarks : (Γ : Scope) → KnownScope K Γ → (n : Node) (env : List Port) (seen : List Name) (i : ℕ) (qs : List Equation)
      → Each (KnownEquation K) qs → Each KnownRemark (equations_remarks Γ n env seen i qs)
  unfolding equations_remarks of_equation
  known_equations_remarks Γ g n env seen i [] h = tt
  known_equations_remarks Γ g n env seen i (q ∷ qs) h =
      let ih = known_equations_remarks Γ g n env (q.lhs ++ seen) (suc i) qs h.1 in
      let notes = known_equation_notes Γ g n env seen q h.0 in
      search listed

  known_variants : (i : ℕ) (seen vs : List Name) → Each K vs → Each KnownLine (repeated_variants i seen vs)
  unfolding repeated_variants line
  known_variants i seen [] h = tt
  known_variants i seen (v ∷ vs) h = let ih = known_variants i (v ∷ seen) vs h.1 in let k = h.0 in search listed

  known_decl_name : (d : Decl) → KnownDecl K d → K (decl_name d)
  unfolding decl_name KnownDecl
  known_decl_name (Alias x t) h = h.0
  known_decl_name (Record x fs) h = h.0
  known_decl_name (Enum x vs) h = h.0

  known_variants_in : (d : Decl) → KnownDecl K d → Each K (variants_in d)
  unfolding variants_in KnownDecl
  known_variants_in (Alias x t) h = tt
  known_variants_in (Record x fs) h = tt
  known_variants_in (Enum x vs) h = h.1

  known_type_lines : (i : ℕ) (names variants : List Name) (ds : List (ℕ × Decl)) → Each (λ (d : ℕ × Decl). KnownDecl K d.1) ds → Each KnownLine (type_lines i names variants ds)
  unfolding type_lines line
  known_type_lines i names variants [] h = tt
  known_type_lines i names variants (d ∷ ds) h =
      let ih = known_type_lines (suc i) (decl_name d.1 ∷ names) (variants_in d.1 ++ variants) ds h.1 in
      let k = h.0 in
      search (listed, known_decl_name, known_variants_in, known_variants)

  known_tagged : (i : ℕ) (P : Project) → KnownProject K P → Each (λ (d : ℕ × Decl). KnownDecl K d.1) (tagged i (skeleton P))
  unfolding tagged skeleton
  known_tagged i [] h = tt
  known_tagged i (p ∷ ps) h = let ih = known_tagged (suc i) ps h.1 in let k = h.0.types in search listed

  known_alias_numbers : (i : ℕ) (ds : List Decl) → Each (KnownDecl K) ds → Each (λ (e : Name × ℕ). K e.0) (alias_numbers i ds)
  unfolding alias_numbers KnownDecl
  known_alias_numbers i [] h = tt
  known_alias_numbers i (Alias x t ∷ ds) h = (h.0.0, known_alias_numbers (suc i) ds h.1)
  known_alias_numbers i (Record x fs ∷ ds) h = known_alias_numbers (suc i) ds h.1
  known_alias_numbers i (Enum x vs ∷ ds) h = known_alias_numbers (suc i) ds h.1

  -- the names of the aliases, in byte order
  known_alias_names : (numbers : List (Name × ℕ)) → Each (λ (e : Name × ℕ). K e.0) numbers → Each K (set_of (map (λ e. e.0) numbers))
  known_alias_names numbers h =
      let names = map (λ (e : Name × ℕ). e.0) numbers in
      each_within K names (set_of names) (λ x m. set_in x names m) (each_map K (λ (e : Name × ℕ). e.0) numbers h)

  known_alias_line : (a : Name) (t : Option Ty) (o : Option ℕ) → K a → Each KnownLine (alias_line a t o)
  unfolding alias_line line
  known_alias_line a (some t) o k = tt
  known_alias_line a none none k = tt
  known_alias_line a none (some i) k = (k, tt)

  known_alias_lines : (Γ : Scope) (numbers : List (Name × ℕ)) (as' : List Name) → Each K as' → Each KnownLine (alias_lines Γ numbers as')
  unfolding alias_lines
  known_alias_lines Γ numbers [] h = tt
  known_alias_lines Γ numbers (a ∷ as') h = let ih = known_alias_lines Γ numbers as' h.1 in let k = h.0 in search (listed, known_alias_line)

  known_node_name_lines : (i : ℕ) (seen : List Name) (ns : List Heading) → Each (λ (n : Heading). K n.name) ns → Each KnownLine (node_name_lines i seen ns)
  unfolding node_name_lines line
  known_node_name_lines i seen [] h = tt
  known_node_name_lines i seen (n ∷ ns) h = let ih = known_node_name_lines (suc i) (n.name ∷ seen) ns h.1 in let k = h.0 in search listed

  known_opening : (P : Project) → KnownProject K P → Each KnownLine (opening (skeleton P))
  unfolding opening
  known_opening P h =
      let types = known_tagged 0 P h in
      let aliases = known_alias_names (alias_numbers 0 (all_types (skeleton P))) (known_alias_numbers 0 (all_types (skeleton P)) (known_types P h)) in
      let headings = known_headings P h in
      let constants = known_constants P h in
      let scope = known_context P h in
      search (listed, known_type_lines, known_alias_lines, known_node_name_lines, known_constant_lines)

  known_path_notes : (i : ℕ) (c : List Name) → Each K c → Each KnownNote (path_notes i c)
  unfolding path_notes
  known_path_notes i [] h = tt
  known_path_notes i (a ∷ as') h = (h.0, known_path_notes (suc i) as' h.1)

  known_imported : (qs : List Equation) → Each KnownRemark (imported_remarks qs)
  unfolding imported_remarks of_node
  known_imported [] = tt
  known_imported (q ∷ qs) = (tt, tt)

  -- E0060: the names of the path found, a closed one
  known_loop_notes : (qs : List Equation) → Each (KnownEquation K) qs → (o : Option (List Name)) → path_of (seek qs) ≡ o → Each KnownNote (loop_notes o)
  unfolding loop_notes
  known_loop_notes qs h none e = tt
  known_loop_notes qs h (some c) e = known_path_notes 0 c (known_closed qs c h (search_closed qs c e))

  known_cycle_notes : (k : NodeKind) (qs : List Equation) → Each (KnownEquation K) qs → Each KnownNote (cycle_notes k qs)
  unfolding cycle_notes
  known_cycle_notes Function qs h = known_loop_notes qs h (path_of (seek qs)) refl
  known_cycle_notes Operator qs h = known_loop_notes qs h (path_of (seek qs)) refl
  known_cycle_notes Imported qs h = tt

  module _ (Γ : Scope) (in_scope : KnownScope K Γ) where
    known_body : (n : Node) → KnownNode K n → Each KnownRemark (body_remarks Γ n)
    unfolding body_remarks opening_notes closing_notes of_node
    known_body n h =
        let ins = h.inputs in
        let outs = h.outputs in
        let locals = h.locals in
        let equations = h.equations in
        let probes = h.probes in
        search (listed, known_port_names, known_repeated, known_equations_remarks, known_absent, known_cycle_notes) depth 8

    known_remarks_as : (k : NodeKind) (n : Node) → KnownNode K n → Each KnownRemark (remarks_as k Γ n)
    unfolding remarks_as
    known_remarks_as Function n h = known_body n h
    known_remarks_as Operator n h = known_body n h
    known_remarks_as Imported n h = known_imported n.equations

    known_nodes_lines : (i : ℕ) (ns : List Node) → Each (KnownNode K) ns → Each KnownLine (nodes_lines Γ i ns)
    unfolding nodes_lines node_lines node_remarks of_place
    known_nodes_lines i [] h = tt
    known_nodes_lines i (n ∷ ns) h =
        let ih = known_nodes_lines (suc i) ns h.1 in
        let remarks = known_remarks_as n.kind n h.0 in
        search listed

  -- every name of a report is known where the project's names are
  pub report_known : (P : Project) → KnownProject K P → Each (λ (l : Line). KnownName K l.remark.note.name) (report P)
  unfolding report
  report_known P h =
      each_append KnownLine (opening (skeleton P)) _ (known_opening P h)
      (known_nodes_lines (context (skeleton P)) (known_context P h) 0 (all_nodes P) (known_nodes P h))
