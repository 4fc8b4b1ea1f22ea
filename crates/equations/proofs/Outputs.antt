-- A right-hand side that is a tuple: E0042 by the numbers of names and members, and E0043 where it is itself a call, name by name.
-- Assumes nothing.
use Prim.Native.Nat.{ℕ, suc, ◌+◌, ◌<◌, min}
use native.Mathlib.Omega.{arith}
use mathlib.Core.Path.{◌≡◌, refl, sym, ap, ◌∙◌}
use mathlib.Core.Bool.{Bool, true, false}
use mathlib.Core.List.{List, [], ◌∷◌, ◌++◌, map}
use mathlib.Core.Option.{Option, none}
use lib.ListN.{length, get_or, length-map}
use Rattle.std.specs.Prelude.{Some, None}
use borrow.Author.Tests.{eq-eqb, ne_eqb}
use Rattle.lustre.specs.Name.{Name, lookup}
use Rattle.lustre.specs.Types.{Ty}
use Rattle.lustre.specs.Expr.{Expr, Literal, Form, form, literal_form}
use Rattle.lustre.specs.Expr.{const, var, unary, binary, ite, pre, arrow, call, field, index, tuple, array, struct, cast, when, merge, iterate, iterate_from, bool, int, float, char}
use Rattle.lustre.specs.Project.{Port, Heading, skeleton}
use Rattle.lustre.specs.Line.{Note, bare, about}
use Rattle.lustre.specs.Resolve.{Scope, context, compatible}
use Rattle.lustre.specs.Node.{bound_one, bound_each, bound_tuple, outputs_in, called_outputs}
use Rattle.lustre.specs.declared.NameId.{NameId}
use Rattle.standing.specs.Standing.{Source, RecAt, ExprAt, ports_size}
use Rattle.standing.proofs.Inversions.{WithName, Arguments, expr_record, call_here}
use Rattle.lines.specs.Lines.{Noted}
use Rattle.lines.specs.declared.Spot.{Spot}
use Rattle.lines.specs.declared.Lines.{Lines}
use Rattle.lines.proofs.Laws.{noted_none, noted_append}
use Rattle.types.specs.Place.{Read}
use Rattle.types.specs.Value.{Naming, asTy}
use Rattle.types.specs.Scope.{Compares}
use Rattle.types.specs.declared.Typ.{Typ}
use Rattle.types.specs.declared.context.Context.{Context}
use Rattle.rules.specs.World.{Listed, HeadingAt, PortsHere, PortsOf, Found, source_of}
use Rattle.rules.specs.Post.{HintIs}
use Rattle.rules.specs.Walk.{FirstPort, Walked}
use Rattle.rules.specs.declared.walk.Ports.{Ports}
use Rattle.rules.proofs.Laws.{found}
use Rattle.rules.proofs.Places.{read_is}
use Rattle.rules.proofs.Walks.{Left, left_start, left_first, left_place, left_next, left_none}
use Rattle.scope.specs.Tables.{records}
use Rattle.scope.proofs.World.{apart}
use Rattle.scope.specs.Names.{NamesHere}
use Rattle.equations.specs.Equations.{OutputGiven, OutputOf, output_notes, OutputsGiven, OutputsOf, outputs_notes, SidesGiven}
use Rattle.scope.proofs.Names.{names_in, names_are, names_small}
use Rattle.equations.proofs.Types.{alias_table, one_free, one_fits, one_unfit}

-- ---- the numbers

module _ (Γ : Scope) (env : List Port) where
  -- no outputs, or no names
  pub each_none : (xs : List Name) (ps : List Port) → min (length xs) (length ps) ≡ 0 → bound_each Γ env xs ps ≡ []
  unfolding bound_each
  each_none [] ps h = refl
  each_none (x ∷ xs) [] h = refl
  each_none (x ∷ xs) (p ∷ ps) h = absurd (omega arith)

  module _ (xs : List Name) (f : Form) (n : ℕ) where
    -- another number of names than members
    pub tuple_other : (n ≡ length xs → ⊥) → bound_tuple Γ env xs f n ≡ bare 42 ∷ []
    unfolding bound_tuple
    tuple_other h = rw (ne_eqb n (length xs) h)

    -- as many names as members
    pub tuple_same : n ≡ length xs → bound_tuple Γ env xs f n ≡ bound_each Γ env xs (called_outputs Γ f)
    unfolding bound_tuple
    tuple_same h = rw (eq-eqb n (length xs) h)

-- ---- one name and one output

module _ {ks ws sc : List ℕ} {at : ℕ} (g : OutputGiven ks ws sc at) (name : ℕ) where
  abbrev output_scope : Scope
  output_scope = context (skeleton g.scoped.model.P)

  abbrev text : Naming
  text = g.scoped.model.text

  abbrev declared : Option Ty
  declared = lookup (text name) g.scoped.env

  -- a name that is no port or local
  pub output_free : HintIs text declared 67 None → output_notes g name ≡ []
  output_free d = one_free output_scope 43 (text name) g.t (sym d.is)

  module _ {want got : Typ} {j : ℕ} {r : Bool} (d : HintIs text declared 67 (Some want)) (dg : Read ks ws at got j) (dc : Compares ks ws sc want got r) where
    -- what the code compares is the declared type and the output's
    compared : r ≡ compatible output_scope.alias (asTy text want) g.t
    compared = dc text (apart g.scoped.model) output_scope.alias (alias_table g.scoped) ∙ ap (compatible output_scope.alias (asTy text want)) (read_is g.typed dg).is

    pub output_fits : r ≡ true → output_notes g name ≡ []
    output_fits h = one_fits output_scope 43 (text name) g.t (sym d.is) (sym compared ∙ h)

    pub output_unfit : r ≡ false → output_notes g name ≡ about 43 (text name) ∷ []
    output_unfit h = one_unfit output_scope 43 (text name) g.t (sym d.is) (sym compared ∙ h)

-- ---- the callee

-- a literal is no call
literal_uncalled : (Γ : Scope) (l : Literal) (w : ℕ) → called_outputs Γ (literal_form l w) ≡ []
unfolding called_outputs literal_form
literal_uncalled Γ bool w = refl
literal_uncalled Γ int w = refl
literal_uncalled Γ float w = refl
literal_uncalled Γ char w = refl

-- nor is what stands at a record of another kind
pub uncalled : (Γ : Scope) (S : Source) (e : Expr) (at : ℕ) → ExprAt S e at → (get_or S.ks at 0 ≡ 70 → ⊥) → called_outputs Γ (form e) ≡ []
unfolding called_outputs form ExprAt
uncalled Γ S (const l w) at s h = literal_uncalled Γ l w
uncalled Γ S (var x) at s h = refl
uncalled Γ S (unary o e) at s h = refl
uncalled Γ S (binary o a b) at s h = refl
uncalled Γ S (ite c a b) at s h = refl
uncalled Γ S (pre e) at s h = refl
uncalled Γ S (arrow a b) at s h = refl
uncalled Γ S (call f es) at s h = absurd (h s.0.kind)
uncalled Γ S (field x e) at s h = refl
uncalled Γ S (index a b) at s h = refl
uncalled Γ S (tuple es) at s h = refl
uncalled Γ S (array es) at s h = refl
uncalled Γ S (struct x vs) at s h = refl
uncalled Γ S (cast t e) at s h = refl
uncalled Γ S (when on c e) at s h = refl
uncalled Γ S (merge c a b) at s h = refl
uncalled Γ S (iterate k f es) at s h = refl
uncalled Γ S (iterate_from k f a es) at s h = refl

module _ {ks ws sc : List ℕ} {list start : ℕ} (g : SidesGiven ks ws sc list start) where
  abbrev model_scope : Scope
  model_scope = context (skeleton g.left.scoped.model.P)

  -- the record of the right-hand side
  pub side_record : RecAt (records g.left.scoped.model) start (get_or ks start 0)
  side_record = expr_record (records g.left.scoped.model) g.e start g.stands

  -- where it is no call, a tuple of as many members as names gets no line
  pub tuple_uncalled : {n : ℕ} → n ≡ get_or ws list 0 → called_outputs model_scope (form g.e) ≡ [] → bound_tuple model_scope g.left.scoped.env g.left.xs (form g.e) n ≡ []
  tuple_uncalled {n} h e = tuple_same model_scope g.left.scoped.env g.left.xs (form g.e) n (h ∙ g.left.listed.many) ∙ ap (bound_each model_scope g.left.scoped.env g.left.xs) e ∙ each_none model_scope g.left.scoped.env g.left.xs [] (omega arith)

  pub side_uncalled : (get_or ks start 0 ≡ 70 → ⊥) → called_outputs model_scope (form g.e) ≡ []
  side_uncalled h = uncalled model_scope (records g.left.scoped.model) g.e start g.stands h

  -- the call that stands at its record
  pub called : get_or ks start 0 ≡ 70 → WithName (records g.left.scoped.model) start (λ f. Arguments (records g.left.scoped.model) (call f) g.e start)
  called h = call_here (records g.left.scoped.model) g.e start g.stands h

  -- what the entry of its name among nodes says
  pub called_entry : (h : get_or ks start 0 ≡ 70) → Found (HeadingAt (records g.left.scoped.model)) (get_or sc (get_or ws start 0 + 2048) 0) (model_scope.node (called h).x)
  unfolding context
  called_entry h = rw (← (called h).name.text) (g.left.scoped.declared.node (get_or ws start 0) (called h).name.small)

  -- its outputs
  pub called_are : (h : get_or ks start 0 ≡ 70) → called_outputs model_scope (form g.e) ≡ outputs_in (model_scope.node (called h).x)
  unfolding called_outputs form
  called_are h = ap (λ (e : Expr). called_outputs model_scope (form e)) (called h).holds.is

  -- an unknown callee has none
  pub called_unknown : (h : get_or ks start 0 ≡ 70) → model_scope.node (called h).x ≡ none → called_outputs model_scope (form g.e) ≡ []
  unfolding outputs_in
  called_unknown h e = called_are h ∙ ap outputs_in e

  -- a callee's heading, whose inputs and outputs stand from its entry on
  pub record Callee (e : ℕ) : Type 0 where
    pub h : Heading
    pub inputs : Listed (records g.left.scoped.model) h.inputs e
    pub outputs : Listed (records g.left.scoped.model) h.outputs (e + ports_size h.inputs)
    pub are : called_outputs model_scope (form g.e) ≡ h.outputs

  pub callee : (h : get_or ks start 0 ≡ 70) (p : ℕ) → get_or sc (get_or ws start 0 + 2048) 0 ≡ p + 1 → Callee (p + 1)
  unfolding outputs_in
  callee h p n = let w = found (called_entry h) n in record { h = w.a; inputs = w.there.inputs; outputs = w.there.outputs; are = called_are h ∙ ap outputs_in w.is }

  -- a tuple of as many members as names gets what its outputs say
  pub tuple_called : {e n : ℕ} (c : Callee e) → n ≡ get_or ws list 0 → bound_tuple model_scope g.left.scoped.env g.left.xs (form g.e) n ≡ bound_each model_scope g.left.scoped.env g.left.xs c.h.outputs
  tuple_called {n = n} c h = tuple_same model_scope g.left.scoped.env g.left.xs (form g.e) n (h ∙ g.left.listed.many) ∙ ap (bound_each model_scope g.left.scoped.env g.left.xs) c.are

  -- its inputs, for `ports_end`
  abbrev pub callee_inputs : {e : ℕ} → Callee e → PortsHere ks ws e
  callee_inputs c = record { text = g.left.scoped.model.text; ps = c.h.inputs; listed = c.inputs }

  -- its outputs beside the names assigned
  abbrev pub callee_outputs : {e i : ℕ} (c : Callee e) → i ≡ e + ports_size c.h.inputs → OutputsGiven ks ws sc list i
  callee_outputs c q = record { left = g.left; ps = c.h.outputs; listed = rw q c.outputs }

-- ---- name by name

-- the first name and the first output, and the others
each_more : (Γ : Scope) (env : List Port) {xs more : List Name} {x : Name} {ps others : List Port} {p : Port} → xs ≡ x ∷ more → ps ≡ p ∷ others
    → bound_each Γ env xs ps ≡ bound_one Γ 43 x p.1 (lookup x env) ++ bound_each Γ env more others
unfolding bound_each
each_more Γ env e f = rw (e, f)

module _ (x : Context) {list outputs : ℕ} (g : OutputsOf x list outputs) where
  -- the names assigned, by their numbers
  abbrev pub left_names : NamesHere x.records.words.now list
  left_names = record { ks = x.records.kinds.now; text = g.left.scoped.model.text; xs = g.left.xs; listed = g.left.listed }

  -- the outputs, as a list of ports
  abbrev output_ports : PortsOf x.records outputs
  output_ports = record { text = g.left.scoped.model.text; ps = g.ps; listed = g.listed }

  abbrev each : List ℕ → List Port → List Note
  each ns = bound_each (context (skeleton g.left.scoped.model.P)) g.left.scoped.env (map g.left.scoped.model.text ns)

  -- what the loop keeps where the names of the numbers ns and the outputs of a walk are left: once these are noted, all are
  pub record Judging (q : Spot) (l₀ : Lines) (ns : List ℕ) (w : Ports) (l : Lines) : Type 0 where
    pub small : (i : ℕ) → i < length ns → get_or ns i 0 < 512
    pub walk : Left x.records output_ports w
    pub all : {l' : Lines} → Noted g.left.scoped.model.number q (each ns walk.rest) l l' → Noted g.left.scoped.model.number q (outputs_notes g) l₀ l'

  pub judging_start : {q : Spot} {l : Lines} {w : Ports} → (w.records ≡ x.records) × (w.at ≡ outputs + 1) × (w.left ≡ get_or x.records.words.now outputs 0)
      → Judging q l (names_in x.records.words.now list) w l
  judging_start e = record {
    small = names_small left_names;
    walk = left_start x.records output_ports e;
    all = λ d. rw (names_are left_names) at d;
  }

module _ {x : Context} {list outputs : ℕ} {g : OutputsOf x list outputs} {q : Spot} {l₀ l : Lines} {ns : List ℕ} {w : Ports} (j : Judging x g q l₀ ns w l) where
  -- no names are left, or no outputs
  judged_all : min (length (map g.left.scoped.model.text ns)) (length j.walk.rest) ≡ 0 → Noted g.left.scoped.model.number q (outputs_notes g) l₀ l
  judged_all h = j.all (rw (each_none (context (skeleton g.left.scoped.model.P)) g.left.scoped.env (map g.left.scoped.model.text ns) j.walk.rest h) noted_none)

  pub judged_names : length ns ≡ 0 → Noted g.left.scoped.model.number q (outputs_notes g) l₀ l
  judged_names h = judged_all (omega (arith, length-map ns g.left.scoped.model.text))

  pub judged_ports : {v : Ports} → Walked w None v → Noted g.left.scoped.model.number q (outputs_notes g) l₀ l
  judged_ports d = judged_all (rw (left_none j.walk d) (omega arith))

  module _ {n : ℕ} {more : List ℕ} (is : ns ≡ n ∷ more) where
    -- the next name's number
    pub judged_small : n < 512
    judged_small = rw is at (j.small 0 (rw is (omega arith)))

    module _ {p : NameId × ℕ} {v : Ports} (d : Walked w (Some p) v) where
      abbrev first : FirstPort (source_of x.records g.left.scoped.model.text) j.walk.rest w.at v.at v.left
      first = left_first j.walk d

      -- the next output's type, for `check_output`
      abbrev pub judged_output : OutputOf x (p.1 + 1)
      judged_output = record { scoped = g.left.scoped; t = first.p.1; typed = rw (left_place j.walk d) first.typed }

      -- one name and one output less
      pub judging_more : {l' : Lines} → Noted g.left.scoped.model.number q (output_notes judged_output n) l l' → Judging x g q l₀ more v l'
      judging_more u = record {
        small = λ i b. rw is at (j.small (suc i)) (omega arith);
        walk = left_next j.walk d;
        all = λ r. j.all (rw (each_more (context (skeleton g.left.scoped.model.P)) g.left.scoped.env (ap (map g.left.scoped.model.text) is) first.are) (noted_append u r));
      }
