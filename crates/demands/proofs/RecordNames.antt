-- The names of a project are names of its records, and the names of spelled records are among the names lent.
-- Assumes nothing.
use Prim.Native.Nat.{ℕ, zero, suc, ◌+◌, ◌<◌}
use native.Mathlib.Omega.{arith}
use mathlib.Core.Path.{◌≡◌, refl}
use mathlib.Core.Bool.{Bool, true, false}
use mathlib.Core.List.{List, [], ◌∷◌}
use mathlib.Core.Option.{Option, none, some}
use lib.ListN.{length}
use borrow.Author.Tests.{ltb-true}
use Rattle.lustre.specs.Name.{Name, ◌is◌, mem, ◌among◌}
use Rattle.lustre.specs.Names.{name_at}
use Rattle.lustre.specs.Records.{Rec, WordClass, no_word, a_name, a_count, a_length, a_truth, any_word, a_byte, word_class, word_classes, class_in, in_class, bad_record, spell, spell_as}
use Rattle.lustre.specs.Types.{basic, Array, Named, Tuple}
use Rattle.lustre.specs.Expr.{IterKind, Map, Fold, const, var, unary, binary, ite, pre, arrow, call, field, index, tuple, array, struct, cast, when, merge, iterate, iterate_from, []ᵉ, ◌∷ᵉ◌, []ⁱ, init}
use Rattle.lustre.specs.Project.{Port, Alias, Record, Enum, NodeKind, Function, Operator, Imported, Project}
use Rattle.lustre.specs.Grammar.{when_kind, iterate_kind, iterate_from_kind, node_kind, flat_type, flat, flats, flatsⁱ, each_of, list_of, flat_name, flat_port, flat_decl, flat_constant, flat_equation, flat_node, flat_package, flat_project}
use Rattle.demands.specs.Reading.{Each}
use Rattle.demands.proofs.Known.{KnownType, KnownExpr, KnownExprs, KnownInits, KnownPorts, KnownDecl, KnownConstant, KnownEquation, KnownNode, KnownPackage, KnownProject, KnownWord, KnownRecords}
use Rattle.demands.proofs.Sets.{mem_self, mem_later}
use Rattle.demands.proofs.Orders.{is_test}

-- one part and then another
and_then : {P Q R S : Type 0} → P × R → (R → Q × S) → (P × Q) × S
and_then p q = let r = q p.1 in ((p.0, r.0), r.1)

-- a record's own name and then the rest
also : {A P R : Type 0} → A → P × R → (A × P) × R
also a p = ((a, p.0), p.1)

module _ (K : Name → Type 0) where
  -- the name of a record of a kind, if it has one, is known
  abbrev KnownText : ℕ → Name → Type 0
  KnownText kind x = KnownWord K (word_class kind) x

  -- where the records of x before k are known, x is known and so are the records k
  abbrev Parts : {X : Type 0} → (X → List Rec → List Rec) → (X → Type 0) → Type 0
  Parts {X} f P = (x : X) (k : List Rec) → KnownRecords K (f x k) → P x × KnownRecords K k

  -- a record whose kind the tree chooses has a name whichever it is
  known_when : (on : Bool) (c : Name) → KnownText (when_kind on) c → K c
  unfolding word_class class_in word_classes mem
  known_when true c h = h
  known_when false c h = h

  known_iterate : (i : IterKind) (f : Name) → KnownText (iterate_kind i) f → K f
  unfolding word_class class_in word_classes mem
  known_iterate Map f h = h
  known_iterate Fold f h = h

  known_iterate_from : (i : IterKind) (f : Name) → KnownText (iterate_from_kind i) f → K f
  unfolding word_class class_in word_classes mem
  known_iterate_from Map f h = h
  known_iterate_from Fold f h = h

  known_node_name : (n : NodeKind) (x : Name) → KnownText (node_kind n) x → K x
  unfolding word_class class_in word_classes mem
  known_node_name Function x h = h
  known_node_name Operator x h = h
  known_node_name Imported x h = h

  known_type : Parts flat_type (KnownType K)
  unfolding flat_type KnownType word_class class_in word_classes mem
  known_type (basic b) k h = (tt, h.1)
  known_type (Array n t) k h = known_type t k h.1
  known_type (Named x) k h = h
  known_type (Tuple n) k h = (tt, h.1)

  mutual
    unfolding flat flats flatsⁱ KnownExpr KnownExprs KnownInits word_class class_in word_classes mem

    known_expr : Parts flat (KnownExpr K)
    known_expr (const l w) k h = (tt, h.1)
    known_expr (var x) k h = h
    known_expr (unary o e) k h = known_expr e k h.1
    known_expr (binary o a b) k h = and_then (known_expr a (flat b k) h.1) (λ l. known_expr b k l)
    known_expr (ite c a b) k h =
        let p = known_expr c (flat a (flat b k)) h.1 in
        let q = known_expr a (flat b k) p.1 in
        let r = known_expr b k q.1 in
        ((p.0, q.0, r.0), r.1)
    known_expr (pre e) k h = known_expr e k h.1
    known_expr (arrow a b) k h = and_then (known_expr a (flat b k) h.1) (λ l. known_expr b k l)
    known_expr (call f es) k h = also h.0 (known_exprs es k h.1.1)
    known_expr (field x e) k h = also h.0 (known_expr e k h.1)
    known_expr (index a b) k h = and_then (known_expr a (flat b k) h.1) (λ l. known_expr b k l)
    known_expr (tuple es) k h = known_exprs es k h.1
    known_expr (array es) k h = known_exprs es k h.1
    known_expr (struct x vs) k h = also h.0 (known_inits vs k h.1.1)
    known_expr (cast t e) k h = and_then (known_type t (flat e k) h.1) (λ l. known_expr e k l)
    known_expr (when on c e) k h = also (known_when on c h.0) (known_expr e k h.1)
    known_expr (merge c a b) k h = let p = known_expr a (flat b k) h.1 in let q = known_expr b k p.1 in ((h.0, p.0, q.0), q.1)
    known_expr (iterate i f es) k h = also (known_iterate i f h.0) (known_exprs es k h.1.1)
    known_expr (iterate_from i f s es) k h =
        let p = known_expr s _ h.1 in
        let q = known_exprs es k p.1.1 in
        ((known_iterate_from i f h.0, p.0, q.0), q.1)

    known_exprs : Parts flats (KnownExprs K)
    known_exprs []ᵉ k h = (tt, h)
    known_exprs (e ∷ᵉ es) k h = and_then (known_expr e (flats es k) h) (λ l. known_exprs es k l)

    known_inits : Parts flatsⁱ (KnownInits K)
    known_inits []ⁱ k h = (tt, h)
    known_inits (init x e vs) k h = let p = known_expr e (flatsⁱ vs k) h.1 in let q = known_inits vs k p.1 in ((h.0, p.0, q.0), q.1)

  known_each : {X : Type 0} (f : X → List Rec → List Rec) (P : X → Type 0) → Parts f P → Parts (each_of f) (Each P)
  unfolding each_of
  known_each f P part [] k h = (tt, h)
  known_each f P part (x ∷ xs) k h = and_then (part x (each_of f xs k) h) (λ l. known_each f P part xs k l)

  known_list : {X : Type 0} (f : X → List Rec → List Rec) (P : X → Type 0) → Parts f P → Parts (list_of f) (Each P)
  known_list f P part xs k h = known_each f P part xs k h.1

  known_name : Parts flat_name K
  unfolding word_class class_in word_classes mem
  known_name x k h = h

  known_names : Parts (list_of flat_name) (Each K)
  known_names = known_list flat_name K known_name

  known_port : Parts flat_port (λ (p : Port). K p.0 × KnownType K p.1)
  unfolding word_class class_in word_classes mem
  known_port x k h = also h.0 (known_type x.1 k h.1)

  known_ports : Parts (list_of flat_port) (KnownPorts K)
  known_ports = known_list flat_port _ known_port

  known_decl : Parts flat_decl (KnownDecl K)
  unfolding flat_decl KnownDecl word_class class_in word_classes mem
  known_decl (Alias x t) k h = also h.0 (known_type t k h.1)
  known_decl (Record x fs) k h = also h.0 (known_ports fs k h.1)
  known_decl (Enum x vs) k h = also h.0 (known_names vs k h.1)

  known_constant : Parts flat_constant (KnownConstant K)
  unfolding word_class class_in word_classes mem
  known_constant c k h =
      let p = known_type c.type (flat c.value k) h.1 in
      let q = known_expr c.value k p.1 in
      (record { name = h.0; type = p.0; value = q.0 }, q.1)

  known_equation : Parts flat_equation (KnownEquation K)
  known_equation q k h =
      let l = known_names q.lhs (flat q.rhs k) h.1 in
      let r = known_expr q.rhs k l.1 in
      (record { lhs = l.0; rhs = r.0 }, r.1)

  known_node : Parts flat_node (KnownNode K)
  known_node n k h =
      let ins = known_ports n.inputs _ h.1 in
      let outs = known_ports n.outputs _ ins.1 in
      let locals = known_ports n.locals _ outs.1 in
      let equations = known_list flat_equation (KnownEquation K) known_equation n.equations _ locals.1 in
      let probes = known_names n.probes k equations.1 in
      (record { name = known_node_name n.kind n.name h.0; inputs = ins.0; outputs = outs.0; locals = locals.0; equations = equations.0; probes = probes.0 }, probes.1)

  known_package : Parts flat_package (KnownPackage K)
  known_package p k h =
      let types = known_list flat_decl (KnownDecl K) known_decl p.types _ h.1 in
      let constants = known_list flat_constant (KnownConstant K) known_constant p.constants _ types.1 in
      let nodes = known_list flat_node (KnownNode K) known_node p.nodes k constants.1 in
      (record { types = types.0; constants = constants.0; nodes = nodes.0 }, nodes.1)

  -- the names of a project are those of its records
  pub project_known : (P : Project) → KnownRecords K (flat_project P []) → KnownProject K P
  project_known P h = (known_each flat_package (KnownPackage K) known_package P [] h.1).0

-- a name number below the count is a name's
name_among : (names : List Name) (w : ℕ) → w < length names → name_at names w among names ≡ true
name_among [] w h = absurd (omega arith)
name_among (a ∷ as') zero h = mem_self ◌is◌ is_test a as'
name_among (a ∷ as') (suc w) h = mem_later ◌is◌ (name_at as' w) a as' (name_among as' w (omega arith))

-- no record is bad: this one is not, and none behind it is
pass : (at : ℕ) (b : Bool) (rest : Option ℕ) → ◌≡◌ {A = Option ℕ} (elim b [ true ↦ rest | false ↦ some at ]) none → (b ≡ true) × (rest ≡ none)
pass at true rest e = (refl, e)
pass at false rest e = (cc, cc)

module _ (names : List Name) where
  abbrev pub Among : Name → Type 0
  Among x = x among names ≡ true

  -- a word in range is spelled by one of the names, if by any
  spelled_word : (o : Option WordClass) (kind w : ℕ) → word_class kind ≡ o → in_class (length names) o w ≡ true
      → KnownWord Among (word_class (spell_as o kind w (name_at names w)).kind) (spell_as o kind w (name_at names w)).text
  unfolding spell_as in_class
  spelled_word none kind w e h = rw e tt
  spelled_word (some no_word) kind w e h = rw e tt
  spelled_word (some a_name) kind w e h = rw e (name_among names w (ltb-true w (length names) h))
  spelled_word (some a_count) kind w e h = rw e tt
  spelled_word (some a_length) kind w e h = rw e tt
  spelled_word (some a_truth) kind w e h = rw e tt
  spelled_word (some any_word) kind w e h = rw e tt
  spelled_word (some a_byte) kind w e h = rw e tt

  -- records without a bad one are spelled by the names
  pub spelled_known : (ks ws : List ℕ) (at : ℕ) → bad_record (length names) at ks ws ≡ none → KnownRecords Among (spell (name_at names) ks ws)
  unfolding bad_record spell
  spelled_known [] ws at e = tt
  spelled_known (k ∷ ks) [] at e = tt
  spelled_known (k ∷ ks) (w ∷ ws) at e =
      let passed = pass at (in_class (length names) (word_class k) w) _ e in
      (spelled_word (word_class k) k w refl passed.0, spelled_known ks ws (at + 1) passed.1)
