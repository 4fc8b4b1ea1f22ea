-- What stands by flattening stands by recursion: where the spelled records from a position on are a tree's and then others, the tree
-- stands at the position and the others are left behind it.
-- Assumes nothing.
use Prim.Native.Nat.{ℕ, zero, suc, ◌+◌, ◌≤◌, ◌<◌, zero-le}
use native.Mathlib.Numerals.{add-one}
use native.Mathlib.Omega.{arith}
use mathlib.Core.Path.{◌≡◌, refl, ap, sym, subst, ◌∙◌}
use mathlib.Core.Bool.{Bool, true, false}
use mathlib.Core.List.{List, [], ◌∷◌}
use mathlib.Core.Option.{Option, none, some}
use lib.ListN.{length, get_or, drop, length-drop}
use borrow.Author.Tests.{ltb-true}
use Rattle.lustre.specs.Name.{Name, mem}
use Rattle.lustre.specs.Records.{Rec, WordClass, no_word, a_name, a_count, a_length, a_truth, any_word, a_byte, word_class, word_classes, class_in, in_class, bad_record, spell_as, spell}
use Rattle.lustre.specs.Types.{basic, Array, Named, Tuple, levels}
use Rattle.lustre.specs.Expr.{Literal, IterKind, size, sizes, sizesⁱ}
use Rattle.lustre.specs.Expr.{bool, int, float, char, Map, Fold, const, var, unary, binary, ite, pre, arrow, call, field, index, tuple, array, struct, cast, when, merge, iterate, iterate_from, []ᵉ, ◌∷ᵉ◌, []ⁱ, init}
use Rattle.lustre.specs.Project.{NodeKind, Function, Operator, Imported, Port, Alias, Record, Enum, Equation, Project}
use Rattle.lustre.specs.Grammar.{Sort, Class, one, list, Single, Tree, a_project, a_package, a_declaration, a_constant, a_node, a_port, a_name, an_equation, a_type, an_expression, a_field_value}
use Rattle.lustre.specs.Grammar.{literal_kind, when_kind, iterate_kind, iterate_from_kind, node_kind, numbered_rec, named_rec}
use Rattle.lustre.specs.Grammar.{flat_type, flat, flats, flatsⁱ, each_of, list_of, flat_name, flat_port, flat_decl, flat_constant, flat_equation, flat_node, flat_package, flat_project, flat_one, flat_part}
use Rattle.demands.specs.Reading.{Each, WritableType, WritableExpr, WritableExprs, WritableInits, WritablePorts, WritableDecl, WritableConstant, WritableNode, WritablePackage, WritableOne, Writable}
use Rattle.demands.proofs.Eaches.{each_all}
use Rattle.standing.specs.Standing.{Source, source, word, RecAt, NameAt, TypeAt, ExprAt, ExprsAt, InitsAt, EachAt, ListAt, sizes_of, list_size}
use Rattle.standing.specs.Standing.{PortAt, port_size, PortsAt, ports_size, MentionAt, one_record, NamesAt, names_size, DeclAt, decl_size, ConstantAt, constant_size, EquationAt, equation_size}
use Rattle.standing.specs.Standing.{NodeAt, node_size, outputs_from, locals_from, equations_from, probes_from, PackageAt, package_size, ProjectAt}

-- kinds that the tree chooses: their words are names, or numbers
name_when : (on : Bool) → word_class (when_kind on) ≡ some a_name
unfolding word_class class_in word_classes mem
name_when = elim [ true ↦ refl | false ↦ refl ]

name_iterate : (i : IterKind) → word_class (iterate_kind i) ≡ some a_name
unfolding word_class class_in word_classes mem
name_iterate = elim [ Map ↦ refl | Fold ↦ refl ]

name_iterate_from : (i : IterKind) → word_class (iterate_from_kind i) ≡ some a_name
unfolding word_class class_in word_classes mem
name_iterate_from = elim [ Map ↦ refl | Fold ↦ refl ]

name_node : (n : NodeKind) → word_class (node_kind n) ≡ some a_name
unfolding word_class class_in word_classes mem
name_node = elim [ Function ↦ refl | Operator ↦ refl | Imported ↦ refl ]

-- a kind whose word is spelled as a number
abbrev IsNumber : ℕ → Type 0
IsNumber k = (w : ℕ) (t : Name) → (spell_as (word_class k) k w t).number ≡ w

number_literal : (l : Literal) → IsNumber (literal_kind l)
unfolding word_class class_in word_classes mem spell_as
number_literal bool w t = refl
number_literal int w t = refl
number_literal float w t = refl
number_literal char w t = refl

-- a spelled record keeps its kind
spelled_kind : (o : Option WordClass) (k w : ℕ) (t : Name) → (spell_as o k w t).kind ≡ k
unfolding spell_as
spelled_kind none k w t = refl
spelled_kind (some no_word) k w t = refl
spelled_kind (some a_name) k w t = refl
spelled_kind (some a_count) k w t = refl
spelled_kind (some a_length) k w t = refl
spelled_kind (some a_truth) k w t = refl
spelled_kind (some any_word) k w t = refl
spelled_kind (some a_byte) k w t = refl

-- there are as many records as there are kinds and words
spell_length : (ρ : ℕ → Name) (ks ws : List ℕ) → length ks ≡ length ws → length (spell ρ ks ws) ≡ length ks
unfolding spell
spell_length ρ [] ws e = refl
spell_length ρ (k ∷ ks) [] e = absurd (omega arith)
spell_length ρ (k ∷ ks) (w ∷ ws) e = ap suc (spell_length ρ ks ws (omega arith))

-- the first of the records from a position on is the one spelled there
first_record : (ρ : ℕ → Name) (ks ws : List ℕ) (at : ℕ) (r : Rec) (k : List Rec) → drop at (spell ρ ks ws) ≡ r ∷ k
    → (at < length ks) × (at < length ws) × (spell_as (word_class (get_or ks at 0)) (get_or ks at 0) (get_or ws at 0) (ρ (get_or ws at 0)) ≡ r) × (drop (suc at) (spell ρ ks ws) ≡ k)
unfolding spell
first_record ρ [] ws zero r k q = let z : ◌≡◌ {A = ℕ} 0 1 = cc in absurd (omega arith)
first_record ρ [] ws (suc at) r k q = let z : ◌≡◌ {A = ℕ} 0 1 = cc in absurd (omega arith)
first_record ρ (j ∷ ks) [] zero r k q = let z : ◌≡◌ {A = ℕ} 0 1 = cc in absurd (omega arith)
first_record ρ (j ∷ ks) [] (suc at) r k q = let z : ◌≡◌ {A = ℕ} 0 1 = cc in absurd (omega arith)
first_record ρ (j ∷ ks) (w ∷ ws) zero r k q = (omega arith, omega arith, cc, cc)
first_record ρ (j ∷ ks) (w ∷ ws) (suc at) r k q = let i = first_record ρ ks ws at r k q in (omega arith, omega arith, i.2, i.3)

-- where no record is bad the first is not, and none behind it is
passed : (from : ℕ) (b : Bool) (rest : Option ℕ) → ◌≡◌ {A = Option ℕ} (elim b [ true ↦ rest | false ↦ some from ]) none → (b ≡ true) × (rest ≡ none)
passed from true rest q = (refl, q)
passed from false rest q = (cc, cc)

-- where no record is bad, the words are in their kinds' ranges
pub words_ranged : (names from : ℕ) (ks ws : List ℕ) → length ks ≡ length ws → bad_record names from ks ws ≡ none
    → (at : ℕ) → at < length ks → in_class names (word_class (get_or ks at 0)) (get_or ws at 0) ≡ true
unfolding bad_record
words_ranged names from [] ws same q at h = absurd (omega arith)
words_ranged names from (k ∷ ks) [] same q at h = absurd (omega arith)
words_ranged names from (k ∷ ks) (w ∷ ws) same q zero h = (passed from (in_class names (word_class k) w) _ q).0
words_ranged names from (k ∷ ks) (w ∷ ws) same q (suc at) h = words_ranged names (from + 1) ks ws (omega arith) (passed from (in_class names (word_class k) w) _ q).1 at (omega arith)

-- names need nothing to be writable
abbrev Always : Name → Type 0
Always x = Unit {0}

-- How a tree of a class stands, and how many records it has.
abbrev pub SingleAt : Source → (s : Sort) → Single s → ℕ → Type 0
SingleAt S a_project v at = ProjectAt S v at
SingleAt S a_package v at = PackageAt S v at
SingleAt S a_declaration v at = DeclAt S v at
SingleAt S a_constant v at = ConstantAt S v at
SingleAt S a_node v at = NodeAt S v at
SingleAt S a_port v at = PortAt S v at
SingleAt S a_name v at = MentionAt S v at
SingleAt S an_equation v at = EquationAt S v at
SingleAt S a_type v at = TypeAt S v at
SingleAt S an_expression v at = ExprAt S v at
SingleAt S a_field_value v at = InitsAt S (init v.label v.value []ⁱ) at

abbrev pub single_size : (s : Sort) → Single s → ℕ
single_size a_project v = list_size package_size v
single_size a_package v = package_size v
single_size a_declaration v = decl_size v
single_size a_constant v = constant_size v
single_size a_node v = node_size v
single_size a_port v = port_size v
single_size a_name v = one_record v
single_size an_equation v = equation_size v
single_size a_type v = levels v
single_size an_expression v = size v
single_size a_field_value v = 1 + size v.value

abbrev pub TreeAt : Source → (c : Class) → Tree c → ℕ → Type 0
TreeAt S (one s) v at = SingleAt S s v at
TreeAt S (list s) v at = ListAt S (SingleAt S s) (single_size s) v at

abbrev pub tree_size : (c : Class) → Tree c → ℕ
tree_size (one s) v = single_size s v
tree_size (list s) v = list_size (single_size s) v

module _ (ρ : ℕ → Name) (ks ws : List ℕ) where
  abbrev S : Source
  S = source ks ws ρ

  -- the records from a position on
  pub record Left (at : ℕ) (k : List Rec) : Type 0 where
    pub inside : at ≤ length ks
    pub left : drop at (spell ρ ks ws) ≡ k

  -- a position by another name
  moved : {p q : ℕ} {k : List Rec} → p ≡ q → Left p k → Left q k
  moved {k} e l = subst (λ (j : ℕ). Left j k) e l

  -- what is left from a position on tells the position
  same_place : {p q : ℕ} {k : List Rec} → length ks ≡ length ws → Left p k → Left q k → p ≡ q
  same_place {p} {q} same l m =
      let e : length (drop p (spell ρ ks ws)) ≡ length (drop q (spell ρ ks ws)) = ap length (l.left ∙ sym m.left) in
      omega (arith, length-drop p (spell ρ ks ws), length-drop q (spell ρ ks ws), spell_length ρ ks ws same)

  -- where the records from a position on are those of x and then k, x stands there and k is left
  abbrev pub Walks : {X : Type 0} → (X → List Rec → List Rec) → (X → Type 0) → (X → ℕ → Type 0) → (X → ℕ) → Type 0
  Walks {X} f W P size_of = (x : X) → W x → (at : ℕ) (k : List Rec) → Left at (f x k) → P x at × Left (at + size_of x) k

  module _ (names : ℕ) (few : names ≤ 512) (ranged : (at : ℕ) → at < length ks → in_class names (word_class (get_or ks at 0)) (get_or ws at 0) ≡ true) where
    -- a record that stands there, what is spelled there, and what is left
    record Found (at : ℕ) (r : Rec) (k : List Rec) : Type 0 where
      head : RecAt S at r.kind
      spelled : spell_as (word_class r.kind) r.kind (word S at) (ρ (word S at)) ≡ r
      in_range : in_class names (word_class r.kind) (word S at) ≡ true
      rest : Left (at + 1) k

    found : {at : ℕ} {r : Rec} {k : List Rec} → Left at (r ∷ k) → Found at r k
    found {at} {r} {k} l =
        let i = first_record ρ ks ws at r k l.left in
        let e : get_or ks at 0 ≡ r.kind = sym (spelled_kind (word_class (get_or ks at 0)) (get_or ks at 0) (get_or ws at 0) (ρ (get_or ws at 0))) ∙ ap (λ (x : Rec). x.kind) i.2 in
        record {
          head = record { in_kinds = i.0; in_words = i.1; kind = e };
          spelled = subst (λ (j : ℕ). spell_as (word_class j) j (word S at) (ρ (word S at)) ≡ r) e i.2;
          in_range = subst (λ (j : ℕ). in_class names (word_class j) (word S at) ≡ true) e (ranged at i.0);
          rest = record { inside = omega arith; left = rw (add-one at) i.3 };
        }

    -- the name, or the number, of a record is its word's
    named : {at kind : ℕ} {x : Name} {k : List Rec} → word_class kind ≡ some a_name → Found at (named_rec kind x) k → NameAt S at x
    unfolding spell_as in_class
    named {at} c f = record {
      small = (let h = ltb-true (word S at) names (rw c at f.in_range) in omega arith);
      text = ap (λ (r : Rec). r.text) (rw c at f.spelled);
    }

    numbered : {at kind n : ℕ} {k : List Rec} → IsNumber kind → Found at (numbered_rec kind n) k → word S at ≡ n
    numbered {at} c f = sym (c (word S at) (ρ (word S at))) ∙ ap (λ (r : Rec). r.number) f.spelled

    pub walk_type : Walks flat_type WritableType (TypeAt S) levels
    unfolding flat_type WritableType TypeAt levels word_class class_in word_classes mem spell_as in_class
    walk_type (basic b) h at k l = let f = found l in ((f.head, h), f.rest)
    walk_type (Array n t) h at k l =
        let f = found l in
        let i = walk_type t h (at + 1) k f.rest in
        let e = numbered (λ w x. refl) f in
        ((f.head, e, rw e at (ltb-true (word S at) 4_294_967_296 f.in_range), i.0), moved (omega arith) i.1)
    walk_type (Named x) h at k l = let f = found l in ((f.head, named refl f), f.rest)
    walk_type (Tuple n) h at k l = absurd h

    mutual
      unfolding flat WritableExpr ExprAt size word_class class_in word_classes mem spell_as

      pub walk_expr : Walks flat WritableExpr (ExprAt S) size
      walk_expr (const n w) h at k l = let f = found l in ((f.head, numbered (number_literal n) f), f.rest)
      walk_expr (var x) h at k l = let f = found l in ((f.head, named refl f), f.rest)
      walk_expr (unary o a) h at k l =
          let f = found l in
          let i = walk_expr a h (at + 1) k f.rest in
          ((f.head, i.0), moved (omega arith) i.1)
      walk_expr (binary o a b) h at k l =
          let f = found l in
          let i = walk_expr a h.0 (at + 1) (flat b k) f.rest in
          let j = walk_expr b h.1 (at + 1 + size a) k i.1 in
          ((f.head, i.0, j.0), moved (omega arith) j.1)
      walk_expr (ite c a b) h at k l =
          let f = found l in
          let d = walk_expr c h.0 (at + 1) (flat a (flat b k)) f.rest in
          let i = walk_expr a h.1 (at + 1 + size c) (flat b k) d.1 in
          let j = walk_expr b h.2 (at + 1 + size c + size a) k i.1 in
          ((f.head, d.0, i.0, j.0), moved (omega arith) j.1)
      walk_expr (pre a) h at k l =
          let f = found l in
          let i = walk_expr a h (at + 1) k f.rest in
          ((f.head, i.0), moved (omega arith) i.1)
      walk_expr (arrow a b) h at k l =
          let f = found l in
          let i = walk_expr a h.0 (at + 1) (flat b k) f.rest in
          let j = walk_expr b h.1 (at + 1 + size a) k i.1 in
          ((f.head, i.0, j.0), moved (omega arith) j.1)
      walk_expr (call x es) h at k l =
          let f = found l in
          let g = found f.rest in
          let i = walk_exprs es h (at + 2) k (moved (omega arith) g.rest) in
          ((f.head, named refl f, g.head, numbered (λ w t. refl) g, i.0), moved (omega arith) i.1)
      walk_expr (field x a) h at k l =
          let f = found l in
          let i = walk_expr a h (at + 1) k f.rest in
          ((f.head, named refl f, i.0), moved (omega arith) i.1)
      walk_expr (index a b) h at k l =
          let f = found l in
          let i = walk_expr a h.0 (at + 1) (flat b k) f.rest in
          let j = walk_expr b h.1 (at + 1 + size a) k i.1 in
          ((f.head, i.0, j.0), moved (omega arith) j.1)
      walk_expr (tuple es) h at k l =
          let f = found l in
          let i = walk_exprs es h (at + 1) k f.rest in
          ((f.head, numbered (λ w t. refl) f, i.0), moved (omega arith) i.1)
      walk_expr (array es) h at k l =
          let f = found l in
          let i = walk_exprs es h (at + 1) k f.rest in
          ((f.head, numbered (λ w t. refl) f, i.0), moved (omega arith) i.1)
      walk_expr (struct x vs) h at k l =
          let f = found l in
          let g = found f.rest in
          let i = walk_inits vs h (at + 2) k (moved (omega arith) g.rest) in
          ((f.head, named refl f, g.head, numbered (λ w t. refl) g, i.0), moved (omega arith) i.1)
      walk_expr (cast t a) h at k l =
          let f = found l in
          let i = walk_type t h.0 (at + 1) (flat a k) f.rest in
          let j = walk_expr a h.1 (at + 1 + levels t) k i.1 in
          ((f.head, i.0, j.0), moved (omega arith) j.1)
      walk_expr (when on x a) h at k l =
          let f = found l in
          let i = walk_expr a h (at + 1) k f.rest in
          ((f.head, named (name_when on) f, i.0), moved (omega arith) i.1)
      walk_expr (merge x a b) h at k l =
          let f = found l in
          let i = walk_expr a h.0 (at + 1) (flat b k) f.rest in
          let j = walk_expr b h.1 (at + 1 + size a) k i.1 in
          ((f.head, named refl f, i.0, j.0), moved (omega arith) j.1)
      walk_expr (iterate n x es) h at k l =
          let f = found l in
          let g = found f.rest in
          let i = walk_exprs es h (at + 2) k (moved (omega arith) g.rest) in
          ((f.head, named (name_iterate n) f, g.head, numbered (λ w t. refl) g, i.0), moved (omega arith) i.1)
      walk_expr (iterate_from n x a es) h at k l =
          let f = found l in
          let j = walk_expr a h.0 (at + 1) _ f.rest in
          let g = found j.1 in
          let i = walk_exprs es h.1 (at + 2 + size a) k (moved (omega arith) g.rest) in
          ((f.head, named (name_iterate_from n) f, j.0, g.head, numbered (λ w t. refl) g, i.0), moved (omega arith) i.1)

      pub walk_exprs : Walks flats WritableExprs (ExprsAt S) sizes
      walk_exprs []ᵉ h at k l = (tt, moved (omega arith) l)
      walk_exprs (e ∷ᵉ es) h at k l =
          let i = walk_expr e h.0 at (flats es k) l in
          let j = walk_exprs es h.1 (at + size e) k i.1 in
          ((i.0, j.0), moved (omega arith) j.1)

      pub walk_inits : Walks flatsⁱ WritableInits (InitsAt S) sizesⁱ
      walk_inits []ⁱ h at k l = (tt, moved (omega arith) l)
      walk_inits (init x e vs) h at k l =
          let f = found l in
          let i = walk_expr e h.0 (at + 1) (flatsⁱ vs k) f.rest in
          let j = walk_inits vs h.1 (at + 1 + size e) k i.1 in
          ((f.head, named refl f, i.0, j.0), moved (omega arith) j.1)

    -- parts one after another, and behind a list record that counts them
    pub walk_each : {X : Type 0} (f : X → List Rec → List Rec) (W : X → Type 0) (P : X → ℕ → Type 0) (size_of : X → ℕ) → Walks f W P size_of
        → Walks (each_of f) (Each W) (EachAt P size_of) (sizes_of size_of)
    unfolding each_of EachAt sizes_of
    walk_each f W P size_of each [] h at k l = (tt, moved (omega arith) l)
    walk_each f W P size_of each (x ∷ xs) h at k l =
        let i = each x h.0 at (each_of f xs k) l in
        let j = walk_each f W P size_of each xs h.1 (at + size_of x) k i.1 in
        ((i.0, j.0), moved (omega arith) j.1)

    pub walk_list : {X : Type 0} (f : X → List Rec → List Rec) (W : X → Type 0) (P : X → ℕ → Type 0) (size_of : X → ℕ) → Walks f W P size_of
        → Walks (list_of f) (Each W) (ListAt S P size_of) (list_size size_of)
    unfolding word_class class_in word_classes mem spell_as
    walk_list f W P size_of each xs h at k l =
        let g = found l in
        let i = walk_each f W P size_of each xs h (at + 1) k g.rest in
        (record { head = g.head; many = numbered (λ w t. refl) g; items = i.0 }, moved (omega arith) i.1)

    pub walk_port : Walks flat_port (λ (p : Port). WritableType p.1) (PortAt S) port_size
    unfolding word_class class_in word_classes mem
    walk_port p h at k l =
        let f = found l in
        let i = walk_type p.1 h (at + 1) k f.rest in
        (record { head = f.head; name = named refl f; type = i.0 }, moved (omega arith) i.1)

    pub walk_ports : Walks (list_of flat_port) WritablePorts (PortsAt S) ports_size
    walk_ports = walk_list flat_port _ (PortAt S) port_size walk_port

    pub walk_name : Walks flat_name Always (MentionAt S) one_record
    unfolding word_class class_in word_classes mem
    walk_name x h at k l = let f = found l in (record { head = f.head; name = named refl f }, f.rest)

    pub walk_names : (xs : List Name) (at : ℕ) (k : List Rec) → Left at (list_of flat_name xs k) → NamesAt S xs at × Left (at + names_size xs) k
    walk_names xs = walk_list flat_name Always (MentionAt S) one_record walk_name xs (each_all Always (λ x. tt) xs)

    pub walk_decl : Walks flat_decl WritableDecl (DeclAt S) decl_size
    unfolding flat_decl WritableDecl DeclAt decl_size word_class class_in word_classes mem
    walk_decl (Alias x t) h at k l =
        let f = found l in
        let i = walk_type t h (at + 1) k f.rest in
        ((f.head, named refl f, i.0), moved (omega arith) i.1)
    walk_decl (Record x fs) h at k l =
        let f = found l in
        let i = walk_ports fs h (at + 1) k f.rest in
        ((f.head, named refl f, i.0), moved (omega arith) i.1)
    walk_decl (Enum x vs) h at k l =
        let f = found l in
        let i = walk_names vs (at + 1) k f.rest in
        ((f.head, named refl f, i.0), moved (omega arith) i.1)

    pub walk_constant : Walks flat_constant WritableConstant (ConstantAt S) constant_size
    unfolding word_class class_in word_classes mem
    walk_constant c h at k l =
        let f = found l in
        let i = walk_type c.type h.0 (at + 1) (flat c.value k) f.rest in
        let j = walk_expr c.value h.1 (at + 1 + levels c.type) k i.1 in
        (record { head = f.head; name = named refl f; type = i.0; value = j.0 }, moved (omega arith) j.1)

    pub walk_equation : Walks flat_equation (λ (q : Equation). WritableExpr q.rhs) (EquationAt S) equation_size
    walk_equation q h at k l =
        let f = found l in
        let i = walk_names q.lhs (at + 1) (flat q.rhs k) f.rest in
        let j = walk_expr q.rhs h (at + 1 + names_size q.lhs) k i.1 in
        (record { head = f.head; lhs = i.0; rhs = j.0 }, moved (omega arith) j.1)

    pub walk_node : Walks flat_node WritableNode (NodeAt S) node_size
    walk_node n h at k l =
        let f = found l in
        let ins = walk_ports n.inputs h.0 (at + 1) _ f.rest in
        let outs = walk_ports n.outputs h.1 (outputs_from n at) _ ins.1 in
        let locals = walk_ports n.locals h.2 (locals_from n at) _ outs.1 in
        let equations = walk_list flat_equation _ (EquationAt S) equation_size walk_equation n.equations h.3 (equations_from n at) _ locals.1 in
        let probes = walk_names n.probes (probes_from n at) k equations.1 in
        (record { head = f.head; name = named (name_node n.kind) f; inputs = ins.0; outputs = outs.0; locals = locals.0; equations = equations.0; probes = probes.0 }, moved (omega arith) probes.1)

    pub walk_package : Walks flat_package WritablePackage (PackageAt S) package_size
    unfolding word_class class_in word_classes mem
    walk_package p h at k l =
        let f = found l in
        let types = walk_list flat_decl _ (DeclAt S) decl_size walk_decl p.types h.0 (at + 1) _ f.rest in
        let constants = walk_list flat_constant _ (ConstantAt S) constant_size walk_constant p.constants h.1 _ _ types.1 in
        let nodes = walk_list flat_node _ (NodeAt S) node_size walk_node p.nodes h.2 _ k constants.1 in
        (record { head = f.head; name = named refl f; types = types.0; constants = constants.0; nodes = nodes.0 }, moved (omega arith) nodes.1)

    pub walk_project : Walks flat_project (Each WritablePackage) (ProjectAt S) (list_size package_size)
    unfolding word_class class_in word_classes mem spell_as
    walk_project P h at k l =
        let f = found l in
        let i = walk_each flat_package _ (PackageAt S) package_size walk_package P h (at + 1) k f.rest in
        (record { head = f.head; many = numbered (λ w t. refl) f; packages = i.0 }, moved (omega arith) i.1)

    pub walk_one : (s : Sort) → Walks (flat_one s) (WritableOne s) (SingleAt S s) (single_size s)
    unfolding ExprAt word_class class_in word_classes mem
    walk_one a_project = walk_project
    walk_one a_package = walk_package
    walk_one a_declaration = walk_decl
    walk_one a_constant = walk_constant
    walk_one a_node = walk_node
    walk_one a_port = walk_port
    walk_one a_name = walk_name
    walk_one an_equation = walk_equation
    walk_one a_type = walk_type
    walk_one an_expression = walk_expr
    walk_one a_field_value = λ v h at k l.
        let f = found l in
        let i = walk_expr v.value h (at + 1) k f.rest in
        ((f.head, named refl f, i.0, tt), moved (omega arith) i.1)

    pub walk_tree : (c : Class) → Walks (flat_part c) (Writable c) (TreeAt S c) (tree_size c)
    walk_tree (one s) = walk_one s
    walk_tree (list s) = walk_list (flat_one s) (WritableOne s) (SingleAt S s) (single_size s) (walk_one s)

    -- what stands from at to end by flattening stands at `at` by recursion, and end is where its records end
    pub tree_at : length ks ≡ length ws → (c : Class) (v : Tree c) (at end : ℕ) → Writable c v → at ≤ length ks → end ≤ length ks
        → drop at (spell ρ ks ws) ≡ flat_part c v (drop end (spell ρ ks ws)) → TreeAt S c v at × (end ≡ at + tree_size c v)
    tree_at same c v at end h i j q =
        let w = walk_tree c v h at (drop end (spell ρ ks ws)) record { inside = i; left = q } in
        (w.0, same_place same record { inside = j; left = refl } w.1)

    -- a project whose flattening the records are stands at 0
    pub project_at : (P : Project) → Writable (one a_project) P → spell ρ ks ws ≡ flat_project P [] → ProjectAt S P 0
    project_at P h q = (walk_project P h 0 [] record { inside = zero-le; left = q }).0
