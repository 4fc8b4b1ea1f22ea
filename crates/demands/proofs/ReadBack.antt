-- Reading what was flattened gives the tree and the rest, so equal records are of equal trees.
-- Assumes nothing.
use mathlib.Core.Path.{◌≡◌, refl, ap, sym, ◌∙◌}
use mathlib.Core.Bool.{Bool, true, false}
use mathlib.Core.Option.{Option, some}
use mathlib.Core.List.{List, [], ◌∷◌, ◌++◌, map}
use Prim.Native.Nat.{ℕ}
use lib.ListN.{length, replicate}
use lib.Dec.{eqb}
use native.Mathlib.Omega.{arith}
use borrow.Author.Tests.{eqb-true}
use Rattle.lustre.specs.Name.{Name, mem}
use Rattle.lustre.specs.Records.{Rec}
use Rattle.lustre.specs.Types.{Ty, basic, Array, Named, Tuple}
use Rattle.lustre.specs.Expr.{Expr, Exprs, Inits, Literal, UnaryOp, BinOp, IterKind}
use Rattle.lustre.specs.Expr.{const, var, unary, binary, ite, pre, arrow, call, field, index, tuple, array, struct, cast, when, merge, iterate, iterate_from, []ᵉ, ◌∷ᵉ◌, []ⁱ, init}
use Rattle.lustre.specs.Expr.{bool, int, float, char, Not, Neg, And, Or, Xor, Implies, Eq, Neq, Lt, Le, Gt, Ge, Add, Sub, Mul, Div, Mod, BitAnd, BitOr, BitXor, Shl, Shr, Map, Fold}
use Rattle.lustre.specs.Project.{Port, Decl, Alias, Record, Enum, Constant, NodeKind, Function, Operator, Imported, Equation, Node, Package, Project}
use Rattle.lustre.specs.Grammar.{Sort, Class, one, list, Single, Tree, Trees, FieldValue, follow, Entry, gather, exprs, inits, entries, entry, choose, front, back, Got, got, at_entry, read}
use Rattle.lustre.specs.Grammar.{a_project, a_package, a_declaration, a_constant, a_node, a_port, a_name, an_equation, a_type, an_expression, a_field_value}
use Rattle.lustre.specs.Grammar.{literal_kind, unary_kind, op_kind, when_kind, iterate_kind, iterate_from_kind, node_kind, basic_entry, literal_entry, unary_entry, op_entry, when_entry, iterate_entry, iterate_from_entry, node_entry, basic_kinds}
use Rattle.lustre.specs.Grammar.{plain_rec, numbered_rec, named_rec, count, countⁱ, flat_type, flat, flats, flatsⁱ, each_of, flat_decl, flat_one, flat_part}
use Rattle.demands.specs.Reading.{Each, WritableType, WritableExpr, WritableExprs, WritableInits, WritableDecl, WritableOne, Writable, reads, ReadsBack}

-- what is wanted after record r, an entry e, before what was wanted behind it
abbrev pub opened : {c : Class} → Rec → Entry c → List Class → List Class
opened r e cs = follow e.shape r.number ++ cs

-- the trees once the parts of record r are made a tree
abbrev pub closed : {c : Class} (r : Rec) (e : Entry c) (cs : List Class) → Trees (opened r e cs) → Trees (c ∷ cs)
closed r e cs v = (e.make r.number r.text (front (follow e.shape r.number) cs v), back (follow e.shape r.number) cs v)

-- the reader after record r, an entry e
abbrev pub Next : {A : Type 0} (c : Class) (cs : List Class) → (Trees (c ∷ cs) → A) → Rec → List Rec → Entry c → Got A
Next c cs f r rs e = read (opened r e cs) (λ v. f (closed r e cs v)) rs

-- one step of the reader, at a kind that the table has
pub step : {A : Type 0} (c : Class) (cs : List Class) (f : Trees (c ∷ cs) → A) (r : Rec) (rs : List Rec) (e : Entry c)
    → entry r.kind (entries c) ≡ some e → read (c ∷ cs) f (r ∷ rs) ≡ Next c cs f r rs e
unfolding read
step c cs f r rs e q = ap (λ (o : Option (Entry c)). at_entry (r ∷ rs) o (Next c cs f r rs)) q

-- where nothing is wanted all records are left over
pub read_none : {A : Type 0} (f : Trees [] → A) (rs : List Rec) → read [] f rs ≡ got (f tt) rs
unfolding read
read_none f [] = refl
read_none f (r ∷ rs) = refl

-- a kind among those listed has its entry at the head of a table that begins with them
among_basic : (b : ℕ) (ks : List ℕ) (es : List (Entry (one a_type))) → mem eqb b ks ≡ true → entry b (map basic_entry ks ++ es) ≡ some (basic_entry b)
unfolding mem entry
among_basic b [] es q = let z : ◌≡◌ {A = ℕ} 0 1 = cc in absurd (omega arith)
among_basic b (k ∷ ks) es q = by (eqb b k) refl (among_basic b ks es) q
  where
    by : {o : Option (Entry (one a_type))} {m : Bool} (t : Bool) → eqb b k ≡ t → (m ≡ true → o ≡ some (basic_entry b))
        → (elim t [ true ↦ true | false ↦ m ]) ≡ true → choose t (basic_entry k) o ≡ some (basic_entry b)
    by true p h q = ap (λ (j : ℕ). some (basic_entry j)) (sym (eqb-true b k p))
    by false p h q = h q

-- the table's entry of each kind that a tree's own alternatives are written by
pub has_basic : (b : ℕ) → mem eqb b basic_kinds ≡ true → entry b (entries (one a_type)) ≡ some (basic_entry b)
unfolding entries
has_basic b q = among_basic b basic_kinds _ q

pub has_literal : (l : Literal) → entry (literal_kind l) (entries (one an_expression)) ≡ some (literal_entry l)
unfolding entry entries
has_literal = elim [ bool ↦ refl | int ↦ refl | float ↦ refl | char ↦ refl ]

pub has_unary : (o : UnaryOp) → entry (unary_kind o) (entries (one an_expression)) ≡ some (unary_entry o)
unfolding entry entries
has_unary = elim [ Not ↦ refl | Neg ↦ refl ]

pub has_op : (o : BinOp) → entry (op_kind o) (entries (one an_expression)) ≡ some (op_entry o)
unfolding entry entries
has_op = elim [
  | And ↦ refl
  | Or ↦ refl
  | Xor ↦ refl
  | Implies ↦ refl
  | Eq ↦ refl
  | Neq ↦ refl
  | Lt ↦ refl
  | Le ↦ refl
  | Gt ↦ refl
  | Ge ↦ refl
  | Add ↦ refl
  | Sub ↦ refl
  | Mul ↦ refl
  | Div ↦ refl
  | Mod ↦ refl
  | BitAnd ↦ refl
  | BitOr ↦ refl
  | BitXor ↦ refl
  | Shl ↦ refl
  | Shr ↦ refl
]

pub has_when : (on : Bool) → entry (when_kind on) (entries (one an_expression)) ≡ some (when_entry on)
unfolding entry entries
has_when = elim [ true ↦ refl | false ↦ refl ]

pub has_iterate : (i : IterKind) → entry (iterate_kind i) (entries (one an_expression)) ≡ some (iterate_entry i)
unfolding entry entries
has_iterate = elim [ Map ↦ refl | Fold ↦ refl ]

pub has_iterate_from : (i : IterKind) → entry (iterate_from_kind i) (entries (one an_expression)) ≡ some (iterate_from_entry i)
unfolding entry entries
has_iterate_from = elim [ Map ↦ refl | Fold ↦ refl ]

pub has_node : (k : NodeKind) → entry (node_kind k) (entries (one a_node)) ≡ some (node_entry k)
unfolding entry entries
has_node = elim [ Function ↦ refl | Operator ↦ refl | Imported ↦ refl ]

module _ (A : Type 0) where
  -- a tree of the class, if records can write it, is read back
  abbrev Back : (c : Class) → Tree c → Type 0
  Back c x = Writable c x → (cs : List Class) (f : Trees (c ∷ cs) → A) (k : List Rec) → read (c ∷ cs) f (flat_part c x k) ≡ read cs (λ v. f (x, v)) k

  back_type : (t : Ty) → Back (one a_type) t
  unfolding read entry entries flat_type front back WritableType
  back_type (basic b) w cs f k = step (one a_type) cs f (plain_rec b) k _ (has_basic b w)
  back_type (Array n t) w cs f k = back_type t w cs _ k
  back_type (Named x) w cs f k = refl
  back_type (Tuple n) w cs f k = absurd w

  -- an expression, the expressions of a list that its count announces, and the field values of a struct
  mutual
    unfolding read entry entries flat front back gather count countⁱ exprs inits WritableExpr

    back_expr : (e : Expr) → WritableExpr e → (cs : List Class) (f : Trees (one an_expression ∷ cs) → A) (k : List Rec) → read (one an_expression ∷ cs) f (flat e k) ≡ read cs (λ v. f (e, v)) k
    back_expr (const l n) w cs f k = step (one an_expression) cs f (numbered_rec (literal_kind l) n) k _ (has_literal l)
    back_expr (var x) w cs f k = refl
    back_expr (unary o e) w cs f k = step (one an_expression) cs f (plain_rec (unary_kind o)) (flat e k) _ (has_unary o) ∙ back_expr e w cs _ k
    back_expr (binary o a b) w cs f k = step (one an_expression) cs f (plain_rec (op_kind o)) (flat a (flat b k)) _ (has_op o) ∙ back_expr a w.0 (one an_expression ∷ cs) _ (flat b k) ∙ back_expr b w.1 cs _ k
    back_expr (ite c a b) w cs f k = back_expr c w.0 (one an_expression ∷ one an_expression ∷ cs) _ (flat a (flat b k)) ∙ back_expr a w.1 (one an_expression ∷ cs) _ (flat b k) ∙ back_expr b w.2 cs _ k
    back_expr (pre e) w cs f k = back_expr e w cs _ k
    back_expr (arrow a b) w cs f k = back_expr a w.0 (one an_expression ∷ cs) _ (flat b k) ∙ back_expr b w.1 cs _ k
    back_expr (call x es) w cs f k = back_exprs es w cs (λ y v. f (call x y, v)) k
    back_expr (field x e) w cs f k = back_expr e w cs _ k
    back_expr (index a b) w cs f k = back_expr a w.0 (one an_expression ∷ cs) _ (flat b k) ∙ back_expr b w.1 cs _ k
    back_expr (tuple es) w cs f k = back_exprs es w cs (λ y v. f (tuple y, v)) k
    back_expr (array es) w cs f k = back_exprs es w cs (λ y v. f (array y, v)) k
    back_expr (struct x is) w cs f k = back_inits is w cs (λ y v. f (struct x y, v)) k
    back_expr (cast t e) w cs f k = back_type t w.0 (one an_expression ∷ cs) _ (flat e k) ∙ back_expr e w.1 cs _ k
    back_expr (when on x e) w cs f k = step (one an_expression) cs f (named_rec (when_kind on) x) (flat e k) _ (has_when on) ∙ back_expr e w cs _ k
    back_expr (merge x a b) w cs f k = back_expr a w.0 (one an_expression ∷ cs) _ (flat b k) ∙ back_expr b w.1 cs _ k
    back_expr (iterate i x es) w cs f k = step (one an_expression) cs f (named_rec (iterate_kind i) x) (numbered_rec 3 (count es) ∷ flats es k) _ (has_iterate i) ∙ back_exprs es w cs (λ y v. f (iterate i x y, v)) k
    back_expr (iterate_from i x e es) w cs f k = step (one an_expression) cs f (named_rec (iterate_from_kind i) x) (flat e (numbered_rec 3 (count es) ∷ flats es k)) _ (has_iterate_from i)
        ∙ back_expr e w.0 (list an_expression ∷ cs) _ (numbered_rec 3 (count es) ∷ flats es k) ∙ back_exprs es w.1 cs (λ y v. f (iterate_from i x e y, v)) k

    back_exprs : (es : Exprs) → WritableExprs es → (cs : List Class) (g : Exprs → Trees cs → A) (k : List Rec)
        → read (replicate (count es) (one an_expression) ++ cs)
        (λ v. g (exprs (gather an_expression (count es) (front (replicate (count es) (one an_expression)) cs v))) (back (replicate (count es) (one an_expression)) cs v)) (flats es k) ≡ read cs (λ v. g es v) k
    back_exprs []ᵉ w cs g k = refl
    back_exprs (e ∷ᵉ es) w cs g k = back_expr e w.0 (replicate (count es) (one an_expression) ++ cs) _ (flats es k) ∙ back_exprs es w.1 cs (λ y. g (e ∷ᵉ y)) k

    back_inits : (is : Inits) → WritableInits is → (cs : List Class) (g : Inits → Trees cs → A) (k : List Rec)
        → read (replicate (countⁱ is) (one a_field_value) ++ cs)
        (λ v. g (inits (gather a_field_value (countⁱ is) (front (replicate (countⁱ is) (one a_field_value)) cs v))) (back (replicate (countⁱ is) (one a_field_value)) cs v)) (flatsⁱ is k) ≡ read cs (λ v. g is v) k
    back_inits []ⁱ w cs g k = refl
    back_inits (init x e is) w cs g k = back_expr e w.0 (replicate (countⁱ is) (one a_field_value) ++ cs) _ (flatsⁱ is k) ∙ back_inits is w.1 cs (λ y. g (init x e y)) k

  -- a list, if each of its sort is read back
  back_each : (s : Sort) → ((x : Single s) → Back (one s) x) → (xs : List (Single s)) → Each (WritableOne s) xs → (cs : List Class) (g : List (Single s) → Trees cs → A) (k : List Rec)
      → read (replicate (length xs) (one s) ++ cs) (λ v. g (gather s (length xs) (front (replicate (length xs) (one s)) cs v)) (back (replicate (length xs) (one s)) cs v)) (each_of (flat_one s) xs k) ≡ read cs (λ v. g xs v) k
  unfolding front back gather each_of
  back_each s h [] w cs g k = refl
  back_each s h (x ∷ xs) w cs g k = h x w.0 (replicate (length xs) (one s) ++ cs) _ (each_of (flat_one s) xs k) ∙ back_each s h xs w.1 cs (λ y. g (x ∷ y)) k

  back_list : (s : Sort) → ((x : Single s) → Back (one s) x) → (xs : List (Single s)) → Back (list s) xs
  unfolding read entry entries
  back_list s h xs w cs f k = back_each s h xs w cs (λ x v. f (x, v)) k

  back_name : (x : Name) → Back (one a_name) x
  unfolding read entry entries front back
  back_name x w cs f k = refl

  -- names need nothing to be writable
  back_names : (xs : List Name) (cs : List Class) (f : Trees (list a_name ∷ cs) → A) (k : List Rec) → read (list a_name ∷ cs) f (flat_part (list a_name) xs k) ≡ read cs (λ v. f (xs, v)) k
  back_names xs cs f k = back_list a_name back_name xs (all xs) cs f k
    where
      all : (ys : List Name) → Each (WritableOne a_name) ys
      all [] = tt
      all (y ∷ ys) = (tt, all ys)

  back_port : (x : Port) → Back (one a_port) x
  unfolding read entry entries front back
  back_port x w cs f k = back_type x.1 w cs _ k

  back_ports : (xs : List Port) → Back (list a_port) xs
  back_ports xs = back_list a_port back_port xs

  back_decl : (x : Decl) → Back (one a_declaration) x
  unfolding entry entries front back flat_decl WritableDecl
  back_decl (Alias x t) w cs f k = step (one a_declaration) cs f (named_rec 4 x) _ _ refl ∙ back_type t w cs _ k
  back_decl (Record x ps) w cs f k = step (one a_declaration) cs f (named_rec 5 x) _ _ refl ∙ back_ports ps w cs _ k
  back_decl (Enum x vs) w cs f k = step (one a_declaration) cs f (named_rec 6 x) _ _ refl ∙ back_names vs cs _ k

  back_constant : (x : Constant) → Back (one a_constant) x
  unfolding read entry entries front back
  back_constant x w cs f k = back_type x.type w.0 _ _ _ ∙ back_expr x.value w.1 cs _ k

  back_equation : (x : Equation) → Back (one an_equation) x
  unfolding entry entries front back
  back_equation x w cs f k = step (one an_equation) cs f (plain_rec 13) _ _ refl ∙ back_names x.lhs _ _ _ ∙ back_expr x.rhs w cs _ k

  back_node : (x : Node) → Back (one a_node) x
  unfolding front back
  back_node x w cs f k = step (one a_node) cs f (named_rec (node_kind x.kind) x.name) _ _ (has_node x.kind)
      ∙ back_ports x.inputs w.0 _ _ _ ∙ back_ports x.outputs w.1 _ _ _ ∙ back_ports x.locals w.2 _ _ _
      ∙ back_list an_equation back_equation x.equations w.3 _ _ _ ∙ back_names x.probes cs _ k

  back_package : (x : Package) → Back (one a_package) x
  unfolding entry entries front back
  back_package x w cs f k = step (one a_package) cs f (named_rec 2 x.name) _ _ refl ∙ back_list a_declaration back_decl x.types w.0 _ _ _
      ∙ back_list a_constant back_constant x.constants w.1 _ _ _ ∙ back_list a_node back_node x.nodes w.2 cs _ k

  back_project : (x : Project) → Back (one a_project) x
  unfolding read entry entries
  back_project x w cs f k = back_each a_package back_package x w cs (λ y v. f (y, v)) k

  back_field_value : (x : FieldValue) → Back (one a_field_value) x
  unfolding read entry entries front back
  back_field_value x w cs f k = back_expr x.value w cs _ k

  back_one : (s : Sort) (x : Single s) → Back (one s) x
  back_one a_project x = back_project x
  back_one a_package x = back_package x
  back_one a_declaration x = back_decl x
  back_one a_constant x = back_constant x
  back_one a_node x = back_node x
  back_one a_port x = back_port x
  back_one a_name x = back_name x
  back_one an_equation x = back_equation x
  back_one a_type x = back_type x
  back_one an_expression x = back_expr x
  back_one a_field_value x = back_field_value x

  -- a flattened tree is read, and what follows it is read next
  pub read_back : (c : Class) (x : Tree c) → Back c x
  read_back (one s) x = back_one s x
  read_back (list s) x = back_list s (back_one s) x

-- so a flattened tree is read alone
pub reads_back : ReadsBack
reads_back c v k w = read_back (Tree c) c v w [] (λ x. x.0) k ∙ read_none (λ x. v) k

-- equal records, whatever follows, are of equal trees, and what follows is equal
pub same_parts : (c : Class) (v w : Tree c) (j k : List Rec) → Writable c v → Writable c w → flat_part c v j ≡ flat_part c w k → (v ≡ w) × (j ≡ k)
same_parts c v w j k p q e = let z : got v j ≡ got w k = sym (reads_back c v j p) ∙ ap (reads c) e ∙ reads_back c w k q in (cc, cc)
