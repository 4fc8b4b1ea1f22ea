-- What stands where a record of a kind is: the form of the expression, type or declaration, and where its parts stand.
-- Assumes nothing.
use Rattle.std.specs.Prelude.{if◌then◌else◌}
use Prim.Native.Nat.{ℕ, zero, suc, ◌+◌, ◌-◌, ◌≤◌, ◌<◌}
use native.Mathlib.Omega.{arith}
use mathlib.Core.Path.{◌≡◌, refl, ap, sym, subst, ◌∙◌}
use mathlib.Core.Bool.{Bool, true, false, ◌&&◌}
use mathlib.Core.List.{List, [], ◌∷◌}
use lib.Dec.{eqb, leb, ltb}
use lib.ListN.{length, get_or}
use borrow.Author.Tests.{ltb-false, eqb-true, eq-eqb, le-ltb, le-leb, lt-leb, ne_eqb}
use Rattle.lustre.specs.Name.{Name, mem}
use Rattle.lustre.specs.Types.{Ty, basic, Array, Named, Tuple, levels}
use Rattle.lustre.specs.Expr.{Expr, Exprs, Inits, Literal, UnaryOp, BinOp, IterKind, OpClass, op_class, size}
use Rattle.lustre.specs.Expr.{const, var, unary, binary, ite, pre, arrow, call, field, index, tuple, array, struct, cast, when, merge, iterate, iterate_from}
use Rattle.lustre.specs.Expr.{bool, int, float, char, Not, Neg, And, Or, Xor, Implies, Eq, Neq, Lt, Le, Gt, Ge, Add, Sub, Mul, Div, Mod, BitAnd, BitOr, BitXor, Shl, Shr, Map, Fold, Logic, Equality, Order, Arithmetic, Bitwise}
use Rattle.lustre.specs.Project.{Decl, Alias, Record, Enum, NodeKind, Function, Operator, Imported, Node}
use Rattle.lustre.specs.Grammar.{basic_kinds, literal_kind, unary_kind, op_kind, when_kind, iterate_kind, iterate_from_kind, node_kind, operators, count, countⁱ}
use Rattle.standing.specs.Standing.{Source, word, RecAt, NameAt, TypeAt, ExprAt, ExprsAt, InitsAt, PortsAt, NamesAt, DeclAt, NodeAt}
use Rattle.demands.proofs.Eaches.{each_member}
use Rattle.demands.proofs.Sets.{Test, mem_in}

-- what holds of each of a list and of its number, counted from n on
infixr 10 ◌&◌
data Rows {X : Type 0} (P : ℕ → X → Type 0) : ℕ → List X → Type 0 where
  end : {n : ℕ} → Rows P n []
  ◌&◌ : {n : ℕ} {x : X} {xs : List X} → P n x → Rows P (n + 1) xs → Rows P n (x ∷ xs)

row : {X : Type 0} (P : ℕ → X → Type 0) (d : X) {n : ℕ} {xs : List X} → Rows P n xs → (i : ℕ) → i < length xs → P (n + i) (get_or xs i d)
row P d end i h = absurd (omega arith)
row P d {n} (◌&◌ {x = x} p r) zero h = let q : n ≡ n + 0 = omega arith in subst (λ (m : ℕ). P m x) q p
row P d {n} (◌&◌ {xs = xs} p r) (suc i) h = let q : n + 1 + i ≡ n + suc i = omega arith in subst (λ (m : ℕ). P m (get_or xs i d)) q (row P d r i (omega arith))

-- the operator of a kind, 47 to 66, and its class
unfoldable pub op_at : ℕ → BinOp
op_at k = get_or operators (k - 47) Shr

-- the choice of two facts by a test
infix 1 should◌so◌else◌
abbrev should◌so◌else◌ : Bool → Type 0 → Type 0 → Type 0
should true so a else b = a
should false so a else b = b

abbrev class_at : ℕ → OpClass
class_at k = if leb k 50 then Logic else if leb k 52 then Equality else if leb k 56 then Order else if leb k 61 then Arithmetic else Bitwise

abbrev OpRow : ℕ → BinOp → Type 0
OpRow k o = (op_kind o ≡ k) × (op_class o ≡ class_at k)

op_rows : Rows OpRow 47 operators
unfolding op_class
op_rows =
    (refl, refl) & (refl, refl) & (refl, refl) & (refl, refl) &
    (refl, refl) & (refl, refl) &
    (refl, refl) & (refl, refl) & (refl, refl) & (refl, refl) &
    (refl, refl) & (refl, refl) & (refl, refl) & (refl, refl) & (refl, refl) &
    (refl, refl) & (refl, refl) & (refl, refl) & (refl, refl) & (refl, refl) &
    end

module _ (k : ℕ) where
  op_row : 47 ≤ k → k ≤ 66 → OpRow k (op_at k)
  unfolding op_at
  op_row l h = let q : 47 + (k - 47) ≡ k = omega arith in subst (λ (j : ℕ). OpRow j (get_or operators (k - 47) Shr)) q (row OpRow Shr op_rows (k - 47) (omega arith))

  pub op_kind_at : 47 ≤ k → k ≤ 66 → op_kind (op_at k) ≡ k
  op_kind_at l h = (op_row l h).0

  pub logic_at : 47 ≤ k → k ≤ 50 → op_class (op_at k) ≡ Logic
  logic_at l h = (op_row l (omega arith)).1 ∙ rw (le-leb k 50 h)

  pub equality_at : 51 ≤ k → k ≤ 52 → op_class (op_at k) ≡ Equality
  equality_at l h = (op_row (omega arith) (omega arith)).1 ∙ rw (lt-leb k 50 l, le-leb k 52 h)

  pub order_at : 53 ≤ k → k ≤ 56 → op_class (op_at k) ≡ Order
  order_at l h = (op_row (omega arith) (omega arith)).1 ∙ rw (lt-leb k 50 (omega arith), lt-leb k 52 l, le-leb k 56 h)

  pub arithmetic_at : 57 ≤ k → k ≤ 61 → op_class (op_at k) ≡ Arithmetic
  arithmetic_at l h = (op_row (omega arith) (omega arith)).1 ∙ rw (lt-leb k 50 (omega arith), lt-leb k 52 (omega arith), lt-leb k 56 l, le-leb k 61 h)

  pub bitwise_at : 62 ≤ k → k ≤ 66 → op_class (op_at k) ≡ Bitwise
  bitwise_at l h = (op_row (omega arith) h).1 ∙ rw (lt-leb k 50 (omega arith), lt-leb k 52 (omega arith), lt-leb k 56 (omega arith), lt-leb k 61 l)

-- P where k is from low to high, and nothing elsewhere
abbrev Bounded : ℕ → ℕ → ℕ → Type 0 → Type 0
Bounded low high k P = should ltb k low so ⊥ else should ltb high k so ⊥ else P

-- where that holds, k is from low to high; and where k is, P holds
between : (low high k : ℕ) (P : Type 0) → Bounded low high k P → (low ≤ k) × (k ≤ high)
between low high k P w = go (ltb k low) refl (ltb high k) refl w
  where
    go : (a : Bool) → ltb k low ≡ a → (b : Bool) → ltb high k ≡ b → (should a so ⊥ else should b so ⊥ else P) → (low ≤ k) × (k ≤ high)
    go true p b q w = absurd w
    go false p true q w = absurd w
    go false p false q w = (ltb-false k low p, ltb-false high k q)

within : (low high k : ℕ) {P : Type 0} → low ≤ k → k ≤ high → Bounded low high k P → P
within low high k l h w = rw (le-ltb k low l, le-ltb high k h) at w

-- a record of some kind stands there, and F holds of the kind
abbrev Shaped : Source → ℕ → (ℕ → Type 0) → Type 0
Shaped S at F = (k : ℕ) × RecAt S at k × F k

-- so F holds of the kind that is read there
shaped : (S : Source) (at : ℕ) (F : ℕ → Type 0) → Shaped S at F → (k : ℕ) → get_or S.ks at 0 ≡ k → F k
shaped S at F w k h = subst F (sym w.1.kind ∙ h) w.2

as_read : (S : Source) (at k : ℕ) → RecAt S at k → RecAt S at (get_or S.ks at 0)
as_read S at k r = record { in_kinds = r.in_kinds; in_words = r.in_words; kind = refl }

-- The parts of an expression whose form is known but for them: one, two or three operands behind the record.
pub record OnePart (S : Source) (form : Expr → Expr) (e : Expr) (at : ℕ) : Type 0 where
  pub a : Expr
  pub is : e ≡ form a
  pub a_at : ExprAt S a (at + 1)

pub record TwoParts (S : Source) (form : Expr → Expr → Expr) (e : Expr) (at : ℕ) : Type 0 where
  pub a : Expr
  pub b : Expr
  pub is : e ≡ form a b
  pub a_at : ExprAt S a (at + 1)
  pub b_at : ExprAt S b (at + 1 + size a)

pub record ThreeParts (S : Source) (form : Expr → Expr → Expr → Expr) (e : Expr) (at : ℕ) : Type 0 where
  pub c : Expr
  pub a : Expr
  pub b : Expr
  pub is : e ≡ form c a b
  pub c_at : ExprAt S c (at + 1)
  pub a_at : ExprAt S a (at + 1 + size c)
  pub b_at : ExprAt S b (at + 1 + size c + size a)

-- items that the record itself counts
pub record Items (S : Source) (form : Exprs → Expr) (e : Expr) (at : ℕ) : Type 0 where
  pub es : Exprs
  pub is : e ≡ form es
  pub many : word S at ≡ count es
  pub items : ExprsAt S es (at + 1)

-- arguments that a list record behind it counts
pub record Arguments (S : Source) (form : Exprs → Expr) (e : Expr) (at : ℕ) : Type 0 where
  pub es : Exprs
  pub is : e ≡ form es
  pub list : RecAt S (at + 1) 3
  pub many : word S (at + 1) ≡ count es
  pub items : ExprsAt S es (at + 2)

-- the same behind a seed
pub record Seeded (S : Source) (form : Expr → Exprs → Expr) (e : Expr) (at : ℕ) : Type 0 where
  pub seed : Expr
  pub es : Exprs
  pub is : e ≡ form seed es
  pub seed_at : ExprAt S seed (at + 1)
  pub list : RecAt S (at + 1 + size seed) 3
  pub many : word S (at + 1 + size seed) ≡ count es
  pub items : ExprsAt S es (at + 2 + size seed)

-- field values, as arguments are
pub record Values (S : Source) (form : Inits → Expr) (e : Expr) (at : ℕ) : Type 0 where
  pub values : Inits
  pub is : e ≡ form values
  pub list : RecAt S (at + 1) 3
  pub many : word S (at + 1) ≡ countⁱ values
  pub items : InitsAt S values (at + 2)

-- a type and an operand
pub record Cast (S : Source) (e : Expr) (at : ℕ) : Type 0 where
  pub t : Ty
  pub a : Expr
  pub is : e ≡ cast t a
  pub t_at : TypeAt S t (at + 1)
  pub a_at : ExprAt S a (at + 1 + levels t)

-- the record's word is a name, and P holds of it
pub record WithName (S : Source) (at : ℕ) (P : Name → Type 0) : Type 0 where
  pub x : Name
  pub name : NameAt S at x
  pub holds : P x

-- what a kind says of the expression that stands at its record
abbrev Shape : Source → Expr → ℕ → ℕ → Type 0
Shape S e at k = Bounded 40 83 k (
    should leb 47 k && leb k 66 so TwoParts S (binary (op_at k)) e at else
    should eqb k 40 so e ≡ const bool (word S at) else
    should eqb k 41 so e ≡ const int (word S at) else
    should eqb k 42 so e ≡ const float (word S at) else
    should eqb k 43 so e ≡ const char (word S at) else
    should eqb k 44 so WithName S at (λ x. e ≡ var x) else
    should eqb k 45 so OnePart S (unary Not) e at else
    should eqb k 46 so OnePart S (unary Neg) e at else
    should eqb k 67 so ThreeParts S ite e at else
    should eqb k 68 so OnePart S pre e at else
    should eqb k 69 so TwoParts S arrow e at else
    should eqb k 70 so WithName S at (λ f. Arguments S (call f) e at) else
    should eqb k 71 so WithName S at (λ x. OnePart S (field x) e at) else
    should eqb k 72 so TwoParts S index e at else
    should eqb k 73 so Items S tuple e at else
    should eqb k 74 so Items S array e at else
    should eqb k 75 so WithName S at (λ x. Values S (struct x) e at) else
    should eqb k 76 so Cast S e at else
    should eqb k 77 so WithName S at (λ c. OnePart S (when true c) e at) else
    should eqb k 78 so WithName S at (λ c. OnePart S (when false c) e at) else
    should eqb k 79 so WithName S at (λ c. TwoParts S (merge c) e at) else
    should eqb k 80 so WithName S at (λ f. Arguments S (iterate Map f) e at) else
    should eqb k 81 so WithName S at (λ f. Seeded S (iterate_from Map f) e at) else
    should eqb k 82 so WithName S at (λ f. Arguments S (iterate Fold f) e at) else
    WithName S at (λ f. Seeded S (iterate_from Fold f) e at))

module _ (S : Source) (at : ℕ) where
  -- an expression of a form that the tree chooses has the shape that the form's kind says
  literal_shape : (l : Literal) {e : Expr} → e ≡ const l (word S at) → Shape S e at (literal_kind l)
  literal_shape bool p = p
  literal_shape int p = p
  literal_shape float p = p
  literal_shape char p = p

  unary_shape : (o : UnaryOp) {e : Expr} → OnePart S (unary o) e at → Shape S e at (unary_kind o)
  unary_shape Not p = p
  unary_shape Neg p = p

  binary_shape : (o : BinOp) {e : Expr} → TwoParts S (binary o) e at → Shape S e at (op_kind o)
  unfolding op_at
  binary_shape And p = p
  binary_shape Or p = p
  binary_shape Xor p = p
  binary_shape Implies p = p
  binary_shape Eq p = p
  binary_shape Neq p = p
  binary_shape Lt p = p
  binary_shape Le p = p
  binary_shape Gt p = p
  binary_shape Ge p = p
  binary_shape Add p = p
  binary_shape Sub p = p
  binary_shape Mul p = p
  binary_shape Div p = p
  binary_shape Mod p = p
  binary_shape BitAnd p = p
  binary_shape BitOr p = p
  binary_shape BitXor p = p
  binary_shape Shl p = p
  binary_shape Shr p = p

  when_shape : (on : Bool) {e : Expr} → WithName S at (λ c. OnePart S (when on c) e at) → Shape S e at (when_kind on)
  when_shape true p = p
  when_shape false p = p

  iterate_shape : (i : IterKind) {e : Expr} → WithName S at (λ f. Arguments S (iterate i f) e at) → Shape S e at (iterate_kind i)
  iterate_shape Map p = p
  iterate_shape Fold p = p

  iterate_from_shape : (i : IterKind) {e : Expr} → WithName S at (λ f. Seeded S (iterate_from i f) e at) → Shape S e at (iterate_from_kind i)
  iterate_from_shape Map p = p
  iterate_from_shape Fold p = p

  -- what stands has the shape that its first record says
  shape : (e : Expr) → ExprAt S e at → Shaped S at (Shape S e at)
  unfolding ExprAt
  shape (const l w) s = (literal_kind l, s.0, literal_shape l (ap (const l) (sym s.1)))
  shape (var x) s = (44, s.0, record { x = x; name = s.1; holds = refl })
  shape (unary o a) s = (unary_kind o, s.0, unary_shape o record { a = a; is = refl; a_at = s.1 })
  shape (binary o a b) s = (op_kind o, s.0, binary_shape o record { a = a; b = b; is = refl; a_at = s.1; b_at = s.2 })
  shape (ite c a b) s = (67, s.0, record { c = c; a = a; b = b; is = refl; c_at = s.1; a_at = s.2; b_at = s.3 })
  shape (pre a) s = (68, s.0, record { a = a; is = refl; a_at = s.1 })
  shape (arrow a b) s = (69, s.0, record { a = a; b = b; is = refl; a_at = s.1; b_at = s.2 })
  shape (call f es) s = (70, s.0, record { x = f; name = s.1; holds = record { es = es; is = refl; list = s.2; many = s.3; items = s.4 } })
  shape (field x a) s = (71, s.0, record { x = x; name = s.1; holds = record { a = a; is = refl; a_at = s.2 } })
  shape (index a b) s = (72, s.0, record { a = a; b = b; is = refl; a_at = s.1; b_at = s.2 })
  shape (tuple es) s = (73, s.0, record { es = es; is = refl; many = s.1; items = s.2 })
  shape (array es) s = (74, s.0, record { es = es; is = refl; many = s.1; items = s.2 })
  shape (struct x vs) s = (75, s.0, record { x = x; name = s.1; holds = record { values = vs; is = refl; list = s.2; many = s.3; items = s.4 } })
  shape (cast t a) s = (76, s.0, record { t = t; a = a; is = refl; t_at = s.1; a_at = s.2 })
  shape (when on c a) s = (when_kind on, s.0, when_shape on record { x = c; name = s.1; holds = record { a = a; is = refl; a_at = s.2 } })
  shape (merge c a b) s = (79, s.0, record { x = c; name = s.1; holds = record { a = a; b = b; is = refl; a_at = s.2; b_at = s.3 } })
  shape (iterate i f es) s = (iterate_kind i, s.0, iterate_shape i record { x = f; name = s.1; holds = record { es = es; is = refl; list = s.2; many = s.3; items = s.4 } })
  shape (iterate_from i f a es) s = (iterate_from_kind i, s.0, iterate_from_shape i record { x = f; name = s.1; holds = record { seed = a; es = es; is = refl; seed_at = s.2; list = s.3; many = s.4; items = s.5 } })

module _ (S : Source) (e : Expr) (at : ℕ) (s : ExprAt S e at) where
  inv : (k : ℕ) → get_or S.ks at 0 ≡ k → Shape S e at k
  inv = shaped S at (Shape S e at) (shape S at e s)

  -- a record stands there, of a kind of expressions
  pub expr_record : RecAt S at (get_or S.ks at 0)
  expr_record = as_read S at _ (shape S at e s).1

  pub expr_kind : (40 ≤ get_or S.ks at 0) × (get_or S.ks at 0 ≤ 83)
  expr_kind = between 40 83 (get_or S.ks at 0) _ (inv (get_or S.ks at 0) refl)

  pub const_here : (l : Literal) → get_or S.ks at 0 ≡ literal_kind l → e ≡ const l (word S at)
  const_here bool h = inv 40 h
  const_here int h = inv 41 h
  const_here float h = inv 42 h
  const_here char h = inv 43 h

  pub var_here : get_or S.ks at 0 ≡ 44 → WithName S at (λ x. e ≡ var x)
  var_here h = inv 44 h

  pub unary_here : (o : UnaryOp) → get_or S.ks at 0 ≡ unary_kind o → OnePart S (unary o) e at
  unary_here Not h = inv 45 h
  unary_here Neg h = inv 46 h

  pub binary_here : (k : ℕ) → get_or S.ks at 0 ≡ k → 47 ≤ k → k ≤ 66 → TwoParts S (binary (op_at k)) e at
  binary_here k h l m = rw (le-leb 47 k l, le-leb k 66 m) at (within 40 83 k (omega arith) (omega arith) (inv k h))

  pub ite_here : get_or S.ks at 0 ≡ 67 → ThreeParts S ite e at
  ite_here h = inv 67 h

  pub pre_here : get_or S.ks at 0 ≡ 68 → OnePart S pre e at
  pre_here h = inv 68 h

  pub arrow_here : get_or S.ks at 0 ≡ 69 → TwoParts S arrow e at
  arrow_here h = inv 69 h

  pub call_here : get_or S.ks at 0 ≡ 70 → WithName S at (λ f. Arguments S (call f) e at)
  call_here h = inv 70 h

  pub field_here : get_or S.ks at 0 ≡ 71 → WithName S at (λ x. OnePart S (field x) e at)
  field_here h = inv 71 h

  pub index_here : get_or S.ks at 0 ≡ 72 → TwoParts S index e at
  index_here h = inv 72 h

  pub tuple_here : get_or S.ks at 0 ≡ 73 → Items S tuple e at
  tuple_here h = inv 73 h

  pub array_here : get_or S.ks at 0 ≡ 74 → Items S array e at
  array_here h = inv 74 h

  pub struct_here : get_or S.ks at 0 ≡ 75 → WithName S at (λ x. Values S (struct x) e at)
  struct_here h = inv 75 h

  pub cast_here : get_or S.ks at 0 ≡ 76 → Cast S e at
  cast_here h = inv 76 h

  pub when_here : (on : Bool) → get_or S.ks at 0 ≡ when_kind on → WithName S at (λ c. OnePart S (when on c) e at)
  when_here true h = inv 77 h
  when_here false h = inv 78 h

  pub merge_here : get_or S.ks at 0 ≡ 79 → WithName S at (λ c. TwoParts S (merge c) e at)
  merge_here h = inv 79 h

  pub iterate_here : (i : IterKind) → get_or S.ks at 0 ≡ iterate_kind i → WithName S at (λ f. Arguments S (iterate i f) e at)
  iterate_here Map h = inv 80 h
  iterate_here Fold h = inv 82 h

  pub iterate_from_here : (i : IterKind) → get_or S.ks at 0 ≡ iterate_from_kind i → WithName S at (λ f. Seeded S (iterate_from i f) e at)
  iterate_from_here Map h = inv 81 h
  iterate_from_here Fold h = inv 83 h

-- an array type: its length is the record's word
pub record ArrayType (S : Source) (t : Ty) (at : ℕ) : Type 0 where
  pub element : Ty
  pub is : t ≡ Array (word S at) element
  pub small : word S at < 4_294_967_296
  pub element_at : TypeAt S element (at + 1)

-- what a kind says of the type that stands at its record
abbrev TypeShape : Source → Ty → ℕ → ℕ → Type 0
TypeShape S t at k = Bounded 20 33 k (
    should eqb k 32 so ArrayType S t at else
    should eqb k 33 so WithName S at (λ x. t ≡ Named x) else
    t ≡ basic k)

pub eqb_test : Test eqb
eqb_test = record { same = eqb-true; self = λ n. eq-eqb n n refl }

module _ (S : Source) (at : ℕ) where
  basic_shape : (b : ℕ) → mem eqb b basic_kinds ≡ true → TypeShape S (basic b) at b
  basic_shape b h = each_member (λ k. TypeShape S (basic k) at k) basic_kinds b (mem_in eqb eqb_test b basic_kinds h)
      (refl, (refl, (refl, (refl, (refl, (refl, (refl, (refl, (refl, (refl, (refl, (refl, tt))))))))))))

  type_shape : (t : Ty) → TypeAt S t at → Shaped S at (TypeShape S t at)
  unfolding TypeAt
  type_shape (basic b) s = (b, s.0, basic_shape b s.1)
  type_shape (Array n t) s = (32, s.0, record { element = t; is = ap (λ (m : ℕ). Array m t) (sym s.1); small = rw s.1 s.2; element_at = s.3 })
  type_shape (Named x) s = (33, s.0, record { x = x; name = s.1; holds = refl })
  type_shape (Tuple n) s = absurd s

module _ (S : Source) (t : Ty) (at : ℕ) (s : TypeAt S t at) where
  type_inv : (k : ℕ) → get_or S.ks at 0 ≡ k → TypeShape S t at k
  type_inv = shaped S at (TypeShape S t at) (type_shape S at t s)

  -- a record stands there, of a kind of types
  pub type_record : RecAt S at (get_or S.ks at 0)
  type_record = as_read S at _ (type_shape S at t s).1

  pub type_kind : (20 ≤ get_or S.ks at 0) × (get_or S.ks at 0 ≤ 33)
  type_kind = between 20 33 (get_or S.ks at 0) _ (type_inv (get_or S.ks at 0) refl)

  pub basic_here : (k : ℕ) → get_or S.ks at 0 ≡ k → 20 ≤ k → k ≤ 31 → t ≡ basic k
  basic_here k h l m = rw (ne_eqb k 32 (λ q. omega arith), ne_eqb k 33 (λ q. omega arith)) at (within 20 33 k l (omega arith) (type_inv k h))

  pub array_type_here : get_or S.ks at 0 ≡ 32 → ArrayType S t at
  array_type_here h = type_inv 32 h

  pub named_here : get_or S.ks at 0 ≡ 33 → WithName S at (λ x. t ≡ Named x)
  named_here h = type_inv 33 h

-- the body of a declaration whose form is known but for it
pub record Body {X : Type 0} (form : X → Decl) (P : X → ℕ → Type 0) (d : Decl) (at : ℕ) : Type 0 where
  pub body : X
  pub is : d ≡ form body
  pub body_at : P body (at + 1)

-- what a kind says of the declaration that stands at its record
abbrev DeclShape : Source → Decl → ℕ → ℕ → Type 0
DeclShape S d at k = Bounded 4 6 k (
    should eqb k 4 so WithName S at (λ x. Body (Alias x) (TypeAt S) d at) else
    should eqb k 5 so WithName S at (λ x. Body (Record x) (PortsAt S) d at) else
    WithName S at (λ x. Body (Enum x) (NamesAt S) d at))

module _ (S : Source) (at : ℕ) where
  decl_shape : (d : Decl) → DeclAt S d at → Shaped S at (DeclShape S d at)
  unfolding DeclAt
  decl_shape (Alias x t) s = (4, s.0, record { x = x; name = s.1; holds = record { body = t; is = refl; body_at = s.2 } })
  decl_shape (Record x fs) s = (5, s.0, record { x = x; name = s.1; holds = record { body = fs; is = refl; body_at = s.2 } })
  decl_shape (Enum x vs) s = (6, s.0, record { x = x; name = s.1; holds = record { body = vs; is = refl; body_at = s.2 } })

module _ (S : Source) (d : Decl) (at : ℕ) (s : DeclAt S d at) where
  decl_inv : (k : ℕ) → get_or S.ks at 0 ≡ k → DeclShape S d at k
  decl_inv = shaped S at (DeclShape S d at) (decl_shape S at d s)

  -- a record stands there, of a kind of declarations
  pub decl_record : RecAt S at (get_or S.ks at 0)
  decl_record = as_read S at _ (decl_shape S at d s).1

  pub decl_kind : (4 ≤ get_or S.ks at 0) × (get_or S.ks at 0 ≤ 6)
  decl_kind = between 4 6 (get_or S.ks at 0) _ (decl_inv (get_or S.ks at 0) refl)

  pub alias_here : get_or S.ks at 0 ≡ 4 → WithName S at (λ x. Body (Alias x) (TypeAt S) d at)
  alias_here h = decl_inv 4 h

  pub record_here : get_or S.ks at 0 ≡ 5 → WithName S at (λ x. Body (Record x) (PortsAt S) d at)
  record_here h = decl_inv 5 h

  pub enum_here : get_or S.ks at 0 ≡ 6 → WithName S at (λ x. Body (Enum x) (NamesAt S) d at)
  enum_here h = decl_inv 6 h

-- the kind of a node, by its record's
unfoldable pub node_kind_at : ℕ → NodeKind
node_kind_at k = if eqb k 10 then Function else if eqb k 11 then Operator else Imported

kind_back : (n : NodeKind) → n ≡ node_kind_at (node_kind n)
unfolding node_kind_at
kind_back = elim [ Function ↦ refl | Operator ↦ refl | Imported ↦ refl ]

pub node_kind_here : (S : Source) (n : Node) (at : ℕ) → NodeAt S n at → n.kind ≡ node_kind_at (get_or S.ks at 0)
node_kind_here S n at s = kind_back n.kind ∙ ap node_kind_at (sym s.head.kind)
