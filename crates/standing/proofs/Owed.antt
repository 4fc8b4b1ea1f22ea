-- The walk that counts the parts still owed: each record pays for one part and owes those that follow it. What stands at a position is
-- then a list of parts, and the next record opens the first of them.
-- Assumes nothing.
use Prim.Native.Nat.{ℕ, suc, ◌+◌, ◌-◌, ◌≤◌, ◌<◌}
use native.Mathlib.Omega.{arith}
use mathlib.Core.Path.{◌≡◌, refl, ap, ◌∙◌}
use mathlib.Core.Bool.{Bool, true, false}
use mathlib.Core.List.{List, [], ◌∷◌, ◌++◌}
use lib.Dec.{eqb}
use lib.ListN.{length, get_or, length-append}
use Rattle.lustre.specs.Name.{Name, mem}
use Rattle.lustre.specs.Types.{Ty, basic, Array, Named, Tuple, levels}
use Rattle.lustre.specs.Expr.{Expr, Exprs, Inits, Literal, UnaryOp, BinOp, IterKind, size, sizes, sizesⁱ}
use Rattle.lustre.specs.Expr.{const, var, unary, binary, ite, pre, arrow, call, field, index, tuple, array, struct, cast, when, merge, iterate, iterate_from, []ᵉ, ◌∷ᵉ◌, []ⁱ, init}
use Rattle.lustre.specs.Expr.{bool, int, float, char, Not, Neg, And, Or, Xor, Implies, Eq, Neq, Lt, Le, Gt, Ge, Add, Sub, Mul, Div, Mod, BitAnd, BitOr, BitXor, Shl, Shr, Map, Fold}
use Rattle.lustre.specs.Grammar.{literal_kind, unary_kind, op_kind, when_kind, iterate_kind, iterate_from_kind, basic_kinds, count, countⁱ}
use Rattle.demands.proofs.Eaches.{each_member}
use Rattle.demands.proofs.Sets.{mem_in}
use Rattle.standing.specs.Standing.{Source, word, RecAt, NameAt, TypeAt, ExprAt, ExprsAt, InitsAt, EachAt, sizes_of}
use Rattle.standing.specs.Owed.{owed, owes}
use Rattle.standing.proofs.Inversions.{eqb_test, expr_record, expr_kind, type_record, type_kind}
use Rattle.standing.proofs.Sizes.{first, no_items}

-- what a record may begin: a type, an expression, a list of expressions, a list of field values, a field value
pub data Part : Type 0 where
  of_type : Ty → Part
  of_expr : Expr → Part
  of_list : Exprs → Part
  of_values : Inits → Part
  of_value : Name → Expr → Part

abbrev pub part_size : Part → ℕ
part_size (of_type t) = levels t
part_size (of_expr e) = size e
part_size (of_list es) = 1 + sizes es
part_size (of_values vs) = 1 + sizesⁱ vs
part_size (of_value x e) = 1 + size e

abbrev pub PartAt : Source → Part → ℕ → Type 0
PartAt S (of_type t) at = TypeAt S t at
PartAt S (of_expr e) at = ExprAt S e at
PartAt S (of_list es) at = RecAt S at 3 × (word S at ≡ count es) × ExprsAt S es (at + 1)
PartAt S (of_values vs) at = RecAt S at 3 × (word S at ≡ countⁱ vs) × InitsAt S vs (at + 1)
PartAt S (of_value x e) at = RecAt S at 84 × NameAt S at x × ExprAt S e (at + 1)

-- parts one after another
abbrev pub PartsAt : Source → List Part → ℕ → Type 0
PartsAt S = EachAt (PartAt S) part_size

abbrev pub parts_size : List Part → ℕ
parts_size = sizes_of part_size

-- the parts that follow a part's first record
abbrev pub items : Exprs → List Part
items []ᵉ = []
items (e ∷ᵉ es) = of_expr e ∷ items es

abbrev pub field_values : Inits → List Part
field_values []ⁱ = []
field_values (init x e vs) = of_value x e ∷ field_values vs

abbrev pub in_type : Ty → List Part
in_type (basic b) = []
in_type (Array n t) = of_type t ∷ []
in_type (Named x) = []
in_type (Tuple n) = []

abbrev pub in_expr : Expr → List Part
in_expr (const l w) = []
in_expr (var x) = []
in_expr (unary o a) = of_expr a ∷ []
in_expr (binary o a b) = of_expr a ∷ of_expr b ∷ []
in_expr (ite c a b) = of_expr c ∷ of_expr a ∷ of_expr b ∷ []
in_expr (pre a) = of_expr a ∷ []
in_expr (arrow a b) = of_expr a ∷ of_expr b ∷ []
in_expr (call f es) = of_list es ∷ []
in_expr (field x a) = of_expr a ∷ []
in_expr (index a b) = of_expr a ∷ of_expr b ∷ []
in_expr (tuple es) = items es
in_expr (array es) = items es
in_expr (struct x vs) = of_values vs ∷ []
in_expr (cast t a) = of_type t ∷ of_expr a ∷ []
in_expr (when on c a) = of_expr a ∷ []
in_expr (merge c a b) = of_expr a ∷ of_expr b ∷ []
in_expr (iterate i f es) = of_list es ∷ []
in_expr (iterate_from i f a es) = of_expr a ∷ of_list es ∷ []

abbrev pub in_part : Part → List Part
in_part (of_type t) = in_type t
in_part (of_expr e) = in_expr e
in_part (of_list es) = items es
in_part (of_values vs) = field_values vs
in_part (of_value x e) = of_expr e ∷ []

-- ---- the parts of a list

items_count : (es : Exprs) → count es ≡ length (items es)
unfolding count
items_count []ᵉ = refl
items_count (e ∷ᵉ es) = ap suc (items_count es)

values_count : (vs : Inits) → countⁱ vs ≡ length (field_values vs)
unfolding countⁱ
values_count []ⁱ = refl
values_count (init x e vs) = ap suc (values_count vs)

items_size : (es : Exprs) → parts_size (items es) ≡ sizes es
unfolding sizes_of size
items_size []ᵉ = refl
items_size (e ∷ᵉ es) = omega (arith, items_size es)

values_size : (vs : Inits) → parts_size (field_values vs) ≡ sizesⁱ vs
unfolding sizes_of size
values_size []ⁱ = refl
values_size (init x e vs) = omega (arith, values_size vs)

-- a part has one record more than the parts behind its first
pub opened_size : (p : Part) → part_size p ≡ 1 + parts_size (in_part p)
unfolding sizes_of size levels
opened_size (of_type (basic b)) = refl
opened_size (of_type (Array n t)) = omega arith
opened_size (of_type (Named x)) = refl
opened_size (of_type (Tuple n)) = refl
opened_size (of_list es) = omega (arith, items_size es)
opened_size (of_values vs) = omega (arith, values_size vs)
opened_size (of_value x e) = omega arith
opened_size (of_expr (const l w)) = refl
opened_size (of_expr (var x)) = refl
opened_size (of_expr (unary o a)) = omega arith
opened_size (of_expr (binary o a b)) = omega arith
opened_size (of_expr (ite c a b)) = omega arith
opened_size (of_expr (pre a)) = omega arith
opened_size (of_expr (arrow a b)) = omega arith
opened_size (of_expr (call f es)) = omega arith
opened_size (of_expr (field x a)) = omega arith
opened_size (of_expr (index a b)) = omega arith
opened_size (of_expr (tuple es)) = omega (arith, items_size es)
opened_size (of_expr (array es)) = omega (arith, items_size es)
opened_size (of_expr (struct x vs)) = omega arith
opened_size (of_expr (cast t a)) = omega arith
opened_size (of_expr (when on c a)) = omega arith
opened_size (of_expr (merge c a b)) = omega arith
opened_size (of_expr (iterate i f es)) = omega arith
opened_size (of_expr (iterate_from i f a es)) = omega arith

-- parts after parts have the records of both, and there are no more parts than records
pub sizes_append : (ps qs : List Part) → parts_size (ps ++ qs) ≡ parts_size ps + parts_size qs
unfolding sizes_of
sizes_append [] qs = omega arith
sizes_append (p ∷ ps) qs = omega (arith, sizes_append ps qs)

few : (ps : List Part) → length ps ≤ parts_size ps
unfolding sizes_of
few [] = omega arith
few (p ∷ ps) = omega (arith, opened_size p, few ps)

-- ---- what a part's first record owes

-- kinds that the tree chooses
basic_owes : (b w : ℕ) → mem eqb b basic_kinds ≡ true → owes b w ≡ 0
unfolding owed owes
basic_owes b w h = each_member (λ k. owes k w ≡ 0) basic_kinds b (mem_in eqb eqb_test b basic_kinds h)
    (refl, (refl, (refl, (refl, (refl, (refl, (refl, (refl, (refl, (refl, (refl, (refl, tt))))))))))))

literal_owes : (l : Literal) (w : ℕ) → owes (literal_kind l) w ≡ 0
unfolding owed owes
literal_owes bool w = refl
literal_owes int w = refl
literal_owes float w = refl
literal_owes char w = refl

unary_owes : (o : UnaryOp) (w : ℕ) → owes (unary_kind o) w ≡ 1
unfolding owed owes
unary_owes Not w = refl
unary_owes Neg w = refl

op_owes : (o : BinOp) (w : ℕ) → owes (op_kind o) w ≡ 2
unfolding owed owes
op_owes And w = refl
op_owes Or w = refl
op_owes Xor w = refl
op_owes Implies w = refl
op_owes Eq w = refl
op_owes Neq w = refl
op_owes Lt w = refl
op_owes Le w = refl
op_owes Gt w = refl
op_owes Ge w = refl
op_owes Add w = refl
op_owes Sub w = refl
op_owes Mul w = refl
op_owes Div w = refl
op_owes Mod w = refl
op_owes BitAnd w = refl
op_owes BitOr w = refl
op_owes BitXor w = refl
op_owes Shl w = refl
op_owes Shr w = refl

when_owes : (on : Bool) (w : ℕ) → owes (when_kind on) w ≡ 1
unfolding owed owes
when_owes true w = refl
when_owes false w = refl

iterate_owes : (i : IterKind) (w : ℕ) → owes (iterate_kind i) w ≡ 1
unfolding owed owes
iterate_owes Map w = refl
iterate_owes Fold w = refl

iterate_from_owes : (i : IterKind) (w : ℕ) → owes (iterate_from_kind i) w ≡ 2
unfolding owed owes
iterate_from_owes Map w = refl
iterate_from_owes Fold w = refl

-- what a turn of a walk needs, where something is owed: there is a record of a kind of parts, and what is owed behind it fits
pub record Turn (ks ws : List ℕ) (at left : ℕ) : Type 0 where
  pub in_kinds : 0 < left → at < length ks
  pub in_words : 0 < left → at < length ws
  pub known : 0 < left → get_or ks at 0 < 85
  pub few : 0 < left → left - 1 + owes (get_or ks at 0) (get_or ws at 0) ≤ length ks

module _ (S : Source) where
  -- the kind of the record at a position
  abbrev pub kind : ℕ → ℕ
  kind at = get_or S.ks at 0

  items_at : (es : Exprs) (at : ℕ) → ExprsAt S es at → PartsAt S (items es) at
  unfolding ExprAt EachAt
  items_at []ᵉ at s = tt
  items_at (e ∷ᵉ es) at s = (s.0, items_at es (at + size e) s.1)

  values_at : (vs : Inits) (at : ℕ) → InitsAt S vs at → PartsAt S (field_values vs) at
  unfolding ExprAt EachAt
  values_at []ⁱ at s = tt
  values_at (init x e vs) at s =
      let q : at + 1 + size e ≡ at + (1 + size e) = omega arith in
      ((s.0, s.1, s.2), rw q at (values_at vs (at + 1 + size e) s.3))

  -- the record at a position owes these parts, and they stand behind it
  pub record Opens (at : ℕ) (ps : List Part) : Type 0 where
    pub owed : owes (kind at) (word S at) ≡ length ps
    pub parts : PartsAt S ps (at + 1)

  opens : {at k : ℕ} {ps : List Part} → RecAt S at k → owes k (word S at) ≡ length ps → PartsAt S ps (at + 1) → Opens at ps
  opens r h s = record { owed = rw r.kind h; parts = s }

  -- a list record in an expression, and the items behind it
  list_at : (es : Exprs) (m n : ℕ) → m + 1 ≡ n → RecAt S m 3 → word S m ≡ count es → ExprsAt S es n → PartAt S (of_list es) m
  list_at es m n q r c s = (r, c, rw q s)

  values_list_at : (vs : Inits) (m n : ℕ) → m + 1 ≡ n → RecAt S m 3 → word S m ≡ countⁱ vs → InitsAt S vs n → PartAt S (of_values vs) m
  values_list_at vs m n q r c s = (r, c, rw q s)

  part_opens : (p : Part) (at : ℕ) → PartAt S p at → Opens at (in_part p)
  unfolding ExprAt TypeAt EachAt owes owed
  part_opens (of_type (basic b)) at s = opens s.0 (basic_owes b _ s.1) tt
  part_opens (of_type (Array n t)) at s = opens s.0 refl (s.3, tt)
  part_opens (of_type (Named x)) at s = opens s.0 refl tt
  part_opens (of_type (Tuple n)) at s = absurd s
  part_opens (of_list es) at s = opens s.0 (s.1 ∙ items_count es) (items_at es (at + 1) s.2)
  part_opens (of_values vs) at s = opens s.0 (s.1 ∙ values_count vs) (values_at vs (at + 1) s.2)
  part_opens (of_value x e) at s = opens s.0 refl (s.2, tt)
  part_opens (of_expr (const l w)) at s = opens s.0 (literal_owes l _) tt
  part_opens (of_expr (var x)) at s = opens s.0 refl tt
  part_opens (of_expr (unary o a)) at s = opens s.0 (unary_owes o _) (s.1, tt)
  part_opens (of_expr (binary o a b)) at s = opens s.0 (op_owes o _) (s.1, (s.2, tt))
  part_opens (of_expr (ite c a b)) at s = opens s.0 refl (s.1, (s.2, (s.3, tt)))
  part_opens (of_expr (pre a)) at s = opens s.0 refl (s.1, tt)
  part_opens (of_expr (arrow a b)) at s = opens s.0 refl (s.1, (s.2, tt))
  part_opens (of_expr (call f es)) at s = opens s.0 refl (list_at es (at + 1) (at + 2) (omega arith) s.2 s.3 s.4, tt)
  part_opens (of_expr (field x a)) at s = opens s.0 refl (s.2, tt)
  part_opens (of_expr (index a b)) at s = opens s.0 refl (s.1, (s.2, tt))
  part_opens (of_expr (tuple es)) at s = opens s.0 (s.1 ∙ items_count es) (items_at es (at + 1) s.2)
  part_opens (of_expr (array es)) at s = opens s.0 (s.1 ∙ items_count es) (items_at es (at + 1) s.2)
  part_opens (of_expr (struct x vs)) at s = opens s.0 refl (values_list_at vs (at + 1) (at + 2) (omega arith) s.2 s.3 s.4, tt)
  part_opens (of_expr (cast t a)) at s = opens s.0 refl (s.1, (s.2, tt))
  part_opens (of_expr (when on c a)) at s = opens s.0 (when_owes on _) (s.2, tt)
  part_opens (of_expr (merge c a b)) at s = opens s.0 refl (s.2, (s.3, tt))
  part_opens (of_expr (iterate i f es)) at s = opens s.0 (iterate_owes i _) (list_at es (at + 1) (at + 2) (omega arith) s.2 s.3 s.4, tt)
  part_opens (of_expr (iterate_from i f a es)) at s =
      opens s.0 (iterate_from_owes i _) (s.2, (list_at es (at + 1 + size a) (at + 2 + size a) (omega arith) s.3 s.4 s.5, tt))

  -- parts after parts
  each_append : (ps qs : List Part) (at : ℕ) → PartsAt S ps at → PartsAt S qs (at + parts_size ps) → PartsAt S (ps ++ qs) at
  unfolding sizes_of EachAt
  each_append [] qs at s t = let q : at + 0 ≡ at = omega arith in rw q at t
  each_append (p ∷ ps) qs at s t =
      let q : at + (part_size p + parts_size ps) ≡ at + part_size p + parts_size ps = omega arith in
      (s.0, each_append ps qs (at + part_size p) s.1 (rw q at t))

  -- so many parts stand from a position up to an end
  pub record Owing (ps : List Part) (at end left : ℕ) : Type 0 where
    pub many : length ps ≡ left
    pub stand : PartsAt S ps at
    pub ends : at + parts_size ps ≡ end

  -- the first of them, whose record pays for it and owes the parts in it, and the others
  pub record Next (ps : List Part) (at end left : ℕ) : Type 0 where
    pub p : Part
    pub rest : List Part
    pub is : ps ≡ p ∷ rest
    pub p_at : PartAt S p at
    pub head : RecAt S at (kind at)
    pub known : kind at < 85
    pub onward : Owing (in_part p ++ rest) (at + 1) end (left - 1 + owes (kind at) (word S at))
    pub behind : Owing rest (at + part_size p) end (left - 1)

  -- a part begins with a record, of a kind of parts
  part_head : (p : Part) (at : ℕ) → PartAt S p at → RecAt S at (kind at) × (kind at < 85)
  part_head (of_type t) at s = (type_record S t at s, omega (arith, type_kind S t at s))
  part_head (of_expr e) at s = (expr_record S e at s, omega (arith, expr_kind S e at s))
  part_head (of_list es) at s = (rw s.0.kind s.0, omega (arith, s.0.kind))
  part_head (of_values vs) at s = (rw s.0.kind s.0, omega (arith, s.0.kind))
  part_head (of_value x e) at s = (rw s.0.kind s.0, omega (arith, s.0.kind))

  pub next : {ps : List Part} {at end left : ℕ} → Owing ps at end left → (left ≡ 0 → ⊥) → Next ps at end left
  unfolding sizes_of
  next {ps} {at} {end} {left} w h =
      let f = first (PartAt S) part_size ps at left w.many h w.stand in
      let o = part_opens f.x at f.x_at in
      let z = opened_size f.x in
      let e = rw f.is at w.ends in
      let q : at + 1 + parts_size (in_part f.x) ≡ at + part_size f.x = omega arith in
      record {
        p = f.x;
        rest = f.rest;
        is = f.is;
        p_at = f.x_at;
        head = (part_head f.x at f.x_at).0;
        known = (part_head f.x at f.x_at).1;
        onward = record {
          many = omega (arith, length-append (in_part f.x) f.rest, o.owed, f.fewer);
          stand = each_append (in_part f.x) f.rest (at + 1) o.parts (rw q f.rest_at);
          ends = omega (arith, sizes_append (in_part f.x) f.rest);
        };
        behind = record { many = omega (arith, f.fewer); stand = f.rest_at; ends = omega arith };
      }

  -- an expression is one part
  pub start : (e : Expr) (at : ℕ) → ExprAt S e at → Owing (of_expr e ∷ []) at (at + size e) 1
  unfolding sizes_of EachAt
  start e at s = record { many = refl; stand = (s, tt); ends = omega arith }

  -- and behind its first record stand the parts in it
  pub inside : (e : Expr) (at : ℕ) → ExprAt S e at → Owing (in_expr e) (at + 1) (at + size e) (length (in_expr e))
  inside e at s = record { many = refl; stand = (part_opens (of_expr e) at s).parts; ends = omega (arith, opened_size (of_expr e)) }

  -- a part that begins with a kind of expressions is one
  pub expr_part : (p : Part) (at : ℕ) → PartAt S p at → 40 ≤ kind at → kind at ≤ 83 → (e : Expr) × (p ≡ of_expr e) × ExprAt S e at
  expr_part (of_type t) at s l h = absurd (omega (arith, type_kind S t at s))
  expr_part (of_expr e) at s l h = (e, refl, s)
  expr_part (of_list es) at s l h = absurd (omega (arith, s.0.kind))
  expr_part (of_values vs) at s l h = absurd (omega (arith, s.0.kind))
  expr_part (of_value x e) at s l h = absurd (omega (arith, s.0.kind))

  module _ {ps : List Part} {at end left : ℕ} (w : Owing ps at end left) where
    -- no more parts are owed than there are records left
    pub owing_few : at + left ≤ end
    owing_few = omega (arith, w.many, w.ends, few ps)

    -- none are owed at the end
    pub owing_none : left ≡ 0 → (ps ≡ []) × (at ≡ end)
    unfolding sizes_of
    owing_none z =
        let q = no_items ps (w.many ∙ z) in
        let e = rw q at w.ends in
        (q, omega arith)

  -- where the records reach the end, a turn has what it needs
  module _ {ps : List Part} {at end left : ℕ} (w : Owing ps at end left) where
    first_of : 0 < left → Next ps at end left
    first_of z = next w (λ e. omega arith)

    pub turn : end ≤ length S.ks → Turn S.ks S.ws at left
    turn h = record { in_kinds = λ z. (first_of z).head.in_kinds; in_words = λ z. (first_of z).head.in_words; known = λ z. (first_of z).known; few = λ z. omega (arith, owing_few (first_of z).onward) }
