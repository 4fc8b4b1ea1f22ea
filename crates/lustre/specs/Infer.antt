-- `infer_expr_type`, lib.rs 710, and `infer_iterator_type`, lib.rs 1233. Each construct has a rule: a function of the typings of its
-- parts. A typing is what waits for a hint. `infer` at the end hands each rule its parts' typings, with their steps.
-- Assumes nothing: these are definitions.
use Rattle.std.specs.Prelude.{ℕ, suc, ◌+◌, Bool, true, ◌&&◌, List, [], ◌∷◌, map, eqb, leb, length, neg_ℤ, if◌then◌else◌}
use Rattle.std.proofs.Math.Option.{Option, none, some}
use Rattle.lustre.specs.Name.{Name, ◌among◌, find}
use Rattle.lustre.specs.Types.{Ty, basic, Array, Named, Tuple, Boolean, Int32, unit_type, same_type, is_integer, is_numeric, is_bool, levels}
use Rattle.lustre.specs.Expr.{Expr, Exprs, Inits, UnaryOp, Not, Neg, IterKind, Map, Fold, OpClass, Logic, Equality, Order, Arithmetic, Bitwise, op_class, Form, integer, temporal, iterator, calling, other, form, size}
use Rattle.lustre.specs.Expr.{const, var, unary, binary, ite, pre, arrow, call, field, index, tuple, array, struct, cast, when, merge, iterate, iterate_from, []ᵉ, ◌∷ᵉ◌, []ⁱ, init}
use Rattle.lustre.specs.Project.{Port, Heading, is_function, is_operator}
use Rattle.lustre.specs.Grammar.{count}
use Rattle.lustre.specs.Line.{Note, Out, plain, named, return, fail, add, require, try, ◌>>=◌, ◌>>◌}
use Rattle.lustre.specs.Resolve.{Scope, resolve, compatible}
use Rattle.lustre.specs.Literal.{literal_type, integer_type}

abbrev pub Typing : Type 0
Typing = Option Ty → Out Ty

-- `match .. { Some(a) => f(a), None => k }`
unfoldable pub if_found : {A B : Type 0} → Option A → (A → Out B) → Out B → Out B
if_found none f k = k
if_found (some a) f k = f a

-- `if hint.is_some() { hint } else { Some(&t) }`
unfoldable pub or_else : Option Ty → Ty → Option Ty
or_else none t = some t
or_else (some h) t = some h

-- `sub_hint`, lib.rs 809: arithmetic and bitwise operators hand the hint on
unfoldable pub sub_hint : OpClass → Option Ty → Option Ty
sub_hint Logic h = none
sub_hint Equality h = none
sub_hint Order h = none
sub_hint Arithmetic h = h
sub_hint Bitwise h = h

-- `rhs_hint`, lib.rs 818: the left type, as it stands, if it is an integer type
unfoldable pub right_hint : Ty → Option Ty → Option Ty
right_hint l h = if is_integer l then some l else h

-- what each class of operators asks of its operands' resolved types; its code; its type
unfoldable pub meets : OpClass → Ty → Ty → Bool
meets Logic l r = is_bool l && is_bool r
meets Equality l r = same_type l r
meets Order l r = is_numeric l && is_numeric r && same_type l r
meets Arithmetic l r = is_numeric l && is_numeric r && same_type l r
meets Bitwise l r = is_integer l && is_integer r && same_type l r

unfoldable pub fault : OpClass → ℕ
fault Logic = 83
fault Equality = 84
fault Order = 85
fault Arithmetic = 86
fault Bitwise = 87

unfoldable pub gives : OpClass → Ty → Ty
gives Logic l = Boolean
gives Equality l = Boolean
gives Order l = Boolean
gives Arithmetic l = l
gives Bitwise l = l

-- the type of a literal, lib.rs 721. Request 2.10: E0095 where it has none, an integer that fits neither its hint nor Int32
unfoldable pub literal_rule : ℕ → Option Ty → Out Ty
literal_rule at t = if_found t return (fail (plain at 95))

-- the type of a call, lib.rs 1001; since request 2.8 a tuple has a number of members, as many as there are outputs
unfoldable pub outputs_type : List Port → Ty
outputs_type [] = unit_type
outputs_type (o ∷ []) = o.1
outputs_type (o ∷ p ∷ ps) = Tuple (length (o ∷ p ∷ ps))

-- E0142, lib.rs 1270
unfoldable pub one_output : Note → List Port → Out Ty
one_output n [] = fail n
one_output n (o ∷ []) = return o.1
one_output n (o ∷ p ∷ ps) = fail n

-- a fold's accumulator and element, lib.rs 1354
unfoldable pub two_inputs : Note → List Port → Out (Ty × Ty)
two_inputs n [] = fail n
two_inputs n (a ∷ []) = fail n
two_inputs n (a ∷ b ∷ []) = return (a.1, b.1)
two_inputs n (a ∷ b ∷ c ∷ cs) = fail n

-- the length and the element type of an array
unfoldable pub array_type : Note → Ty → Out (ℕ × Ty)
array_type n (basic b) = fail n
array_type n (Array k t) = return (k, t)
array_type n (Named x) = fail n
array_type n (Tuple k) = fail n

unfoldable pub element_of : Ty → Option Ty
element_of (basic b) = none
element_of (Array k t) = some t
element_of (Named x) = none
element_of (Tuple k) = none

unfoldable pub all_long : ℕ → List (ℕ × Ty) → Bool
all_long n [] = true
all_long n (a ∷ as') = eqb a.0 n && all_long n as'

unfoldable pub same_lengths : List (ℕ × Ty) → Bool
same_lengths [] = true
same_lengths (a ∷ as') = all_long a.0 as'

unfoldable pub first_length : List (ℕ × Ty) → ℕ
first_length [] = 0
first_length (a ∷ as') = a.0

-- a record's fields that a struct value does not give, E0128, lib.rs 1173
unfoldable pub missing : ℕ → List Port → List Name → List Note
missing at [] given = []
missing at (f ∷ fs) given = if f.0 among given then missing at fs given else named at 128 f.0 ∷ missing at fs given

module _ (Γ : Scope) where
  abbrev pub res : Ty → Ty
  res t = resolve Γ.alias t

  abbrev pub agrees : Ty → Ty → Bool
  agrees a b = compatible Γ.alias a b

  -- a note where a type was found that is not the one wanted
  unfoldable pub unless_agrees : Ty → Option Ty → Note → List Note
  unless_agrees want none n = []
  unless_agrees want (some t) n = if agrees want t then [] else n ∷ []

  -- lib.rs 730: the target is not resolved
  unfoldable pub cast_of : ℕ → Ty → Ty → Out Ty
  cast_of at to a = do
    require (is_numeric (res a)) (plain at 93)
    require (is_numeric to) (plain at 94)
    return to

  unfoldable pub cast_rule : ℕ → Ty → Typing → Typing
  cast_rule at to arg hint = do
    a ← arg none
    cast_of at to a

  -- lib.rs 754: ports and locals, then constants, then variants
  unfoldable pub var_rule : ℕ → Name → Out Ty
  var_rule at x =
      if_found (Γ.port x) return
      (if_found (Γ.constant x) return
      (if_found (Γ.variant x) (λ e. return (Named e))
      (fail (named at 80 x))))

  -- lib.rs 770: `not`, and minus
  unfoldable pub unary_of : ℕ → UnaryOp → Ty → Out Ty
  unary_of at Not a = do
    require (is_bool (res a)) (plain at 81)
    return Boolean
  unary_of at Neg a = do
    require (is_numeric (res a)) (plain at 82)
    return a

  unfoldable pub unary_plain : ℕ → UnaryOp → Typing → Typing
  unary_plain at o arg hint = do
    a ← arg hint
    unary_of at o a

  -- lib.rs 773: a minus directly on an integer literal is a signed literal, whose step is the minus's
  unfoldable pub unary_rule : ℕ → UnaryOp → Form → Typing → Typing
  unary_rule at Not f arg = unary_plain at Not arg
  unary_rule at Neg (integer v) arg = λ hint. literal_rule at (integer_type Γ.alias (neg_ℤ v) hint)
  unary_rule at Neg temporal arg = unary_plain at Neg arg
  unary_rule at Neg iterator arg = unary_plain at Neg arg
  unary_rule at Neg (calling f) arg = unary_plain at Neg arg
  unary_rule at Neg other arg = unary_plain at Neg arg

  -- lib.rs 805
  unfoldable pub operands : ℕ → OpClass → Ty → Ty → Out Ty
  operands at c l r = do
    require (meets c (res l) (res r)) (plain at (fault c))
    return (gives c l)

  unfoldable pub binary_rule : ℕ → OpClass → Typing → Typing → Typing
  binary_rule at c left right hint = do
    l ← left (sub_hint c hint)
    r ← right (right_hint l (sub_hint c hint))
    operands at c l r

  -- two parts that must agree, the second hinted by the first: the branches of `if` and `merge`, the sides of `->`
  unfoldable pub agree_rule : ℕ → ℕ → Ty → Ty → Out Ty
  agree_rule at code a b = do
    require (agrees a b) (plain at code)
    return a

  unfoldable pub both : ℕ → ℕ → Typing → Typing → Typing
  both at code first second hint = do
    a ← first hint
    b ← second (or_else hint a)
    agree_rule at code a b

  -- lib.rs 901
  unfoldable pub if_rule : ℕ → Typing → Typing → Typing → Typing
  if_rule at cond first second hint = do
    c ← cond (some Boolean)
    require (is_bool (res c)) (plain at 90)
    both at 91 first second hint

  -- lib.rs 983
  unfoldable pub argument : ℕ → Name → Typing → Ty → Out (Unit {0})
  argument at f a want = do
    t ← try (a (some want))
    add (unless_agrees want t (named at 103 f))

  unfoldable pub arguments : ℕ → Name → List Typing → List Port → Out (Unit {0})
  arguments at f [] ps = return tt
  arguments at f (a ∷ as') [] = return tt
  arguments at f (a ∷ as') (p ∷ ps) = do
    argument at f a p.1
    arguments at f as' ps

  -- lib.rs 1007: the field of a resolved type. A tuple and a unit are named types in the Rust that no record declares
  unfoldable pub field_of : ℕ → Name → Ty → Out Ty
  field_of at x (basic b) = fail (named at (if leb 34 b then 121 else 122) x)
  field_of at x (Array n t) = fail (named at 122 x)
  field_of at x (Tuple n) = fail (named at 121 x)
  field_of at x (Named r) = if_found (Γ.fields r) (λ fields. if_found (find x fields) return (fail (named at 120 x))) (fail (named at 121 x))

  unfoldable pub field_rule : ℕ → Name → Typing → Typing
  field_rule at x base hint = do
    b ← base none
    field_of at x (res b)

  -- lib.rs 1052
  unfoldable pub index_of : ℕ → Ty → Ty → Out Ty
  index_of at b i = do
    add (if is_integer (res i) then [] else plain at 111 ∷ [])
    a ← array_type (plain at 110) (res b)
    return a.1

  unfoldable pub index_rule : ℕ → Typing → Typing → Typing
  index_rule at base place hint = do
    b ← base none
    i ← place (some Int32)
    index_of at b i

  -- lib.rs 1092
  unfoldable pub element_hint : Option Ty → Option Ty
  element_hint none = none
  element_hint (some h) = element_of (res h)

  unfoldable pub item : ℕ → Ty → Typing → Option Ty → Out (Unit {0})
  item at first i h = do
    t ← i h
    require (agrees first t) (plain at 124)

  unfoldable pub items : ℕ → Ty → List Typing → Option Ty → Out (Unit {0})
  items at first [] h = return tt
  items at first (i ∷ is) h = do
    item at first i h
    items at first is h

  unfoldable pub empty_array : ℕ → Option Ty → Out Ty
  empty_array at none = fail (plain at 123)
  empty_array at (some e) = return (Array 0 e)

  -- lib.rs 1090
  unfoldable pub array_rule : ℕ → List Typing → Typing
  array_rule at [] hint = empty_array at (element_hint hint)
  array_rule at (i ∷ is) hint = do
    t ← i (element_hint hint)
    items at t is (element_hint hint)
    return (Array (suc (length is)) t)

  -- lib.rs 1135: the name that a struct value's name resolves to, or the written one
  unfoldable pub resolved_name : Name → Ty → Name
  resolved_name n (basic b) = n
  resolved_name n (Array k t) = n
  resolved_name n (Named r) = r
  resolved_name n (Tuple k) = n

  unfoldable pub struct_name : Name → Name
  struct_name n = resolved_name n (res (Named n))

  -- lib.rs 1141
  unfoldable pub value : ℕ → Name → Typing → Option Ty → Out (Unit {0})
  value at x v none = add (named at 126 x ∷ [])
  value at x v (some want) = do
    t ← try (v (some want))
    add (unless_agrees want t (named at 127 x))

  unfoldable pub values : ℕ → List Port → List (Name × Typing) → Out (Unit {0})
  values at fields [] = return tt
  values at fields (v ∷ vs) = do
    value at v.0 v.1 (find v.0 fields)
    values at fields vs

  unfoldable pub struct_of : ℕ → Name → List (Name × Typing) → List Port → Out Ty
  struct_of at r vs fields = do
    values at fields vs
    add (missing at fields (map (λ v. v.0) vs))
    return (Named r)

  -- lib.rs 1134
  unfoldable pub struct_rule : ℕ → Name → List (Name × Typing) → Typing
  struct_rule at r vs hint = if_found (Γ.fields r) (struct_of at r vs) (fail (named at 125 r))

  -- `check_clock_var_is_bool`, lib.rs 1449: among ports and locals alone
  unfoldable pub clock_of : ℕ → Name → Option Ty → List Note
  clock_of at c none = named at 80 c ∷ []
  clock_of at c (some t) = if is_bool (res t) then [] else named at 130 c ∷ []

  unfoldable pub clock : ℕ → Name → List Note
  clock at c = clock_of at c (Γ.port c)

  -- lib.rs 1199
  unfoldable pub when_rule : ℕ → Name → Typing → Typing
  when_rule at c arg hint = do
    add (clock at c)
    arg hint

  -- lib.rs 1204
  unfoldable pub merge_rule : ℕ → Name → Typing → Typing → Typing
  merge_rule at c first second hint = do
    add (clock at c)
    both at 131 first second hint

  -- lib.rs 1285: an iterator's array
  unfoldable pub operand : ℕ → Typing → Out (ℕ × Ty)
  operand at a = do
    t ← a none
    array_type (plain at 143) (res t)

  unfoldable pub arrays : ℕ → List Typing → Out (List (ℕ × Ty))
  arrays at [] = return []
  arrays at (a ∷ as') = do
    one ← operand at a
    rest ← arrays at as'
    return (one ∷ rest)

  -- lib.rs 1334
  unfoldable pub inputs_agree : List Port → List (ℕ × Ty) → Bool
  inputs_agree [] as' = true
  inputs_agree (p ∷ ps) [] = true
  inputs_agree (p ∷ ps) (a ∷ as') = agrees p.1 a.1 && inputs_agree ps as'

  -- lib.rs 1380
  unfoldable pub seed_agrees : ℕ → Ty → Option Ty → Out (Unit {0})
  seed_agrees at acc none = return tt
  seed_agrees at acc (some s) = require (agrees acc s) (plain at 145)

  unfoldable pub seed_rule : ℕ → Ty → Option Typing → Out (Unit {0})
  seed_rule at acc none = return tt
  seed_rule at acc (some seed) = do
    t ← try (seed (some acc))
    seed_agrees at acc t

  -- lib.rs 1399: the first array's elements alone
  unfoldable pub element_rule : ℕ → Ty → List (ℕ × Ty) → Out (Unit {0})
  element_rule at want [] = return tt
  element_rule at want (a ∷ as') = require (agrees want a.1) (plain at 145)

  -- lib.rs 1318 and 1352
  unfoldable pub iterate_as : IterKind → ℕ → List Port → Option Typing → List (ℕ × Ty) → Ty → Out Ty
  iterate_as Map at inputs seed as' out = do
    require (eqb (length inputs) (length as')) (plain at 145)
    require (inputs_agree inputs as') (plain at 145)
    return (Array (first_length as') out)
  iterate_as Fold at inputs seed as' out = do
    two ← two_inputs (plain at 145) inputs
    require (agrees two.0 out) (plain at 145)
    seed_rule at two.0 seed
    element_rule at two.1 as'
    return out

  -- lib.rs 1257 to 1316
  unfoldable pub iterate_of : ℕ → IterKind → Name → Option Typing → List Typing → Heading → Out Ty
  iterate_of at k f seed operands' sig = do
    require (is_function sig.kind) (named at 141 f)
    out ← one_output (named at 142 f) sig.outputs
    as' ← arrays at operands'
    require (same_lengths as') (plain at 144)
    iterate_as k at sig.inputs seed as' out

  -- lib.rs 1233
  unfoldable pub iterate_rule : ℕ → IterKind → Name → Option Typing → List Typing → Typing
  iterate_rule at k f seed operands' hint = if_found (Γ.node f) (iterate_of at k f seed operands') (fail (named at 140 f))

-- `function`: whether the node is a function
module _ (Γ : Scope) (function : Bool) where
  -- lib.rs 956 to 1005
  unfoldable pub call_of : ℕ → Name → List Typing → Heading → Out Ty
  call_of at f args sig = do
    add (if function && is_operator sig.kind then named at 101 f ∷ [] else [])
    require (eqb (length args) (length sig.inputs)) (named at 102 f)
    arguments Γ at f args sig.inputs
    return (outputs_type sig.outputs)

  -- lib.rs 948
  unfoldable pub call_rule : ℕ → Name → List Typing → Typing
  call_rule at f args hint = if_found (Γ.node f) (call_of at f args) (fail (named at 100 f))

  -- the expression at a step
  unfoldable mutual
    pub infer : ℕ → Expr → Typing
    infer at (const l w) = λ hint. literal_rule at (literal_type Γ.alias l w hint)
    infer at (var x) = λ hint. var_rule Γ at x
    infer at (unary o e) = unary_rule Γ at o (form e) (infer (at + 1) e)
    infer at (binary o l r) = binary_rule Γ at (op_class o) (infer (at + 1) l) (infer (at + 1 + size l) r)
    infer at (ite c t e) = if_rule Γ at (infer (at + 1) c) (infer (at + 1 + size c) t) (infer (at + 1 + size c + size t) e)
    infer at (pre e) = infer (at + 1) e
    infer at (arrow i b) = both Γ at 92 (infer (at + 1) i) (infer (at + 1 + size i) b)
    infer at (call f es) = call_rule at f (infers (at + 2) es)
    infer at (field x e) = field_rule Γ at x (infer (at + 1) e)
    infer at (index b i) = index_rule Γ at (infer (at + 1) b) (infer (at + 1 + size b) i)
    infer at (tuple es) = λ hint. return (Tuple (count es))
    infer at (array es) = array_rule Γ at (infers (at + 1) es)
    infer at (struct n is) = struct_rule Γ at (struct_name Γ n) (infersⁱ (at + 2) is)
    infer at (cast t e) = cast_rule Γ at t (infer (at + 1 + levels t) e)
    infer at (when on c e) = when_rule Γ at c (infer (at + 1) e)
    infer at (merge c t f) = merge_rule Γ at c (infer (at + 1) t) (infer (at + 1 + size t) f)
    infer at (iterate k f es) = iterate_rule Γ at k f none (infers (at + 2) es)
    infer at (iterate_from k f s es) = iterate_rule Γ at k f (some (infer (at + 1) s)) (infers (at + 2 + size s) es)

    pub infers : ℕ → Exprs → List Typing
    infers at []ᵉ = []
    infers at (e ∷ᵉ es) = infer at e ∷ infers (at + size e) es

    pub infersⁱ : ℕ → Inits → List (Name × Typing)
    infersⁱ at []ⁱ = []
    infersⁱ at (init x e is) = (x, infer (at + 1) e) ∷ infersⁱ (at + 1 + size e) is
