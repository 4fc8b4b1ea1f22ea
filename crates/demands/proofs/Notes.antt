-- Every note of inference has a code of inference's and a known name, and inference that gives no type has added a note: rule by rule.
-- Assumes nothing.
use Rattle.std.specs.Prelude.{if◌then◌else◌}
use Prim.Native.Nat.{ℕ, zero, suc, ◌+◌}
use mathlib.Core.Path.{◌≡◌, refl}
use mathlib.Core.Bool.{Bool, true, false}
use mathlib.Core.List.{List, [], ◌∷◌, ◌++◌}
use mathlib.Core.Option.{Option, none, some}
use lib.Dec.{leb}
use borrow.Author.Tests.{leb-true}
use Rattle.lustre.specs.Name.{Name, ◌among◌}
use Rattle.lustre.specs.Types.{Ty, basic, Array, Named, Tuple}
use Rattle.lustre.specs.Expr.{Expr, Exprs, Inits, UnaryOp, Not, Neg, IterKind, Map, Fold, OpClass, Logic, Equality, Order, Arithmetic, Bitwise, Form, integer, temporal, iterator, calling, other, form}
use Rattle.lustre.specs.Expr.{const, var, unary, binary, ite, pre, arrow, call, field, index, tuple, array, struct, cast, when, merge, iterate, iterate_from, []ᵉ, ◌∷ᵉ◌, []ⁱ, init}
use Rattle.lustre.specs.Project.{Port}
use Rattle.lustre.specs.Line.{Note, Out, plain, named, return, fail, add, require, try, ◌>>=◌, ◌>>◌}
use Rattle.lustre.specs.Resolve.{Scope, array_of, follow_alias, try_resolve, or_itself, resolve}
use Rattle.lustre.specs.Infer.{Typing, if_found, fault, literal_rule, one_output, two_inputs, array_type, missing, unless_agrees, cast_of, cast_rule, var_rule, unary_of, unary_plain, unary_rule, operands, binary_rule, agree_rule, both, if_rule, argument, arguments, field_of, field_rule, index_of, index_rule, item, items, empty_array, array_rule, resolved_name, struct_name, value, values, struct_of, struct_rule, clock_of, clock, when_rule, merge_rule, operand, arrays, seed_agrees, seed_rule, element_rule, iterate_as, iterate_of, iterate_rule, call_of, call_rule, infer, infers, infersⁱ}
use Rattle.demands.specs.Reading.{Each}
use Rattle.demands.proofs.Known.{KnownType, KnownExpr, KnownExprs, KnownInits, KnownPorts, KnownScope, Fine}
use Rattle.demands.proofs.Eaches.{IfSome, each_append, each_if}

-- some answer, or some note
abbrev pub Told : {A : Type 0} → Option A → List Note → Type 0
Told (some a) ns = Unit {0}
Told none [] = ⊥
Told none (n ∷ ns) = Unit {0}

-- notes in front take nothing away
told_after : {A : Type 0} (o : Option A) (ms ns : List Note) → Told o ns → Told o (ms ++ ns)
told_after (some a) ms ns h = tt
told_after none [] ns h = h
told_after none (m ∷ ms) ns h = tt

-- the code of a field's note, whichever it is
field_code : (b : ℕ) → leb 80 (if leb 34 b then 121 else 122) ≡ true
field_code b = go (leb 34 b)
  where
    go : (t : Bool) → leb 80 (if t then 121 else 122) ≡ true
    go true = refl
    go false = refl

module _ (K : Name → Type 0) where
  abbrev AllFine : List Note → Type 0
  AllFine ns = Each (Fine K) ns

  -- an answer or a note, and fine notes
  pub record Says {A : Type 0} (o : Out A) : Type 0 where
    pub told : Told o.0 o.1
    pub fine : AllFine o.1

  -- a code is held against 80 by a test, which computes
  fine_plain : (at c : ℕ) → leb 80 c ≡ true → Fine K (plain at c)
  fine_plain at c h = record { above = leb-true 80 c h; known = tt }

  fine_named : (at c : ℕ) (x : Name) → leb 80 c ≡ true → K x → Fine K (named at c x)
  fine_named at c x h k = record { above = leb-true 80 c h; known = k }

  says_return : {A : Type 0} (a : A) → Says (return a)
  unfolding return
  says_return a = record { told = tt; fine = tt }

  says_fail : {A : Type 0} (n : Note) → Fine K n → Says (fail {A = A} n)
  unfolding fail
  says_fail n h = record { told = tt; fine = (h, tt) }

  says_add : (ns : List Note) → AllFine ns → Says (add ns)
  unfolding add
  says_add ns h = record { told = tt; fine = h }

  says_try : {A : Type 0} (o : Out A) → Says o → Says (try o)
  unfolding try
  says_try o h = record { told = tt; fine = h.fine }

  says_require : (b : Bool) (n : Note) → Fine K n → Says (require b n)
  unfolding require
  says_require true n h = record { told = tt; fine = tt }
  says_require false n h = record { told = tt; fine = (h, tt) }

  says_bind : {A B : Type 0} (m : Out A) (f : A → Out B) → Says m → ((a : A) → Says (f a)) → Says (m >>= f)
  unfolding ◌>>=◌
  says_bind {A} {B} m f h k = go m.0 m.1 h.told h.fine
    where
      go : (o : Option A) (ns : List Note) → Told o ns → AllFine ns → Says {A = B} (elim o [ none ↦ (none, ns) | some a ↦ ((f a).0, ns ++ (f a).1) ])
      go none [] t e = absurd t
      go none (n ∷ ns) t e = record { told = tt; fine = e }
      go (some a) ns t e = record { told = told_after (f a).0 ns (f a).1 (k a).told; fine = each_append (Fine K) ns (f a).1 e (k a).fine }

  says_then : {A B : Type 0} (m : Out A) (k : Out B) → Says m → Says k → Says (m >> k)
  unfolding ◌>>◌
  says_then m k h t = says_bind m (λ _. k) h (λ _. t)

  -- by cases on a lookup
  says_found : {A B : Type 0} (o : Option A) (f : A → Out B) (k : Out B) → ((a : A) → o ≡ some a → Says (f a)) → Says k → Says (if_found o f k)
  unfolding if_found
  says_found none f k h t = t
  says_found (some a) f k h t = h a refl

  -- by these a rule's text alone shows that it says
  ruleset saying = (fine_plain, fine_named, each_if, says_return, says_fail, says_add, says_try, says_require, says_bind, says_then, says_found)

  -- a typing says whatever its hint
  abbrev Saying : Typing → Type 0
  Saying t = (hint : Option Ty) → Says (t hint)

  literal_says : (at : ℕ) (t : Option Ty) → Says (literal_rule at t)
  unfolding literal_rule
  literal_says at t = search saying

  one_says : (n : Note) (ps : List Port) → Fine K n → Says (one_output n ps)
  unfolding one_output
  one_says n [] h = search saying
  one_says n (o ∷ []) h = search saying
  one_says n (o ∷ p ∷ ps) h = search saying

  two_says : (n : Note) (ps : List Port) → Fine K n → Says (two_inputs n ps)
  unfolding two_inputs
  two_says n [] h = search saying
  two_says n (o ∷ []) h = search saying
  two_says n (o ∷ p ∷ []) h = search saying
  two_says n (o ∷ p ∷ q ∷ ps) h = search saying

  array_type_says : (n : Note) (t : Ty) → Fine K n → Says (array_type n t)
  unfolding array_type
  array_type_says n (basic b) h = search saying
  array_type_says n (Array k t) h = search saying
  array_type_says n (Named x) h = search saying
  array_type_says n (Tuple k) h = search saying

  -- the fields that a struct value lacks are a record's
  missing_fine : (at : ℕ) (fs : List Port) (given : List Name) → KnownPorts K fs → AllFine (missing at fs given)
  unfolding missing
  missing_fine at [] given h = tt
  missing_fine at (f ∷ fs) given h = let ih = missing_fine at fs given h.1 in let k = h.0.0 in search saying

  fault_fine : (at : ℕ) (c : OpClass) → Fine K (plain at (fault c))
  unfolding fault
  fault_fine at Logic = search saying
  fault_fine at Equality = search saying
  fault_fine at Order = search saying
  fault_fine at Arithmetic = search saying
  fault_fine at Bitwise = search saying

  -- what an array, an alias or a type that does not resolve comes to is known
  known_array : (n : ℕ) (o : Option Ty) → IfSome (KnownType K) o → IfSome (KnownType K) (array_of n o)
  unfolding array_of KnownType
  known_array n none h = tt
  known_array n (some t) h = h

  known_alias : (x : Name) (g : Ty → Option Ty) (o : Option Ty) → K x → ((t : Ty) → o ≡ some t → IfSome (KnownType K) (g t)) → IfSome (KnownType K) (follow_alias x g o)
  unfolding follow_alias KnownType
  known_alias x g none k h = k
  known_alias x g (some t) k h = h t refl

  known_unless : (b : Bool) (o : Option Ty) → IfSome (KnownType K) o → IfSome (KnownType K) (elim b [ true ↦ none | false ↦ o ])
  known_unless true o h = tt
  known_unless false o h = h

  known_or_itself : (t : Ty) (o : Option Ty) → KnownType K t → IfSome (KnownType K) o → KnownType K (or_itself t o)
  unfolding or_itself
  known_or_itself t none k h = k
  known_or_itself t (some r) k h = h

  module _ (Γ : Scope) (in_scope : KnownScope K Γ) where
    unless_fine : (want : Ty) (o : Option Ty) (n : Note) → Fine K n → AllFine (unless_agrees Γ want o n)
    unfolding unless_agrees
    unless_fine want none n h = search saying
    unless_fine want (some t) n h = search saying

    cast_says : (at : ℕ) (to : Ty) (arg : Typing) → Saying arg → Saying (cast_rule Γ at to arg)
    unfolding cast_rule cast_of
    cast_says at to arg h hint = search saying

    var_says : (at : ℕ) (x : Name) → K x → Says (var_rule Γ at x)
    unfolding var_rule
    var_says at x k = search saying

    unary_of_says : (at : ℕ) (o : UnaryOp) (a : Ty) → Says (unary_of Γ at o a)
    unfolding unary_of
    unary_of_says at Not a = search saying
    unary_of_says at Neg a = search saying

    unary_plain_says : (at : ℕ) (o : UnaryOp) (arg : Typing) → Saying arg → Saying (unary_plain Γ at o arg)
    unfolding unary_plain
    unary_plain_says at o arg h hint = search (saying, unary_of_says)

    unary_says : (at : ℕ) (o : UnaryOp) (f : Form) (arg : Typing) → Saying arg → Saying (unary_rule Γ at o f arg)
    unfolding unary_rule
    unary_says at Not f arg h = unary_plain_says at Not arg h
    unary_says at Neg (integer v) arg h = λ hint. literal_says at _
    unary_says at Neg temporal arg h = unary_plain_says at Neg arg h
    unary_says at Neg iterator arg h = unary_plain_says at Neg arg h
    unary_says at Neg (calling g) arg h = unary_plain_says at Neg arg h
    unary_says at Neg other arg h = unary_plain_says at Neg arg h

    binary_says : (at : ℕ) (c : OpClass) (left right : Typing) → Saying left → Saying right → Saying (binary_rule Γ at c left right)
    unfolding binary_rule operands
    binary_says at c left right h k hint = search (saying, fault_fine)

    both_says : (at code : ℕ) (first second : Typing) → leb 80 code ≡ true → Saying first → Saying second → Saying (both Γ at code first second)
    unfolding both agree_rule
    both_says at code first second c h k hint = search saying

    if_says : (at : ℕ) (cond first second : Typing) → Saying cond → Saying first → Saying second → Saying (if_rule Γ at cond first second)
    unfolding if_rule
    if_says at cond first second g h k hint = search (saying, both_says)

    arguments_say : (at : ℕ) (f : Name) → K f → (ts : List Typing) (ps : List Port) → Each Saying ts → Says (arguments Γ at f ts ps)
    unfolding arguments argument
    arguments_say at f k [] ps h = search saying
    arguments_say at f k (t ∷ ts) [] h = search saying
    arguments_say at f k (t ∷ ts) (p ∷ ps) h = let ih = arguments_say at f k ts ps h.1 in let ht = h.0 in search (saying, unless_fine)

    field_of_says : (at : ℕ) (x : Name) → K x → (t : Ty) → Says (field_of Γ at x t)
    unfolding field_of
    field_of_says at x k (basic b) = search (saying, field_code)
    field_of_says at x k (Array n t) = search saying
    field_of_says at x k (Named r) = search saying
    field_of_says at x k (Tuple n) = search saying

    field_says : (at : ℕ) (x : Name) (base : Typing) → K x → Saying base → Saying (field_rule Γ at x base)
    unfolding field_rule
    field_says at x base k h hint = search (saying, field_of_says)

    index_says : (at : ℕ) (base place : Typing) → Saying base → Saying place → Saying (index_rule Γ at base place)
    unfolding index_rule index_of
    index_says at base place h k hint = search (saying, array_type_says) depth 8

    items_say : (at : ℕ) (first : Ty) (ts : List Typing) → Each Saying ts → (h : Option Ty) → Says (items Γ at first ts h)
    unfolding items item
    items_say at first [] all h = search saying
    items_say at first (t ∷ ts) all h = let ih = items_say at first ts all.1 h in let ht = all.0 in search saying

    empty_array_says : (at : ℕ) (e : Option Ty) → Says (empty_array Γ at e)
    unfolding empty_array
    empty_array_says at none = search saying
    empty_array_says at (some e) = search saying

    array_says : (at : ℕ) (ts : List Typing) → Each Saying ts → Saying (array_rule Γ at ts)
    unfolding array_rule
    array_says at [] all hint = search empty_array_says
    array_says at (t ∷ ts) all hint = let hs = all.1 in let ht = all.0 in search (saying, items_say)

    -- the values of a struct: known names, and typings that say
    abbrev Given : List (Name × Typing) → Type 0
    Given vs = Each (λ (v : Name × Typing). K v.0 × Saying v.1) vs

    value_says : (at : ℕ) (x : Name) (v : Typing) (want : Option Ty) → K x → Saying v → Says (value Γ at x v want)
    unfolding value
    value_says at x v none k h = search saying
    value_says at x v (some want) k h = search (saying, unless_fine)

    values_say : (at : ℕ) (fs : List Port) (vs : List (Name × Typing)) → Given vs → Says (values Γ at fs vs)
    unfolding values
    values_say at fs [] h = search saying
    values_say at fs (v ∷ vs) h = let ih = values_say at fs vs h.1 in let k = h.0.0 in let hv = h.0.1 in search (saying, value_says)

    struct_says : (at : ℕ) (r : Name) (vs : List (Name × Typing)) → K r → Given vs → Saying (struct_rule Γ at r vs)
    unfolding struct_rule struct_of
    struct_says at r vs k h hint = search (saying, values_say, missing_fine, in_scope.fields) depth 6

    clock_fine : (at : ℕ) (c : Name) (o : Option Ty) → K c → AllFine (clock_of Γ at c o)
    unfolding clock_of
    clock_fine at c none k = search saying
    clock_fine at c (some t) k = search saying

    when_says : (at : ℕ) (c : Name) (arg : Typing) → K c → Saying arg → Saying (when_rule Γ at c arg)
    unfolding when_rule clock
    when_says at c arg k h hint = search (saying, clock_fine)

    merge_says : (at : ℕ) (c : Name) (first second : Typing) → K c → Saying first → Saying second → Saying (merge_rule Γ at c first second)
    unfolding merge_rule clock
    merge_says at c first second k h g hint = search (saying, clock_fine, both_says)

    arrays_say : (at : ℕ) (ts : List Typing) → Each Saying ts → Says (arrays Γ at ts)
    unfolding arrays operand
    arrays_say at [] all = search saying
    arrays_say at (t ∷ ts) all = let ih = arrays_say at ts all.1 in let ht = all.0 in search (saying, array_type_says)

    seed_agrees_says : (at : ℕ) (acc : Ty) (o : Option Ty) → Says (seed_agrees Γ at acc o)
    unfolding seed_agrees
    seed_agrees_says at acc none = search saying
    seed_agrees_says at acc (some s) = search saying

    seed_says : (at : ℕ) (acc : Ty) (seed : Option Typing) → IfSome Saying seed → Says (seed_rule Γ at acc seed)
    unfolding seed_rule
    seed_says at acc none h = search saying
    seed_says at acc (some seed) h = search (saying, seed_agrees_says)

    element_says : (at : ℕ) (want : Ty) (as' : List (ℕ × Ty)) → Says (element_rule Γ at want as')
    unfolding element_rule
    element_says at want [] = search saying
    element_says at want (a ∷ as') = search saying

    iterate_as_says : (k : IterKind) (at : ℕ) (ps : List Port) (seed : Option Typing) (as' : List (ℕ × Ty)) (out : Ty) → IfSome Saying seed → Says (iterate_as Γ k at ps seed as' out)
    unfolding iterate_as
    iterate_as_says Map at ps seed as' out h = search saying
    iterate_as_says Fold at ps seed as' out h = search (saying, two_says, seed_says, element_says) depth 9

    iterate_says : (at : ℕ) (k : IterKind) (f : Name) (seed : Option Typing) (ts : List Typing) → K f → IfSome Saying seed → Each Saying ts → Saying (iterate_rule Γ at k f seed ts)
    unfolding iterate_rule iterate_of
    iterate_says at k f seed ts kf h all hint = search (saying, one_says, arrays_say, iterate_as_says) depth 9

    -- what a known type resolves to is known
    known_try : (left : ℕ) (seen : List Name) (t : Ty) → KnownType K t → IfSome (KnownType K) (try_resolve Γ.alias left seen t)
    unfolding try_resolve KnownType
    known_try zero seen t k = tt
    known_try (suc left) seen (basic b) k = tt
    known_try (suc left) seen (Tuple n) k = tt
    known_try (suc left) seen (Array n t) k = known_array n (try_resolve Γ.alias left seen t) (known_try left seen t k)
    known_try (suc left) seen (Named x) k = known_alias x _ (Γ.alias x) k (λ t e. known_unless (x among seen) _ (known_try left (x ∷ seen) t (in_scope.alias x t e)))

    known_resolved_name : (n : Name) (t : Ty) → K n → KnownType K t → K (resolved_name Γ n t)
    unfolding resolved_name KnownType
    known_resolved_name n (basic b) k h = k
    known_resolved_name n (Array m t) k h = k
    known_resolved_name n (Named r) k h = h
    known_resolved_name n (Tuple m) k h = k

    -- the name of E0125: what the written name resolves to, or the written name
    known_struct_name : (n : Name) → K n → K (struct_name Γ n)
    unfolding struct_name resolve KnownType
    known_struct_name n k = known_resolved_name n _ k (known_or_itself (Named n) _ k (known_try 65 [] (Named n) k))

    module _ (function : Bool) where
      call_says : (at : ℕ) (f : Name) (ts : List Typing) → K f → Each Saying ts → Saying (call_rule Γ function at f ts)
      unfolding call_rule call_of
      call_says at f ts k all hint = search (saying, arguments_say) depth 6

      mutual
        unfolding infer infers infersⁱ KnownExpr KnownExprs KnownInits

        pub infer_says : (at : ℕ) (e : Expr) → KnownExpr K e → Saying (infer Γ function at e)
        infer_says at (const l w) k = λ hint. literal_says at _
        infer_says at (var x) k = λ hint. var_says at x k
        infer_says at (unary o e) k = unary_says at o (form e) _ (infer_says _ e k)
        infer_says at (binary o l r) k = binary_says at _ _ _ (infer_says _ l k.0) (infer_says _ r k.1)
        infer_says at (ite c t e) k = if_says at _ _ _ (infer_says _ c k.0) (infer_says _ t k.1) (infer_says _ e k.2)
        infer_says at (pre e) k = infer_says _ e k
        infer_says at (arrow i b) k = both_says at 92 _ _ refl (infer_says _ i k.0) (infer_says _ b k.1)
        infer_says at (call f es) k = call_says at f _ k.0 (infers_say _ es k.1)
        infer_says at (field x e) k = field_says at x _ k.0 (infer_says _ e k.1)
        infer_says at (index b i) k = index_says at _ _ (infer_says _ b k.0) (infer_says _ i k.1)
        infer_says at (tuple es) k = λ hint. search saying
        infer_says at (array es) k = array_says at _ (infers_say _ es k)
        infer_says at (struct n is) k = struct_says at _ _ (known_struct_name n k.0) (infersⁱ_say _ is k.1)
        infer_says at (cast t e) k = cast_says at t _ (infer_says _ e k.1)
        infer_says at (when on c e) k = when_says at c _ k.0 (infer_says _ e k.1)
        infer_says at (merge c t f) k = merge_says at c _ _ k.0 (infer_says _ t k.1) (infer_says _ f k.2)
        infer_says at (iterate i f es) k = iterate_says at i f none _ k.0 tt (infers_say _ es k.1)
        infer_says at (iterate_from i f s es) k = iterate_says at i f (some (infer Γ function (at + 1) s)) _ k.0 (infer_says _ s k.1) (infers_say _ es k.2)

        infers_say : (at : ℕ) (es : Exprs) → KnownExprs K es → Each Saying (infers Γ function at es)
        infers_say at []ᵉ k = tt
        infers_say at (e ∷ᵉ es) k = (infer_says at e k.0, infers_say _ es k.1)

        infersⁱ_say : (at : ℕ) (is : Inits) → KnownInits K is → Given (infersⁱ Γ function at is)
        infersⁱ_say at []ⁱ k = tt
        infersⁱ_say at (init x e is) k = ((k.0, infer_says _ e k.1), infersⁱ_say _ is k.2)

-- every note of inference is fine
pub infer_fine : (K : Name → Type 0) (Γ : Scope) → KnownScope K Γ → (function : Bool) (at : ℕ) (e : Expr) → KnownExpr K e → (hint : Option Ty) → Each (Fine K) (infer Γ function at e hint).1
infer_fine K Γ g function at e k hint = (infer_says K Γ g function at e k hint).fine

-- Where every name is known, everything is.
abbrev pub Any : Name → Type 0
Any x = Unit {0}

any_type : (t : Ty) → KnownType Any t
unfolding KnownType
any_type (basic b) = tt
any_type (Array n t) = any_type t
any_type (Named x) = tt
any_type (Tuple n) = tt

any_ports : (ps : List Port) → KnownPorts Any ps
any_ports [] = tt
any_ports (p ∷ ps) = ((tt, any_type p.1), any_ports ps)

mutual
  unfolding KnownExpr KnownExprs KnownInits

  pub any_expr : (e : Expr) → KnownExpr Any e
  any_expr (const l w) = tt
  any_expr (var x) = tt
  any_expr (unary o e) = any_expr e
  any_expr (binary o a b) = (any_expr a, any_expr b)
  any_expr (ite c a b) = (any_expr c, any_expr a, any_expr b)
  any_expr (pre e) = any_expr e
  any_expr (arrow a b) = (any_expr a, any_expr b)
  any_expr (call f es) = (tt, any_exprs es)
  any_expr (field x e) = (tt, any_expr e)
  any_expr (index a b) = (any_expr a, any_expr b)
  any_expr (tuple es) = any_exprs es
  any_expr (array es) = any_exprs es
  any_expr (struct x is) = (tt, any_inits is)
  any_expr (cast t e) = (any_type t, any_expr e)
  any_expr (when on c e) = (tt, any_expr e)
  any_expr (merge c a b) = (tt, any_expr a, any_expr b)
  any_expr (iterate k f es) = (tt, any_exprs es)
  any_expr (iterate_from k f s es) = (tt, any_expr s, any_exprs es)

  any_exprs : (es : Exprs) → KnownExprs Any es
  any_exprs []ᵉ = tt
  any_exprs (e ∷ᵉ es) = (any_expr e, any_exprs es)

  any_inits : (is : Inits) → KnownInits Any is
  any_inits []ⁱ = tt
  any_inits (init x e is) = (tt, any_expr e, any_inits is)

pub any_scope : (Γ : Scope) → KnownScope Any Γ
any_scope Γ = record { alias = λ x t e. any_type t; fields = λ x fs e. any_ports fs }
