-- What each construct asks of the calls on its parts, and what their answers say of the whole.
-- Lists of parts have files of their own: Arguments, ItemLaws, ValueLaws, ArrayLaws, Iterators.
-- Assumes nothing.
use Prim.Native.Nat.{ℕ, ◌+◌, ◌-◌, ◌<◌, ◌≤◌, max}
use native.Mathlib.Omega.{arith}
use native.Mathlib.Decide.{dec_lt}
use mathlib.Core.Path.{◌≡◌, refl, sym, ap, subst, ◌∙◌}
use mathlib.Core.Bool.{Bool, true, false, ◌&&◌}
use mathlib.Core.Option.{Option, none, some}
use lib.Dec.{eqb}
use lib.ListN.{length, get_or}
use lib.IntN.{ℤ}
use borrow.Author.Tests.{eqb-true}
use Rattle.std.specs.Prelude as code
use Rattle.std.specs.Prelude.{Some, None, IfSome}
use Rattle.std.specs.Option.{option_or}
use Rattle.lustre.specs.Types.{Ty, basic, levels, is_bool, is_integer}
use Rattle.lustre.specs.Expr.{Literal, bool, int, float, char, UnaryOp, Not, Neg, BinOp, op_class, Form, integer, temporal, iterator, calling, other, form, literal_form, size}
use Rattle.lustre.specs.Expr.{Expr, const, var, unary, binary, ite, pre, arrow, call, field, index, tuple, array, struct, cast, when, merge, iterate, iterate_from}
use Rattle.lustre.specs.Grammar.{literal_kind, unary_kind, when_kind, op_kind}
use Rattle.lustre.specs.Line.{return}
use Rattle.lustre.specs.Answer.{no_value}
use Rattle.lustre.specs.Resolve.{Scope}
use Rattle.lustre.specs.Literal.{literal_type, integer_type}
use Rattle.lustre.specs.Infer.{Typing, infer, res, or_else, sub_hint, right_hint, operands, agree_rule, binary_rule, both, if_rule, unary_of, unary_plain, unary_rule, var_rule, field_of, field_rule, index_of, index_rule, cast_of, cast_rule, clock, when_rule, merge_rule}
use Rattle.lustre.specs.declared.Records.{Records}
use Rattle.input.specs.Depths.{depth, ShallowCasts}
use Rattle.standing.specs.Standing.{Source, ExprAt}
use Rattle.standing.specs.Owed.{There}
use Rattle.standing.proofs.Inversions.{OnePart, TwoParts, ThreeParts, Cast, WithName, op_at, op_kind_at, expr_record, expr_kind, const_here, var_here, unary_here, binary_here, ite_here, pre_here, arrow_here, field_here, index_here, tuple_here, cast_here, when_here, merge_here}
use Rattle.standing.proofs.Sizes.{size_pos}
use Rattle.lines.specs.Lines.{Noted}
use Rattle.lines.specs.declared.Lines.{Lines}
use Rattle.lines.specs.declared.Spot.{Spot}
use Rattle.lines.proofs.Laws.{said_pass, said_add}
use Rattle.types.specs.Value.{Naming, asTy, bottom, Bottom}
use Rattle.types.specs.Number.{number_of, asHint}
use Rattle.types.specs.Place.{IsTypeAt, Read}
use Rattle.types.specs.declared.context.Context.{Context}
use Rattle.types.specs.declared.Typ.{Typ}
use Rattle.rules.specs.World.{WorldOf, source_of, Typed}
use Rattle.rules.specs.Post.{Given, Done, Concludes, Ruled, LiteralRuled, Inferring, Failed, HintIs, hint_levels}
use Rattle.rules.specs.Classes.{class_as}
use Rattle.rules.specs.declared.Class.{Class}
use Rattle.types.specs.declared.Typed as answer
use Rattle.rules.proofs.Laws.{false_true, go, stop, closed, closed_none, returned, refused, weaker, lower, at_end}
use Rattle.rules.proofs.Places.{type_there, read_is, read_next}
use Rattle.infer.specs.Post.{kind_at, Kind, GivenBoth, DoneBoth}
use Rattle.infer.proofs.Steps.{word_at, HintedOf, Whole, Ends, onward, onward_then, hint_none, hint_basic}

-- ---- forms

-- of the numbers that `op == 46` and `kind == 41` compare
both_true : (a b : Bool) → (a && b) ≡ true → (a ≡ true) × (b ≡ true)
both_true true true h = (refl, refl)
both_true true false h = false_true h
both_true false b h = false_true h

-- the literal of an integer is of kind 41
literal_integer : (l : Literal) (w : ℕ) (v : ℤ) → literal_form l w ≡ integer v → literal_kind l ≡ 41
unfolding literal_form
literal_integer bool w v h = cc
literal_integer int w v h = refl
literal_integer float w v h = cc
literal_integer char w v h = cc

-- an integer literal's record is of kind 41
integer_kind : (S : Source) (e : Expr) (at : ℕ) (v : ℤ) → ExprAt S e at → form e ≡ integer v → get_or S.ks at 0 ≡ 41
unfolding form ExprAt
integer_kind S (const l w) at v s h = s.0.kind ∙ literal_integer l w v h
integer_kind S (var x) at v s h = cc
integer_kind S (unary o e) at v s h = cc
integer_kind S (binary o a b) at v s h = cc
integer_kind S (ite c a b) at v s h = cc
integer_kind S (pre e) at v s h = cc
integer_kind S (arrow a b) at v s h = cc
integer_kind S (call f es) at v s h = cc
integer_kind S (field x e) at v s h = cc
integer_kind S (index a b) at v s h = cc
integer_kind S (tuple es) at v s h = cc
integer_kind S (array es) at v s h = cc
integer_kind S (struct x vs) at v s h = cc
integer_kind S (cast t e) at v s h = cc
integer_kind S (when on c e) at v s h = cc
integer_kind S (merge c a b) at v s h = cc
integer_kind S (iterate k f es) at v s h = cc
integer_kind S (iterate_from k f a es) at v s h = cc

-- a unary operator that is no minus on an integer literal
plainly : (Γ : Scope) (at : ℕ) (o : UnaryOp) (f : Form) (arg : Typing) (x : Option Ty) → (o ≡ Neg → (v : ℤ) → f ≡ integer v → ⊥) → unary_rule Γ at o f arg x ≡ unary_plain Γ at o arg x
unfolding unary_rule
plainly Γ at Not f arg x h = refl
plainly Γ at Neg (integer v) arg x h = absurd (h refl v refl)
plainly Γ at Neg temporal arg x h = refl
plainly Γ at Neg iterator arg x h = refl
plainly Γ at Neg (calling f) arg x h = refl
plainly Γ at Neg other arg x h = refl

-- ---- hints that a branch picks

-- y is what an operator hands its right operand, if l is the left type and x the left operand's hint
pub record RightHint (l : Typ) (x y : code.Option Typ) : Type 0 where
  pub holds : (ρ : Naming) → HintIs ρ (right_hint (asTy ρ l) (asHint ρ x)) (max l.levels (hint_levels x)) y

module _ {l : Typ} {x : code.Option Typ} {b : Bool} (fb : (ρ : Naming) → b ≡ is_integer (asTy ρ l)) where
  -- the left type, if it is an integer type
  pub right_type : b ≡ true → RightHint l x (Some l)
  unfolding right_hint
  right_type t = record { holds = λ ρ. record { is = rw (← fb ρ, t) refl; low = omega arith } }

  -- the left operand's hint, if not
  pub right_same : b ≡ false → RightHint l x x
  unfolding right_hint
  right_same f = record { holds = λ ρ. record { is = rw (← fb ρ, f) refl; low = omega arith } }

-- what the second of two parts gets, if x is the hint of both and l the first one's type
pub second_hint : (ρ : Naming) (l : Typ) (x : code.Option Typ) → HintIs ρ (or_else (asHint ρ x) (asTy ρ l)) (max l.levels (hint_levels x)) (option_or x (Some l))
unfolding or_else
second_hint ρ l None = record { is = refl; low = omega arith }
second_hint ρ l (Some t) = record { is = refl; low = omega arith }

-- ---- the place and its parts

module _ {ctx : Context} {side : Records} {at : ℕ} (g : Given ctx side at) where
  abbrev src : Source
  src = source_of side g.W.text

  pub inside : at < length side.kinds.now
  inside = (expr_record src g.e at g.stands).in_kinds

  pub inside_words : at < length side.words.now
  inside_words = (expr_record src g.e at g.stands).in_words

  pub kinds : (40 ≤ kind_at side at) × (kind_at side at ≤ 83)
  kinds = expr_kind src g.e at g.stands

  -- a kind below 44 is a literal's
  pub literal_here : kind_at side at < 44 → Kind literal_kind side at
  literal_here l = pick (dec_lt (kind_at side at) 41) (dec_lt (kind_at side at) 42) (dec_lt (kind_at side at) 43)
    where
      pick : Dec (kind_at side at < 41) → Dec (kind_at side at < 42) → Dec (kind_at side at < 43) → Kind literal_kind side at
      pick (yes x) b c = record { which = bool; is = omega (arith, kinds.0) }
      pick (no x) (yes y) c = record { which = int; is = omega arith }
      pick (no x) (no y) (yes z) = record { which = float; is = omega arith }
      pick (no x) (no y) (no z) = record { which = char; is = omega arith }

  -- the kinds of a unary operator and of a `when`
  pub unary_of_kind : 45 ≤ kind_at side at → kind_at side at ≤ 46 → Kind unary_kind side at
  unary_of_kind a b = pick (dec_lt (kind_at side at) 46)
    where
      pick : Dec (kind_at side at < 46) → Kind unary_kind side at
      pick (yes x) = record { which = Not; is = omega arith }
      pick (no x) = record { which = Neg; is = omega arith }

  pub when_of_kind : 77 ≤ kind_at side at → kind_at side at ≤ 78 → Kind when_kind side at
  when_of_kind a b = pick (dec_lt (kind_at side at) 78)
    where
      pick : Dec (kind_at side at < 78) → Kind when_kind side at
      pick (yes x) = record { which = true; is = omega arith }
      pick (no x) = record { which = false; is = omega arith }

  -- what `skip` asks
  abbrev pub there : There side.kinds.now side.words.now at
  there = record { text = g.W.text; e = g.e; stands = g.stands }

  -- a part one level below
  record Below (a : Expr) : Type 0 where
    pub deep : g.d + 1 + depth a ≤ 61
    pub casts : ShallowCasts a

  -- the whole's own hint
  own : (h : code.Option Typ) → HintIs g.W.text (asHint g.W.text h) (hint_levels h) h
  own h = record { is = refl; low = omega arith }

  -- a part a that stands at p, where the code finds it
  module _ {a : Expr} (i : Below a) {p : ℕ} (s : ExprAt src a p) {mid : ℕ} (e : mid ≡ p) where
    abbrev part : Given ctx side mid
    part = record { W = g.W; e = a; stands = rw e s; d = g.d + 1; top = omega arith; deep = i.deep; casts = i.casts }

    -- what the call on it said, under a hint
    said : {x : code.Option Typ} {y : Option Ty} {high : ℕ} → HintIs g.W.text y high x → {q : Spot} {l l' : Lines} {r : code.Option answer.Typed} → Inferring ctx side mid x q l r l'
        → Done g.W.number g.W.text q (infer g.W.Γ q.function p a y) (p + size a) (max (127 - g.d) high) l r l'
    said {x} {y} hx {q} {l} {l'} {r} d =
        lower {high₁ = max (128 - (g.d + 1)) (hint_levels x)} (omega (arith, hx.low))
        (rw hx.is at (subst (λ (j : ℕ). Done g.W.number g.W.text q (infer g.W.Γ q.function j a (asHint g.W.text x)) (j + size a) (max (128 - (g.d + 1)) (hint_levels x)) l r l') e (d part)))

  -- two parts one after the other
  module _ {a b : Expr} (i : Below a) (j : Below b) {p : ℕ} (s : ExprAt src a p) (t : ExprAt src b (p + size a)) {mid : ℕ} (e : mid ≡ p) where
    abbrev pair : GivenBoth ctx side mid
    pair = record {
      W = g.W;
      a = a;
      b = b;
      a_at = rw e s;
      b_at = rw e t;
      d = g.d + 1;
      top = omega arith;
      deep_a = i.deep;
      deep_b = j.deep;
      casts_a = i.casts;
      casts_b = j.casts;
    }

    -- what the call on them said, under the whole's own hint
    said_both : (h : code.Option Typ) (step c : ℕ) {q : Spot} {l l' : Lines} {r : code.Option answer.Typed} → DoneBoth ctx side mid step c h q l r l'
        → Done g.W.number g.W.text q
        (both g.W.Γ step c (infer g.W.Γ q.function p a) (infer g.W.Γ q.function (p + size a) b) (asHint g.W.text h))
        (p + size a + size b) (max (128 - g.d) (hint_levels h)) l r l'
    said_both h step c {q} {l} {l'} {r} d =
        lower {high₁ = max (128 - (g.d + 1)) (hint_levels h)} (omega arith)
        (subst (λ (k : ℕ). Done g.W.number g.W.text q (both g.W.Γ step c (infer g.W.Γ q.function k a) (infer g.W.Γ q.function (k + size a) b) (asHint g.W.text h)) (k + size a + size b) (max (128 - (g.d + 1)) (hint_levels h)) l r l') e (d pair))

  -- ---- literals, variables, tuples

  pub literal_done : {h : code.Option Typ} → Kind literal_kind side at → {q : Spot} {l l' : Lines} {k : code.Option ℕ} {r : code.Option Typ}
      → ((c : Literal) → literal_kind c ≡ kind_at side at → HintedOf ctx h (λ al. literal_type al c (word_at side at)) k)
      → LiteralRuled q at k l r l' → Ends g h q l r l'
  unfolding infer
  literal_done c f d =
      let w = const_here src g.e at g.stands c.which c.is in
      let u = (f c.which (sym c.is)).type g.W.text g.W.Γ.alias g.W.alias in
      rw w (weaker (omega arith) (d g.W.number g.W.text _ u))

  pub literal_next : Kind literal_kind side at → at + 1 ≡ at + size g.e
  unfolding size
  literal_next c = rw (const_here src g.e at g.stands c.which c.is) refl

  module _ (k : kind_at side at ≡ 44) where
    pub var_small : word_at side at < 512
    var_small = (var_here src g.e at g.stands k).name.small

    pub var_done : (h : code.Option Typ) {q : Spot} {l l' : Lines} {r : code.Option Typ} → Ruled ctx q (λ W. var_rule W.Γ at (W.text (word_at side at))) 67 l r l' → Ends g h q l r l'
    unfolding infer
    var_done h f =
        let w = var_here src g.e at g.stands k in
        rw w.holds (weaker (omega (arith, g.deep)) (rw w.name.text at (f g.W)))

    pub var_next : at + 1 ≡ at + size g.e
    unfolding size
    var_next = rw (var_here src g.e at g.stands k).holds refl

  pub tuple_done : (h : code.Option Typ) → kind_at side at ≡ 73 → {q : Spot} {l : Lines} {t : Typ} → Bottom 34 (word_at side at) t → Ends g h q l (Some t) l
  unfolding infer bottom
  tuple_done h k {t = t} b =
      let w = tuple_here src g.e at g.stands k in
      returned t (omega (arith, b.flat)) (rw (w.is, ← w.many) (ap (λ (x : Ty). return x) (sym (b.is g.W.text))))

  -- ---- unary operators

  module _ (k : Kind unary_kind side at) where
    unary_w : OnePart src (unary k.which) g.e at
    unary_w = unary_here src g.e at g.stands k.which k.is

    unary_below : Below unary_w.a
    unfolding depth ShallowCasts
    unary_below = record { deep = let z = rw unary_w.is at g.deep in omega arith; casts = rw unary_w.is at g.casts }

    pub unary_in : at + 1 < length side.kinds.now
    unary_in = (expr_record src unary_w.a (at + 1) unary_w.a_at).in_kinds

    pub unary_words : at + 1 < length side.words.now
    unary_words = (expr_record src unary_w.a (at + 1) unary_w.a_at).in_words

    pub unary_given : Given ctx side (at + 1)
    unary_given = part unary_below unary_w.a_at refl

    unary_end : at + size g.e ≡ at + 1 + size unary_w.a
    unfolding size
    unary_end = ap (λ (x : Expr). at + size x) unary_w.is ∙ omega arith

    module _ {b : Bool} (eb : b ≡ (eqb (kind_at side at) 46 && eqb (kind_at side (at + 1)) 41)) where
      -- a minus directly on an integer literal
      module _ (y : b ≡ true) where
        signed_w : OnePart src (unary Neg) g.e at
        signed_w = unary_here src g.e at g.stands Neg (eqb-true _ _ (both_true _ _ (sym eb ∙ y)).0)

        signed_is : signed_w.a ≡ const int (word_at side (at + 1))
        signed_is = const_here src signed_w.a (at + 1) signed_w.a_at int (eqb-true _ _ (both_true _ _ (sym eb ∙ y)).1)

        pub unary_literal : {h : code.Option Typ} {q : Spot} {l l' : Lines} {i : code.Option ℕ} {r : code.Option Typ} → HintedOf ctx h (λ al. integer_type al (number_of true (word_at side (at + 1)))) i
            → LiteralRuled q at i l r l' → Ends g h q l r l'
        unfolding infer unary_rule form literal_form
        unary_literal f d = rw (signed_w.is, signed_is) (weaker (omega arith) (d g.W.number g.W.text _ (f.type g.W.text g.W.Γ.alias g.W.alias)))

        pub unary_literal_next : at + 2 ≡ at + size g.e
        unfolding size
        unary_literal_next = rw (signed_w.is, signed_is) refl

      module _ (nb : b ≡ false) where
        unary_not : k.which ≡ Neg → (v : ℤ) → form unary_w.a ≡ integer v → ⊥
        unary_not e v f =
            let x : kind_at side at ≡ 46 = k.is ∙ ap unary_kind e in
            let y : kind_at side (at + 1) ≡ 41 = integer_kind src unary_w.a (at + 1) v unary_w.a_at f in
            false_true (sym nb ∙ eb ∙ rw (x, y) refl)

        unary_plainly : (h : code.Option Typ) (q : Spot) → infer g.W.Γ q.function at g.e (asHint g.W.text h) ≡ unary_plain g.W.Γ at k.which (infer g.W.Γ q.function (at + 1) unary_w.a) (asHint g.W.text h)
        unfolding infer
        unary_plainly h q =
            ap (λ (x : Expr). infer g.W.Γ q.function at x (asHint g.W.text h)) unary_w.is
            ∙ plainly g.W.Γ at k.which (form unary_w.a) (infer g.W.Γ q.function (at + 1) unary_w.a) (asHint g.W.text h) unary_not

        pub unary_stop : (h : code.Option Typ) {q : Spot} {l l₁ : Lines} → Inferring ctx side (at + 1) h q l None l₁ → Whole g h q l None l₁
        unfolding unary_plain
        unary_stop h d = rw (unary_plainly h _) (closed_none (stop _ (said unary_below unary_w.a_at refl (own h) d)))

        module _ (h : code.Option Typ) {q : Spot} {l l₁ : Lines} {a : answer.Typed} (da : Inferring ctx side (at + 1) h q l (Some a) l₁) where
          unary_1 : Done g.W.number g.W.text q (infer g.W.Γ q.function (at + 1) unary_w.a (asHint g.W.text h)) (at + 1 + size unary_w.a) (max (127 - g.d) (hint_levels h)) l (Some a) l₁
          unary_1 = said unary_below unary_w.a_at refl (own h) da

          pub unary_next : a.next ≡ at + size g.e
          unary_next = unary_1.next ∙ sym unary_end

          pub unary_done : {l₂ : Lines} {r : code.Option Typ}
              → ((o : UnaryOp) → unary_kind o ≡ kind_at side at → Ruled ctx q (λ W. unary_of W.Γ at o (asTy W.text a.typ)) a.typ.levels l₁ r l₂)
              → Ends g h q l r l₂
          unfolding unary_plain
          unary_done d = rw (unary_plainly h q) (go _ unary_1 (weaker (omega (arith, unary_1.low)) (d k.which (sym k.is) g.W)))

  -- ---- binary operators

  module _ (k₁ : 47 ≤ kind_at side at) (k₂ : kind_at side at ≤ 66) where
    bin_w : TwoParts src (binary (op_at (kind_at side at))) g.e at
    bin_w = binary_here src g.e at g.stands (kind_at side at) refl k₁ k₂

    bin_below : Below bin_w.a × Below bin_w.b
    unfolding depth ShallowCasts
    bin_below =
        let z = rw bin_w.is at g.deep in
        let c = rw bin_w.is at g.casts in
        (record { deep = omega arith; casts = c.0 }, record { deep = omega arith; casts = c.1 })

    pub bin_first : Given ctx side (at + 1)
    bin_first = part bin_below.0 bin_w.a_at refl

    module _ (c : Class) (fc : (o : BinOp) → op_kind o ≡ kind_at side at → class_as c ≡ op_class o) (h : code.Option Typ) {x : code.Option Typ} (fx : (ρ : Naming) → HintIs ρ (sub_hint (class_as c) (asHint ρ h)) (hint_levels h) x) where
      bin_class : class_as c ≡ op_class (op_at (kind_at side at))
      bin_class = fc (op_at (kind_at side at)) (op_kind_at (kind_at side at) k₁ k₂)

      pub bin_stop : {q : Spot} {l l₁ : Lines} → Inferring ctx side (at + 1) x q l None l₁ → Whole g h q l None l₁
      unfolding infer binary_rule
      bin_stop d = rw (bin_w.is, ← bin_class) (closed_none (stop _ (said bin_below.0 bin_w.a_at refl (fx g.W.text) d)))

      module _ {q : Spot} {l l₁ : Lines} {a : answer.Typed} (da : Inferring ctx side (at + 1) x q l (Some a) l₁) where
        bin_1 : Done g.W.number g.W.text q (infer g.W.Γ q.function (at + 1) bin_w.a (sub_hint (class_as c) (asHint g.W.text h))) (at + 1 + size bin_w.a) (max (127 - g.d) (hint_levels h)) l (Some a) l₁
        bin_1 = said bin_below.0 bin_w.a_at refl (fx g.W.text) da

        pub bin_next : at + 1 < a.next
        bin_next = omega (arith, bin_1.next, size_pos bin_w.a)

        pub bin_second : Given ctx side a.next
        bin_second = part bin_below.1 bin_w.b_at bin_1.next

        module _ {y : code.Option Typ} (fy : RightHint a.typ x y) where
          bin_hint : HintIs g.W.text (right_hint (asTy g.W.text a.typ) (sub_hint (class_as c) (asHint g.W.text h))) (max a.typ.levels (hint_levels x)) y
          bin_hint = rw (fx g.W.text).is at (fy.holds g.W.text)

          pub bin_stop₂ : {l₂ : Lines} → Inferring ctx side a.next y q l₁ None l₂ → Whole g h q l None l₂
          unfolding infer binary_rule
          bin_stop₂ d = rw (bin_w.is, ← bin_class) (closed_none (go _ bin_1 (stop _ (said bin_below.1 bin_w.b_at bin_1.next bin_hint d))))

          module _ {l₂ : Lines} {b : answer.Typed} (db : Inferring ctx side a.next y q l₁ (Some b) l₂) where
            bin_2 : Done g.W.number g.W.text q (infer g.W.Γ q.function (at + 1 + size bin_w.a) bin_w.b (right_hint (asTy g.W.text a.typ) (sub_hint (class_as c) (asHint g.W.text h)))) (at + 1 + size bin_w.a + size bin_w.b) (max (127 - g.d) (max a.typ.levels (hint_levels x))) l₁ (Some b) l₂
            bin_2 = said bin_below.1 bin_w.b_at bin_1.next bin_hint db

            pub bin_end : b.next ≡ at + size g.e
            unfolding size
            bin_end = rw bin_w.is (omega (arith, bin_2.next))

            pub bin_done : {l₃ : Lines} {r : code.Option Typ} → Ruled ctx q (λ W. operands W.Γ at (class_as c) (asTy W.text a.typ) (asTy W.text b.typ)) a.typ.levels l₂ r l₃ → Ends g h q l r l₃
            unfolding infer binary_rule
            bin_done d = rw (bin_w.is, ← bin_class) (go _ bin_1 (go _ bin_2 (weaker (omega (arith, bin_1.low)) (d g.W))))

  -- ---- a choice

  module _ (k : kind_at side at ≡ 67) where
    ite_w : ThreeParts src ite g.e at
    ite_w = ite_here src g.e at g.stands k

    ite_below : Below ite_w.c × Below ite_w.a × Below ite_w.b
    unfolding depth ShallowCasts
    ite_below =
        let z = rw ite_w.is at g.deep in
        let c = rw ite_w.is at g.casts in
        (record { deep = omega arith; casts = c.0 }, record { deep = omega arith; casts = c.1 }, record { deep = omega arith; casts = c.2 })

    pub ite_first : Given ctx side (at + 1)
    ite_first = part ite_below.0 ite_w.c_at refl

    module _ {x : Typ} (fx : Bottom 20 0 x) where
      ite_hint : HintIs g.W.text (some (basic 20)) 0 (Some x)
      ite_hint = hint_basic g.W.text fx (omega arith)

      pub ite_stop : (h : code.Option Typ) {q : Spot} {l l₁ : Lines} → Inferring ctx side (at + 1) (Some x) q l None l₁ → Whole g h q l None l₁
      unfolding infer if_rule
      ite_stop h d = rw ite_w.is (closed_none (stop _ (said ite_below.0 ite_w.c_at refl ite_hint d)))

      module _ {q : Spot} {l l₁ : Lines} {c : answer.Typed} (dc : Inferring ctx side (at + 1) (Some x) q l (Some c) l₁) where
        ite_1 : Done g.W.number g.W.text q (infer g.W.Γ q.function (at + 1) ite_w.c (some (basic 20))) (at + 1 + size ite_w.c) (max (127 - g.d) 0) l (Some c) l₁
        ite_1 = said ite_below.0 ite_w.c_at refl ite_hint dc

        pub ite_next : at + 1 < c.next
        ite_next = omega (arith, ite_1.next, size_pos ite_w.c)

        pub ite_pair : GivenBoth ctx side c.next
        ite_pair = pair ite_below.1 ite_below.2 ite_w.a_at ite_w.b_at ite_1.next

        module _ {t : Bool} (ft : (W : WorldOf ctx) → t ≡ is_bool (res W.Γ (asTy W.text c.typ))) where
          pub ite_fail : (h : code.Option Typ) → t ≡ false → {l₂ : Lines} {r : code.Option answer.Typed} → Failed q 90 at no_value l₁ r l₂ → Whole g h q l r l₂
          unfolding infer if_rule
          ite_fail h b d = rw (d.none, ite_w.is) (closed_none (go _ ite_1 (refused _ (sym (ft g.W) ∙ b) (record { none = refl; put = d.put }))))

          pub ite_done : (h : code.Option Typ) → t ≡ true → {l₂ : Lines} {r : code.Option answer.Typed} → DoneBoth ctx side c.next at 91 h q l₁ r l₂ → Whole g h q l r l₂
          unfolding infer if_rule size
          ite_done h b d =
              rw ite_w.is
              (onward _ ite_1.said
              (onward_then (said_pass _ (sym (ft g.W) ∙ b))
              (at_end (omega arith) (said_both ite_below.1 ite_below.2 ite_w.a_at ite_w.b_at ite_1.next h at 91 d))))

  -- ---- pre and arrow

  module _ (k : kind_at side at ≡ 68) where
    pre_w : OnePart src pre g.e at
    pre_w = pre_here src g.e at g.stands k

    pre_below : Below pre_w.a
    unfolding depth ShallowCasts
    pre_below = record { deep = let z = rw pre_w.is at g.deep in omega arith; casts = rw pre_w.is at g.casts }

    pub pre_given : Given ctx side (at + 1)
    pre_given = part pre_below pre_w.a_at refl

    pub pre_done : (h : code.Option Typ) {q : Spot} {l l₁ : Lines} {r : code.Option answer.Typed} → Inferring ctx side (at + 1) h q l r l₁ → Whole g h q l r l₁
    unfolding infer size
    pre_done h d = rw pre_w.is (at_end (omega arith) (lower (omega arith) (said pre_below pre_w.a_at refl (own h) d)))

  module _ (k : kind_at side at ≡ 69) where
    arrow_w : TwoParts src arrow g.e at
    arrow_w = arrow_here src g.e at g.stands k

    arrow_below : Below arrow_w.a × Below arrow_w.b
    unfolding depth ShallowCasts
    arrow_below =
        let z = rw arrow_w.is at g.deep in
        let c = rw arrow_w.is at g.casts in
        (record { deep = omega arith; casts = c.0 }, record { deep = omega arith; casts = c.1 })

    pub arrow_pair : GivenBoth ctx side (at + 1)
    arrow_pair = pair arrow_below.0 arrow_below.1 arrow_w.a_at arrow_w.b_at refl

    pub arrow_done : (h : code.Option Typ) {q : Spot} {l l₁ : Lines} {r : code.Option answer.Typed} → DoneBoth ctx side (at + 1) at 92 h q l r l₁ → Whole g h q l r l₁
    unfolding infer size
    arrow_done h d = rw arrow_w.is (at_end (omega arith) (said_both arrow_below.0 arrow_below.1 arrow_w.a_at arrow_w.b_at refl h at 92 d))

  -- ---- clocks

  module _ (k : Kind when_kind side at) where
    when_w : WithName src at (λ c. OnePart src (when k.which c) g.e at)
    when_w = when_here src g.e at g.stands k.which k.is

    pub when_small : word_at side at < 512
    when_small = when_w.name.small

    when_below : Below when_w.holds.a
    unfolding depth ShallowCasts
    when_below = record { deep = let z = rw when_w.holds.is at g.deep in omega arith; casts = rw when_w.holds.is at g.casts }

    pub when_given : Given ctx side (at + 1)
    when_given = part when_below when_w.holds.a_at refl

    pub when_done : (h : code.Option Typ) {q : Spot} {l l₁ l₂ : Lines} {r : code.Option answer.Typed} → ((W : WorldOf ctx) → Noted W.number q (clock W.Γ at (W.text (word_at side at))) l l₁)
        → Inferring ctx side (at + 1) h q l₁ r l₂ → Whole g h q l r l₂
    unfolding infer size when_rule
    when_done h f d = rw when_w.holds.is (onward_then (said_add refl (rw when_w.name.text at (f g.W))) (at_end (omega arith) (lower (omega arith) (said when_below when_w.holds.a_at refl (own h) d))))

  module _ (k : kind_at side at ≡ 79) where
    merge_w : WithName src at (λ c. TwoParts src (merge c) g.e at)
    merge_w = merge_here src g.e at g.stands k

    pub merge_small : word_at side at < 512
    merge_small = merge_w.name.small

    merge_below : Below merge_w.holds.a × Below merge_w.holds.b
    unfolding depth ShallowCasts
    merge_below =
        let z = rw merge_w.holds.is at g.deep in
        let c = rw merge_w.holds.is at g.casts in
        (record { deep = omega arith; casts = c.0 }, record { deep = omega arith; casts = c.1 })

    pub merge_pair : GivenBoth ctx side (at + 1)
    merge_pair = pair merge_below.0 merge_below.1 merge_w.holds.a_at merge_w.holds.b_at refl

    pub merge_done : (h : code.Option Typ) {q : Spot} {l l₁ l₂ : Lines} {r : code.Option answer.Typed} → ((W : WorldOf ctx) → Noted W.number q (clock W.Γ at (W.text (word_at side at))) l l₁)
        → DoneBoth ctx side (at + 1) at 131 h q l₁ r l₂ → Whole g h q l r l₂
    unfolding infer size merge_rule
    merge_done h f d = rw merge_w.holds.is (onward_then (said_add refl (rw merge_w.name.text at (f g.W))) (at_end (omega arith) (said_both merge_below.0 merge_below.1 merge_w.holds.a_at merge_w.holds.b_at refl h at 131 d)))

  -- ---- a field

  module _ (k : kind_at side at ≡ 71) where
    field_w : WithName src at (λ x. OnePart src (field x) g.e at)
    field_w = field_here src g.e at g.stands k

    field_below : Below field_w.holds.a
    unfolding depth ShallowCasts
    field_below = record { deep = let z = rw field_w.holds.is at g.deep in omega arith; casts = rw field_w.holds.is at g.casts }

    pub field_given : Given ctx side (at + 1)
    field_given = part field_below field_w.holds.a_at refl

    pub field_stop : (h : code.Option Typ) {q : Spot} {l l₁ : Lines} → Inferring ctx side (at + 1) None q l None l₁ → Whole g h q l None l₁
    unfolding infer field_rule
    field_stop h d = rw field_w.holds.is (closed_none (stop _ (said field_below field_w.holds.a_at refl (hint_none g.W.text) d)))

    module _ {q : Spot} {l l₁ : Lines} {a : answer.Typed} (da : Inferring ctx side (at + 1) None q l (Some a) l₁) where
      field_1 : Done g.W.number g.W.text q (infer g.W.Γ q.function (at + 1) field_w.holds.a none) (at + 1 + size field_w.holds.a) (max (127 - g.d) 0) l (Some a) l₁
      field_1 = said field_below field_w.holds.a_at refl (hint_none g.W.text) da

      pub field_next : a.next ≡ at + size g.e
      unfolding size
      field_next = rw field_w.holds.is (omega (arith, field_1.next))

      pub field_done : (h : code.Option Typ) {l₂ : Lines} {r : code.Option Typ} → Ruled ctx q (λ W. field_of W.Γ at (W.text (word_at side at)) (res W.Γ (asTy W.text a.typ))) 67 l₁ r l₂ → Ends g h q l r l₂
      unfolding infer field_rule
      field_done h d = rw field_w.holds.is (go _ field_1 (weaker (omega (arith, g.deep)) (rw field_w.name.text at (d g.W))))

  -- ---- an index

  module _ (k : kind_at side at ≡ 72) where
    index_w : TwoParts src index g.e at
    index_w = index_here src g.e at g.stands k

    index_below : Below index_w.a × Below index_w.b
    unfolding depth ShallowCasts
    index_below =
        let z = rw index_w.is at g.deep in
        let c = rw index_w.is at g.casts in
        (record { deep = omega arith; casts = c.0 }, record { deep = omega arith; casts = c.1 })

    pub index_first : Given ctx side (at + 1)
    index_first = part index_below.0 index_w.a_at refl

    pub index_stop : (h : code.Option Typ) {q : Spot} {l l₁ : Lines} → Inferring ctx side (at + 1) None q l None l₁ → Whole g h q l None l₁
    unfolding infer index_rule
    index_stop h d = rw index_w.is (closed_none (stop _ (said index_below.0 index_w.a_at refl (hint_none g.W.text) d)))

    module _ {q : Spot} {l l₁ : Lines} {a : answer.Typed} (da : Inferring ctx side (at + 1) None q l (Some a) l₁) where
      index_1 : Done g.W.number g.W.text q (infer g.W.Γ q.function (at + 1) index_w.a none) (at + 1 + size index_w.a) (max (127 - g.d) 0) l (Some a) l₁
      index_1 = said index_below.0 index_w.a_at refl (hint_none g.W.text) da

      pub index_next : at + 1 < a.next
      index_next = omega (arith, index_1.next, size_pos index_w.a)

      pub index_second : Given ctx side a.next
      index_second = part index_below.1 index_w.b_at index_1.next

      module _ {x : Typ} (fx : Bottom 23 0 x) where
        index_hint : HintIs g.W.text (some (basic 23)) 0 (Some x)
        index_hint = hint_basic g.W.text fx (omega arith)

        pub index_stop₂ : (h : code.Option Typ) {l₂ : Lines} → Inferring ctx side a.next (Some x) q l₁ None l₂ → Whole g h q l None l₂
        unfolding infer index_rule
        index_stop₂ h d = rw index_w.is (closed_none (go _ index_1 (stop _ (said index_below.1 index_w.b_at index_1.next index_hint d))))

        module _ {l₂ : Lines} {b : answer.Typed} (db : Inferring ctx side a.next (Some x) q l₁ (Some b) l₂) where
          index_2 : Done g.W.number g.W.text q (infer g.W.Γ q.function (at + 1 + size index_w.a) index_w.b (some (basic 23))) (at + 1 + size index_w.a + size index_w.b) (max (127 - g.d) 0) l₁ (Some b) l₂
          index_2 = said index_below.1 index_w.b_at index_1.next index_hint db

          pub index_end : b.next ≡ at + size g.e
          unfolding size
          index_end = rw index_w.is (omega (arith, index_2.next))

          pub index_done : (h : code.Option Typ) {l₃ : Lines} {r : code.Option Typ} → Ruled ctx q (λ W. index_of W.Γ at (asTy W.text a.typ) (asTy W.text b.typ)) (max 63 (a.typ.levels - 1)) l₂ r l₃ → Ends g h q l r l₃
          unfolding infer index_rule
          index_done h d = rw index_w.is (go _ index_1 (go _ index_2 (weaker (omega (arith, index_1.low, g.deep)) (d g.W))))

  -- ---- a cast

  module _ (k : kind_at side at ≡ 76) where
    cast_w : Cast src g.e at
    cast_w = cast_here src g.e at g.stands k

    cast_below : Below cast_w.a
    unfolding depth ShallowCasts
    cast_below =
        let c = rw cast_w.is at g.casts in
        record { deep = let z = rw cast_w.is at g.deep in omega arith; casts = c.1 }

    cast_typed : Typed src cast_w.t (at + 1)
    unfolding ShallowCasts
    cast_typed = let c = rw cast_w.is at g.casts in record { stands = cast_w.t_at; few = c.0 }

    -- what `read_type` asks
    pub cast_there : IsTypeAt side.kinds.now side.words.now (at + 1)
    cast_there = type_there cast_typed

    module _ {to : Typ} {mid : ℕ} (d : Read side.kinds.now side.words.now (at + 1) to mid) where
      cast_mid : mid ≡ at + 1 + levels cast_w.t
      cast_mid = read_next cast_typed d

      pub cast_next : at < mid
      cast_next = omega (arith, cast_mid)

      pub cast_given : Given ctx side mid
      cast_given = part cast_below cast_w.a_at cast_mid

      pub cast_stop : (h : code.Option Typ) {q : Spot} {l l₁ : Lines} → Inferring ctx side mid None q l None l₁ → Whole g h q l None l₁
      unfolding infer cast_rule
      cast_stop h f = rw cast_w.is (closed_none (stop _ (said cast_below cast_w.a_at cast_mid (hint_none g.W.text) f)))

      module _ {q : Spot} {l l₁ : Lines} {a : answer.Typed} (da : Inferring ctx side mid None q l (Some a) l₁) where
        cast_1 : Done g.W.number g.W.text q (infer g.W.Γ q.function (at + 1 + levels cast_w.t) cast_w.a none) (at + 1 + levels cast_w.t + size cast_w.a) (max (127 - g.d) 0) l (Some a) l₁
        cast_1 = said cast_below cast_w.a_at cast_mid (hint_none g.W.text) da

        pub cast_end : a.next ≡ at + size g.e
        unfolding size
        cast_end = rw cast_w.is (omega (arith, cast_1.next))

        pub cast_done : (h : code.Option Typ) {l₂ : Lines} {r : code.Option Typ} → Ruled ctx q (λ W. cast_of W.Γ at (asTy W.text to) (asTy W.text a.typ)) to.levels l₁ r l₂ → Ends g h q l r l₂
        unfolding infer cast_rule
        cast_done h c = rw cast_w.is (go _ cast_1 (weaker (omega (arith, g.deep, d.few)) (rw (read_is cast_typed d).is at (c g.W))))

-- ---- two parts that must agree

module _ {ctx : Context} {side : Records} {at : ℕ} (g : GivenBoth ctx side at) where
  abbrev pub both_first : Given ctx side at
  both_first = record { W = g.W; e = g.a; stands = g.a_at; d = g.d; top = g.top; deep = g.deep_a; casts = g.casts_a }

  -- what is to be shown
  abbrev pub Pair : (h : code.Option Typ) (step c : ℕ) (q : Spot) (l : Lines) (r : code.Option answer.Typed) (l' : Lines) → Type 0
  Pair h step c q l r l' =
      Done g.W.number g.W.text q
      (both g.W.Γ step c (infer g.W.Γ q.function at g.a) (infer g.W.Γ q.function (at + size g.a) g.b) (asHint g.W.text h))
      (at + size g.a + size g.b) (max (128 - g.d) (hint_levels h)) l r l'

  pub both_stop : (h : code.Option Typ) (step c : ℕ) {q : Spot} {l l₁ : Lines} → Inferring ctx side at h q l None l₁ → Pair h step c q l None l₁
  unfolding both
  both_stop h step c d = closed_none (stop _ (d both_first))

  module _ (h : code.Option Typ) {q : Spot} {l l₁ : Lines} {a : answer.Typed} (da : Inferring ctx side at h q l (Some a) l₁) where
    pub both_1 : Done g.W.number g.W.text q (infer g.W.Γ q.function at g.a (asHint g.W.text h)) (at + size g.a) (max (128 - g.d) (hint_levels h)) l (Some a) l₁
    both_1 = da both_first

    pub both_next : at < a.next
    both_next = omega (arith, both_1.next, size_pos g.a)

    -- the hint of the second part
    abbrev then_hint : code.Option Typ
    then_hint = option_or h (Some a.typ)

    pub both_hint : HintIs g.W.text (or_else (asHint g.W.text h) (asTy g.W.text a.typ)) (max a.typ.levels (hint_levels h)) then_hint
    both_hint = second_hint g.W.text a.typ h

    abbrev pub both_second : Given ctx side a.next
    both_second = record { W = g.W; e = g.b; stands = rw both_1.next g.b_at; d = g.d; top = g.top; deep = g.deep_b; casts = g.casts_b }

    module _ {l₂ : Lines} {r : code.Option answer.Typed} (db : Inferring ctx side a.next then_hint q l₁ r l₂) where
      both_2 : Done g.W.number g.W.text q (infer g.W.Γ q.function (at + size g.a) g.b (or_else (asHint g.W.text h) (asTy g.W.text a.typ))) (at + size g.a + size g.b) (max (128 - g.d) (hint_levels then_hint)) l₁ r l₂
      both_2 =
          rw both_hint.is at
          (subst (λ (j : ℕ). Done g.W.number g.W.text q (infer g.W.Γ q.function j g.b (asHint g.W.text then_hint)) (j + size g.b) (max (128 - g.d) (hint_levels then_hint)) l₁ r l₂) both_1.next (db both_second))

    pub both_stop₂ : (step c : ℕ) {l₂ : Lines} → Inferring ctx side a.next then_hint q l₁ None l₂ → Pair h step c q l None l₂
    unfolding both
    both_stop₂ step c d = closed_none (go _ both_1 (stop _ (both_2 d)))

    module _ {l₂ : Lines} {b : answer.Typed} (db : Inferring ctx side a.next then_hint q l₁ (Some b) l₂) (step c : ℕ) {l₃ : Lines} where
      both_agree : {r : code.Option Typ} → Ruled ctx q (λ W. agree_rule W.Γ step c (asTy W.text a.typ) (asTy W.text b.typ)) a.typ.levels l₂ r l₃
          → Concludes g.W.number g.W.text q (both g.W.Γ step c (infer g.W.Γ q.function at g.a) (infer g.W.Γ q.function (at + size g.a) g.b) (asHint g.W.text h)) (max (128 - g.d) (hint_levels h)) l r l₃
      unfolding both
      both_agree d = go _ both_1 (go _ (both_2 db) (weaker both_1.low (d g.W)))

      pub both_refused : Ruled ctx q (λ W. agree_rule W.Γ step c (asTy W.text a.typ) (asTy W.text b.typ)) a.typ.levels l₂ None l₃ → Pair h step c q l None l₃
      both_refused d = closed_none (both_agree d)

      pub both_done : {t : Typ} → Ruled ctx q (λ W. agree_rule W.Γ step c (asTy W.text a.typ) (asTy W.text b.typ)) a.typ.levels l₂ (Some t) l₃ → Pair h step c q l (Some (record { typ = t; next = b.next })) l₃
      both_done d = closed (both_agree d) (both_2 db).next
