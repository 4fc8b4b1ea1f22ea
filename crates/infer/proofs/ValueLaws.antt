-- Struct values, lib.rs 1134: one field value, the field values one after another with the set of their names, and the struct.
-- Assumes nothing.
use Prim.Native.Nat.{ℕ, ◌+◌, ◌<◌, ◌≤◌}
use native.Mathlib.Omega.{arith}
use mathlib.Core.Path.{◌≡◌, refl, sym, ap, ◌∙◌}
use mathlib.Core.List.{List, [], ◌∷◌, ◌++◌, map, append-nil, append_assoc}
use mathlib.Core.Option.{none, some}
use Rattle.std.specs.Prelude as code
use Rattle.std.specs.Prelude.{Some, None}
use Rattle.lustre.specs.Name.{Name, find}
use Rattle.lustre.specs.Types.{Ty}
use Rattle.lustre.specs.Expr.{Expr, Inits, init, struct, size, sizesⁱ}
use Rattle.lustre.specs.Line.{named, try}
use Rattle.lustre.specs.Grammar.{countⁱ}
use Rattle.lustre.specs.Infer.{infer, infersⁱ, unless_agrees, value, values, missing, struct_name}
use Rattle.lustre.specs.declared.Records.{Records}
use Rattle.input.specs.Depths.{depth, depthsⁱ, ShallowCasts, ShallowCastsEachⁱ}
use Rattle.standing.specs.Standing.{RecAt, InitsAt}
use Rattle.standing.specs.Owed.{There}
use Rattle.standing.proofs.Sizes.{FirstValue, first_value, no_values}
use Rattle.standing.proofs.Inversions.{WithName, struct_here}
use Rattle.standing.proofs.Inversions as inversions
use Rattle.lines.specs.Lines.{Put, Noted, Said}
use Rattle.lines.specs.declared.Lines.{Lines}
use Rattle.lines.specs.declared.Spot.{Spot}
use Rattle.lines.proofs.Laws.{noted_none, noted_named, said_return, said_add, said_try, said_go, said_then}
use Rattle.types.specs.Value.{Injective, asTy, Bottom}
use Rattle.types.specs.Number.{asHint}
use Rattle.types.specs.Place.{Read}
use Rattle.types.specs.declared.context.Context.{Context}
use Rattle.types.specs.declared.Typ.{Typ}
use Rattle.types.proofs.Values.{bottom_name}
use Rattle.rules.specs.World.{WorldOf, source_of, Typed, PortsOf}
use Rattle.rules.specs.Post.{Given, Inferring, typed}
use Rattle.rules.specs.Ports.{PortFound}
use Rattle.rules.specs.Marks.{Marked}
use Rattle.rules.specs.Structs.{Fields, Declared}
use Rattle.rules.specs.Lists.{GivenValue, DoneValue, GivenValues, DoneValues}
use Rattle.types.specs.declared.Typed as answer
use Rattle.rules.specs.declared.structs.ValuesLeft.{ValuesLeft}
use Rattle.rules.proofs.Laws.{apart, closed, weaker}
use Rattle.rules.proofs.Places.{read_is}
use Rattle.rules.proofs.Onward as onward
use Rattle.infer.specs.Post.{kind_at}
use Rattle.infer.proofs.Steps.{word_at, nothing, Whole}

-- ---- one field value

module _ {ctx : Context} {side : Records} {at list : ℕ} (g : GivenValue ctx side at list) where
  -- the record behind the value is asked of this
  abbrev pub value_there : There side.kinds.now side.words.now (at + 1)
  value_there = record { text = g.W.text; e = g.e; stands = g.stands }

  -- and the field of this
  abbrev pub value_fields : PortsOf ctx.records list
  value_fields = record { text = g.W.text; ps = g.fs; listed = g.fields }

  value_port : (r : code.Option ℕ) → ((x : PortsOf ctx.records list) → Injective x.text → PortFound (source_of ctx.records x.text) x.ps (x.text (word_at side at)) r)
      → PortFound (source_of ctx.records g.W.text) g.fs g.x r
  value_port r found = rw g.name.text at (found value_fields (apart g.W))

  -- no such field: E0126, and the value is passed over
  pub value_unknown : ((x : PortsOf ctx.records list) → Injective x.text → PortFound (source_of ctx.records x.text) x.ps (x.text (word_at side at)) None)
      → {q : Spot} {step next : ℕ} {l l₁ : Lines} → Put q 126 step (word_at side at) l l₁ → ((t : There side.kinds.now side.words.now (at + 1)) → next ≡ at + 1 + size t.e)
      → DoneValue ctx side at list step g q l next l₁
  unfolding value
  value_unknown found put skipped = record {
    said = rw (value_port None found) (said_add refl (noted_named g.x (ap g.W.number (sym g.name.text) ∙ g.W.back (word_at side at)) put));
    next = skipped value_there;
  }

  module _ (p : ℕ) (found : (x : PortsOf ctx.records list) → Injective x.text → PortFound (source_of ctx.records x.text) x.ps (x.text (word_at side at)) (Some p)) where
    -- the field's type stands behind its record
    pub value_type : Ty
    value_type = (value_port (Some p) found).0

    pub value_typed : Typed (source_of ctx.records g.W.text) value_type (p + 1)
    unfolding value_type
    value_typed = (value_port (Some p) found).2

    value_found : find g.x g.fs ≡ some value_type
    unfolding value_type
    value_found = (value_port (Some p) found).1

    module _ {want : Typ} {behind : ℕ} (rd : Read ctx.records.kinds.now ctx.records.words.now (p + 1) want behind) where
      value_is : asTy g.W.text want ≡ value_type
      value_is = (read_is value_typed rd).is

      -- the value under its field's type as hint
      abbrev pub value_given : Given ctx side (at + 1)
      value_given = record { W = g.W; e = g.e; stands = g.stands; d = g.d; top = g.top; deep = g.deep; casts = g.casts }

      value_tried : {q : Spot} {l l₁ : Lines} {a : code.Option answer.Typed} → Inferring ctx side (at + 1) (Some want) q l a l₁
          → Said g.W.number q (try (infer g.W.Γ q.function (at + 1) g.e (some value_type))) (some (typed g.W.text a)) l l₁
      value_tried d = said_try (rw value_is at (d value_given).said)

      -- it has a type: E0127 unless that is the field's
      pub value_done : {q : Spot} {l l₁ l₂ : Lines} {a : answer.Typed} {step : ℕ} → Inferring ctx side (at + 1) (Some want) q l (Some a) l₁
          → ((W : WorldOf ctx) → Noted W.number q (unless_agrees W.Γ (asTy W.text want) (some (asTy W.text a.typ)) (named step 127 (W.text (word_at side at)))) l₁ l₂)
          → DoneValue ctx side at list step g q l a.next l₂
      unfolding value
      value_done {a = a} d noted = record {
        said = rw value_found (said_go _ (some (asTy g.W.text a.typ)) refl (value_tried d) (said_add refl (rw (value_is, g.name.text) at (noted g.W))));
        next = (d value_given).next;
      }

      -- it has none: nothing more is said, and the value is passed over
      pub value_skipped : {q : Spot} {l l₁ : Lines} {step next : ℕ} → Inferring ctx side (at + 1) (Some want) q l None l₁
          → ((t : There side.kinds.now side.words.now (at + 1)) → next ≡ at + 1 + size t.e)
          → DoneValue ctx side at list step g q l next l₁
      unfolding value unless_agrees
      value_skipped d skipped = record {
        said = rw value_found (said_go _ none refl (value_tried d) (said_add refl noted_none));
        next = skipped value_there;
      }

-- ---- the field values one after another

-- What is left after some field values: j of them, from `next` on; the names so far are in the set; and the rest of the values says the
-- rest of what all say.
pub record Left (ctx : Context) (side : Records) (at list k step : ℕ) (g : GivenValues ctx side at list k) (q : Spot) (l : Lines) (marks : List ℕ) (next : ℕ) (now : Lines) (j : ℕ) : Type 0 where
  pub vs : Inits
  pub stand : InitsAt (source_of side g.W.text) vs next
  pub many : countⁱ vs ≡ j
  pub deep : g.d + depthsⁱ vs ≤ 61
  pub casts : ShallowCastsEachⁱ vs
  pub ends : next + sizesⁱ vs ≡ at + sizesⁱ g.vs
  pub names : List Name
  pub marked : Marked g.W.text names marks
  pub all : names ++ map (λ v. v.0) (infersⁱ g.W.Γ q.function next vs) ≡ map (λ v. v.0) (infersⁱ g.W.Γ q.function at g.vs)
  pub rest : {l' : Lines}
      → Said g.W.number q (values g.W.Γ step g.fs (infersⁱ g.W.Γ q.function next vs)) (some tt) now l'
      → Said g.W.number q (values g.W.Γ step g.fs (infersⁱ g.W.Γ q.function at g.vs)) (some tt) l l'

-- before the first
pub left_start : {ctx : Context} {side : Records} {at list k step : ℕ} (g : GivenValues ctx side at list k) {q : Spot} {l : Lines} {marks : List ℕ} {j : ℕ}
    → j ≡ k → Marked g.W.text [] marks → Left ctx side at list k step g q l marks at l j
left_start g e f = record {
  vs = g.vs;
  stand = g.stand;
  many = g.many ∙ sym e;
  deep = g.deep;
  casts = g.casts;
  ends = refl;
  names = [];
  marked = f;
  all = refl;
  rest = λ d. d;
}

module _ {vs : Inits} {x : Name} {e : Expr} {us : Inits} (is : vs ≡ init x e us) where
  pub deep_more : (d : ℕ) → d + depthsⁱ vs ≤ 61 → (d + depth e ≤ 61) × (d + depthsⁱ us ≤ 61)
  unfolding depth
  deep_more d h = let z = rw is at h in (omega arith, omega arith)

  pub casts_more : ShallowCastsEachⁱ vs → ShallowCasts e × ShallowCastsEachⁱ us
  unfolding ShallowCasts
  casts_more h = rw is at h

  sizes_more : sizesⁱ vs ≡ 1 + size e + sizesⁱ us
  unfolding size
  sizes_more = rw is

module _ {ctx : Context} {side : Records} {at list k step : ℕ} {g : GivenValues ctx side at list k} {q : Spot} {l : Lines} {marks : List ℕ} {next : ℕ} {now : Lines} {j : ℕ}
    (left : Left ctx side at list k step g q l marks next now j) where
  module _ (some_left : j ≡ 0 → ⊥) where
    abbrev one : FirstValue (source_of side g.W.text) left.vs next j
    one = first_value (source_of side g.W.text) left.vs next j left.many some_left left.stand

    -- the next field value
    abbrev pub left_given : GivenValue ctx side next list
    left_given = record {
      W = g.W;
      x = one.x;
      e = one.e;
      head = one.head;
      name = one.name;
      stands = one.e_at;
      d = g.d;
      top = g.top;
      deep = (deep_more one.is g.d left.deep).0;
      casts = (casts_more one.is left.casts).0;
      fs = g.fs;
      fields = g.fields;
    }

    left_all : (left.names ++ (g.W.text (word_at side next) ∷ [])) ++ map (λ v. v.0) (infersⁱ g.W.Γ q.function (next + 1 + size one.e) one.rest) ≡ map (λ v. v.0) (infersⁱ g.W.Γ q.function at g.vs)
    unfolding infer
    left_all =
        let z = rw one.is at left.all in
        append_assoc left.names (g.W.text (word_at side next) ∷ []) _ ∙ rw one.name.text z

    -- one value more, with its name in the set
    pub left_step : {a : ℕ} {then : Lines} {marks' : List ℕ} {i : ℕ}
        → Marked g.W.text (left.names ++ (g.W.text (word_at side next) ∷ [])) marks'
        → DoneValue ctx side next list step left_given q now a then → i + 1 ≡ j
        → Left ctx side at list k step g q l marks' a then i
    unfolding infer values
    left_step f d e = record {
      vs = one.rest;
      stand = rw d.next one.rest_at;
      many = omega (arith, one.fewer);
      deep = (deep_more one.is g.d left.deep).1;
      casts = (casts_more one.is left.casts).1;
      ends = omega (arith, d.next, left.ends, sizes_more one.is);
      names = left.names ++ (g.W.text (word_at side next) ∷ []);
      marked = f;
      all = rw d.next left_all;
      rest = λ s. left.rest (rw one.is (said_then tt refl d.said (rw d.next at s)));
    }

  -- behind the last
  pub left_end : {set : ValuesLeft} → j ≡ 0 → set.marks.bits ≡ marks → set.next ≡ next → DoneValues ctx side at list k step g q l set now
  unfolding infer values size
  left_end z m n =
      let e = no_values left.vs (left.many ∙ z) in
      let v = rw e at left.ends in
      let u = rw (e, append-nil left.names) at left.all in
      record { said = left.rest (rw e (said_return tt)); next = omega arith; marked = rw (← u, m) left.marked }

-- ---- the struct

module _ {ctx : Context} {side : Records} {at : ℕ} (g : Given ctx side at) (k : kind_at side at ≡ 75) where
  abbrev here : WithName (source_of side g.W.text) at (λ x. inversions.Values (source_of side g.W.text) (struct x) g.e at)
  here = struct_here (source_of side g.W.text) g.e at g.stands k

  pub struct_small : word_at side at < 512
  struct_small = here.name.small

  pub struct_list : RecAt (source_of side g.W.text) (at + 1) 3
  struct_list = here.holds.list

  struct_is : g.e ≡ struct (g.W.text (word_at side at)) here.holds.values
  struct_is = here.holds.is ∙ ap (λ (x : Name). struct x here.holds.values) (sym here.name.text)

  pub struct_deep : g.d + 1 + depthsⁱ here.holds.values ≤ 61
  unfolding depth
  struct_deep = let z = rw struct_is at g.deep in omega arith

  pub struct_casts : ShallowCastsEachⁱ here.holds.values
  unfolding ShallowCasts
  struct_casts = rw struct_is at g.casts

  struct_ends : at + 2 + sizesⁱ here.holds.values ≡ at + size g.e
  unfolding size
  struct_ends = omega (arith, ap size struct_is)

  module _ {name : ℕ} (is : (W : WorldOf ctx) → W.text name ≡ struct_name W.Γ (W.text (word_at side at))) (q : Spot) {l l₁ : Lines} where
    -- no such record: E0125
    pub struct_unknown : (h : code.Option Typ) → ((W : WorldOf ctx) → Declared W at name q l None l₁) → Whole g h q l None l₁
    unfolding infer
    struct_unknown h d = nothing (rw (struct_is, ← is g.W) (d g.W (infersⁱ g.W.Γ q.function (at + 2) here.holds.values) (asHint g.W.text h)))

    module _ {list : ℕ} (dc : (W : WorldOf ctx) → Declared W at name q l (Some list) l₁) where
      abbrev fit : Fields g.W name l list l₁
      fit = dc g.W

      -- the field values beside the record's fields
      abbrev pub struct_given : GivenValues ctx side (at + 2) list (word_at side (at + 1))
      struct_given = record {
        W = g.W;
        vs = here.holds.values;
        stand = here.holds.items;
        many = sym here.holds.many;
        d = g.d + 1;
        top = omega arith;
        deep = struct_deep;
        casts = struct_casts;
        fs = fit.fs;
        fields = fit.listed;
      }

      -- the fields that may be missing
      abbrev pub struct_fields : PortsOf ctx.records list
      struct_fields = record { text = g.W.text; ps = fit.fs; listed = fit.listed }

      -- all is said, E0128 for each field not given, and the type is the record's
      pub struct_done : (h : code.Option Typ) {a : ValuesLeft} {l₂ l₃ : Lines}
          → ((x : GivenValues ctx side (at + 2) list (word_at side (at + 1))) → DoneValues ctx side (at + 2) list (word_at side (at + 1)) at x q l₁ a l₂)
          → ((x : PortsOf ctx.records list) (num : Name → ℕ) → ((i : ℕ) → num (x.text i) ≡ i) → (xs : List Name) → Marked x.text xs a.marks.bits → Noted num q (missing at x.ps xs) l₂ l₃)
          → {t : Typ} → Bottom 33 name t
          → Whole g h q l (Some (record { typ = t; next = a.next })) l₃
      unfolding infer
      struct_done h da dm {t} b =
          closed
          (weaker {least = 0} (omega arith)
          (rw (struct_is, ← is g.W)
          (onward.struct_done at fit _ (asHint g.W.text h) t (da struct_given).said (dm struct_fields g.W.number g.W.back _ (da struct_given).marked)
          (record { is = b.is g.W.text ∙ bottom_name g.W.text 33 name refl; low = omega (arith, b.flat) }))))
          ((da struct_given).next ∙ struct_ends)
