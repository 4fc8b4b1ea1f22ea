-- Arrays, lib.rs 1090: one item beside the first one's type, the items one after another, and the array.
-- Assumes nothing.
use Prim.Native.Nat.{ℕ, suc, ◌+◌, ◌-◌, ◌≤◌, max}
use native.Mathlib.Omega.{arith}
use mathlib.Core.Path.{◌≡◌, refl, sym, ap, subst, ◌∙◌}
use mathlib.Core.Bool.{Bool, true, false}
use mathlib.Core.Option.{Option}
use lib.ListN.{length}
use Rattle.std.specs.Prelude as code
use Rattle.std.specs.Prelude.{Some, None}
use Rattle.std.specs.Bool.{then_some}
use Rattle.lustre.specs.Types.{Array}
use Rattle.lustre.specs.Expr.{Exprs, []ᵉ, array, size, sizes}
use Rattle.lustre.specs.Line.{plain, require}
use Rattle.lustre.specs.Answer.{no_value}
use Rattle.lustre.specs.Grammar.{count}
use Rattle.lustre.specs.Infer.{infer, infers, agrees, element_hint, item, items, empty_array, array_rule}
use Rattle.lustre.specs.declared.Records.{Records}
use Rattle.input.specs.Depths.{depth, depths, ShallowCasts, ShallowCastsEach}
use Rattle.standing.specs.Standing.{ExprsAt}
use Rattle.standing.proofs.Sizes.{FirstExpr, first_expr, no_exprs, count_sizes, expr_end}
use Rattle.standing.proofs.Inversions.{array_here}
use Rattle.standing.proofs.Inversions as inversions
use Rattle.lines.specs.Lines.{Said}
use Rattle.lines.specs.declared.Lines.{Lines}
use Rattle.lines.specs.declared.Spot.{Spot}
use Rattle.lines.proofs.Laws.{noted_plain, said_return, said_fail, said_go, said_stop, said_then, said_halt}
use Rattle.types.specs.Value.{asTy, ArrayOf}
use Rattle.types.specs.Number.{asHint}
use Rattle.types.specs.declared.context.Context.{Context}
use Rattle.types.specs.declared.Typ.{Typ}
use Rattle.rules.specs.World.{WorldOf, source_of}
use Rattle.rules.specs.Post.{Given, Inferring, Failed, HintIs, hint_levels, passes, value_if, typed}
use Rattle.rules.specs.Lists.{DoneItem, GivenItems, DoneItems}
use Rattle.types.specs.declared.Typed as answer
use Rattle.infer.specs.Post.{kind_at}
use Rattle.infer.proofs.Steps.{word_at, nothing, hint_low, Whole, deep_more, casts_more, sizes_more, length_infers}

-- ---- one item

module _ {ctx : Context} {side : Records} {at : ℕ} {h : code.Option Typ} (g : Given ctx side at) {f : Typ} {step : ℕ} {q : Spot} {l l₁ : Lines} where
  -- it has no type
  pub item_stop : Inferring ctx side at h q l None l₁ → DoneItem ctx side at h f step g q l None l₁
  unfolding item
  item_stop d = record { said = said_stop _ refl (d g).said; next = tt }

  -- it has one: E0124 unless that is the first item's
  pub item_done : {a : answer.Typed} {l₂ : Lines} → Inferring ctx side at h q l (Some a) l₁ → (b : Bool)
      → ((W : WorldOf ctx) → Said W.number q (require (agrees W.Γ (asTy W.text f) (asTy W.text a.typ)) (plain step 124)) (passes b) l₁ l₂)
      → DoneItem ctx side at h f step g q l (then_some b a.next) l₂
  unfolding item
  item_done {a} d true e = record { said = said_go _ (asTy g.W.text a.typ) refl (d g).said (e g.W); next = (d g).next }
  item_done {a} d false e = record { said = said_go _ (asTy g.W.text a.typ) refl (d g).said (e g.W); next = tt }

-- ---- the items one after another

-- what is left after some items: j of them, from `next` on; and the rest of the items says the rest of what all say
pub record Left (ctx : Context) (side : Records) (at k : ℕ) (h : code.Option Typ) (f : Typ) (step : ℕ) (g : GivenItems ctx side at k) (q : Spot) (l : Lines) (next : ℕ) (now : Lines) (j : ℕ) : Type 0 where
  pub es : Exprs
  pub stand : ExprsAt (source_of side g.W.text) es next
  pub many : count es ≡ j
  pub deep : g.d + depths es ≤ 61
  pub casts : ShallowCastsEach es
  pub ends : next + sizes es ≡ at + sizes g.es
  pub rest : {v : Option (Unit {0})} {l' : Lines}
      → Said g.W.number q (items g.W.Γ step (asTy g.W.text f) (infers g.W.Γ q.function next es) (asHint g.W.text h)) v now l'
      → Said g.W.number q (items g.W.Γ step (asTy g.W.text f) (infers g.W.Γ q.function at g.es) (asHint g.W.text h)) v l l'

-- before the first
pub left_start : {ctx : Context} {side : Records} {at k : ℕ} {h : code.Option Typ} {f : Typ} {step : ℕ} (g : GivenItems ctx side at k) {q : Spot} {l : Lines} {j : ℕ}
    → j ≡ k → Left ctx side at k h f step g q l at l j
left_start g e = record { es = g.es; stand = g.stand; many = g.many ∙ sym e; deep = g.deep; casts = g.casts; ends = refl; rest = λ d. d }

module _ {ctx : Context} {side : Records} {at k : ℕ} {h : code.Option Typ} {f : Typ} {step : ℕ} {g : GivenItems ctx side at k} {q : Spot} {l : Lines} {next : ℕ} {now : Lines} {j : ℕ}
    (left : Left ctx side at k h f step g q l next now j) where
  module _ (some_left : j ≡ 0 → ⊥) where
    abbrev one : FirstExpr (source_of side g.W.text) left.es next j
    one = first_expr (source_of side g.W.text) left.es next j left.many some_left left.stand

    -- the next item
    abbrev pub left_given : Given ctx side next
    left_given = record {
      W = g.W;
      e = one.e;
      stands = one.e_at;
      d = g.d;
      top = g.top;
      deep = (deep_more one.is g.d left.deep).0;
      casts = (casts_more one.is left.casts).0;
    }

    -- one item more
    pub left_step : {a : ℕ} {then : Lines} {i : ℕ} → DoneItem ctx side next h f step left_given q now (Some a) then → i + 1 ≡ j
        → Left ctx side at k h f step g q l a then i
    unfolding infer items
    left_step {a} d e =
        let n : a ≡ next + size one.e = d.next in
        record {
          es = one.rest;
          stand = rw n one.rest_at;
          many = omega (arith, one.fewer);
          deep = (deep_more one.is g.d left.deep).1;
          casts = (casts_more one.is left.casts).1;
          ends = omega (arith, left.ends, sizes_more one.is);
          rest = λ s. left.rest (rw one.is (said_then tt refl d.said (rw n at s)));
        }

    -- one that does not pass ends them
    pub left_stop : {then : Lines} → DoneItem ctx side next h f step left_given q now None then → DoneItems ctx side at k h f step g q l None then
    unfolding infer items
    left_stop d = record { said = left.rest (rw one.is (said_halt _ refl d.said)); next = tt }

  -- behind the last
  pub left_end : j ≡ 0 → DoneItems ctx side at k h f step g q l (Some next) now
  unfolding infer items size
  left_end z =
      let e = no_exprs left.es (left.many ∙ z) in
      let v = rw e at left.ends in
      record { said = left.rest (rw e (said_return tt)); next = omega arith }

-- ---- the array

module _ {ctx : Context} {side : Records} {at : ℕ} (g : Given ctx side at) (k : kind_at side at ≡ 74) where
  abbrev here : inversions.Items (source_of side g.W.text) array g.e at
  here = array_here (source_of side g.W.text) g.e at g.stands k

  pub array_deep : g.d + 1 + depths here.es ≤ 61
  unfolding depth
  array_deep = let z = rw here.is at g.deep in omega arith

  pub array_casts : ShallowCastsEach here.es
  unfolding ShallowCasts
  array_casts = rw here.is at g.casts

  array_ends : at + 1 + sizes here.es ≡ at + size g.e
  unfolding size
  array_ends = omega (arith, ap size here.is)

  -- an item takes a record at least
  pub array_fits : at + 1 + word_at side at ≤ length side.kinds.now
  array_fits = omega (arith, array_ends, here.many, count_sizes here.es, expr_end (source_of side g.W.text) g.e at g.stands)

  module _ (h : code.Option Typ) {x : code.Option Typ} (ix : (W : WorldOf ctx) → HintIs W.text (element_hint W.Γ (asHint W.text h)) (max 63 (hint_levels h - 1)) x) where
    module _ (z : word_at side at ≡ 0) where
      none_here : here.es ≡ []ᵉ
      none_here = no_exprs here.es (sym here.many ∙ z)

      array_is_empty : (q : Spot) → infer g.W.Γ q.function at g.e (asHint g.W.text h) ≡ empty_array g.W.Γ at (asHint g.W.text x)
      unfolding infer array_rule
      array_is_empty q = rw (here.is, none_here, ← (ix g.W).is) refl

      -- and no hint: E0123
      pub array_unknown : x ≡ None → {q : Spot} {l l' : Lines} {r : code.Option answer.Typed} → Failed q 123 at no_value l r l' → Whole g h q l r l'
      unfolding empty_array
      array_unknown y {q} d = rw d.none (nothing (rw (array_is_empty q, y) (said_fail (noted_plain d.put))))

    -- an array of the hint's elements has room for its length
    pub array_room : {e : Typ} → x ≡ Some e → e.levels ≤ 126
    array_room y = let u = rw y at (ix g.W).low in omega (arith, hint_low h)

    -- no items: the type is the hint's
    pub array_empty : word_at side at ≡ 0 → {e : Typ} → x ≡ Some e → {q : Spot} {l : Lines} {t : Typ} → ArrayOf 0 e t → Whole g h q l (Some (record { typ = t; next = at + 1 })) l
    unfolding empty_array size
    array_empty z {e} y {q} {t = t} d =
        let u = rw y at (ix g.W) in
        record {
          said = rw (array_is_empty z q, y, d.is g.W.text) (said_return (Array 0 (asTy g.W.text e)));
          low = omega (arith, d.levels, u.low, array_deep);
          next = rw (here.is, none_here z) refl;
        }

  module _ (nz : word_at side at ≡ 0 → ⊥) where
    abbrev pub first_here : FirstExpr (source_of side g.W.text) here.es (at + 1) (word_at side at)
    first_here = first_expr (source_of side g.W.text) here.es (at + 1) (word_at side at) (sym here.many) nz here.items

    -- the first item
    abbrev pub array_first : Given ctx side (at + 1)
    array_first = record {
      W = g.W;
      e = first_here.e;
      stands = first_here.e_at;
      d = g.d + 1;
      top = omega arith;
      deep = (deep_more first_here.is (g.d + 1) array_deep).0;
      casts = (casts_more first_here.is array_casts).0;
    }

    module _ (h : code.Option Typ) {x : code.Option Typ} (ix : (W : WorldOf ctx) → HintIs W.text (element_hint W.Γ (asHint W.text h)) (max 63 (hint_levels h - 1)) x) where
      first_said : {q : Spot} {l l₁ : Lines} {a : code.Option answer.Typed} → Inferring ctx side (at + 1) x q l a l₁
          → Said g.W.number q (infer g.W.Γ q.function (at + 1) first_here.e (element_hint g.W.Γ (asHint g.W.text h))) (typed g.W.text a) l l₁
      first_said d = rw (ix g.W).is at (d array_first).said

      -- the first item has no type, nor has the array
      pub array_stop : {q : Spot} {l l₁ : Lines} → Inferring ctx side (at + 1) x q l None l₁ → Whole g h q l None l₁
      unfolding infer array_rule
      array_stop d = nothing (rw (here.is, first_here.is) (said_stop _ refl (first_said d)))

      module _ {q : Spot} {l l₁ : Lines} {a : answer.Typed} (da : Inferring ctx side (at + 1) x q l (Some a) l₁) where
        -- an array of the first item's type has room for its length
        pub array_low : a.typ.levels ≤ 126
        array_low = omega (arith, (da array_first).low, (ix g.W).low, hint_low h, g.top)

        -- the other items
        abbrev pub array_given : (j : ℕ) → j + 1 ≡ word_at side at → GivenItems ctx side a.next j
        array_given j e = record {
          W = g.W;
          es = first_here.rest;
          stand = rw (da array_first).next first_here.rest_at;
          many = omega (arith, first_here.fewer);
          d = g.d + 1;
          top = omega arith;
          deep = (deep_more first_here.is (g.d + 1) array_deep).1;
          casts = (casts_more first_here.is array_casts).1;
        }

        module _ {j : ℕ} (e : j + 1 ≡ word_at side at) {l₂ : Lines} where
          rest_said : {b : code.Option ℕ} → ((gs : GivenItems ctx side a.next j) → DoneItems ctx side a.next j x a.typ at gs q l₁ b l₂)
              → Said g.W.number q (items g.W.Γ at (asTy g.W.text a.typ) (infers g.W.Γ q.function (at + 1 + size first_here.e) first_here.rest) (element_hint g.W.Γ (asHint g.W.text h))) (value_if b tt) l₁ l₂
          rest_said {b} d = subst (λ (p : ℕ). Said g.W.number q (items g.W.Γ at (asTy g.W.text a.typ) (infers g.W.Γ q.function p first_here.rest) (element_hint g.W.Γ (asHint g.W.text h))) (value_if b tt) l₁ l₂) (da array_first).next (rw (ix g.W).is at (d (array_given j e)).said)

          -- an item does not pass: no type
          pub array_refused : ((gs : GivenItems ctx side a.next j) → DoneItems ctx side a.next j x a.typ at gs q l₁ None l₂) → Whole g h q l None l₂
          unfolding infer array_rule
          array_refused d = nothing (rw (here.is, first_here.is) (said_go _ (asTy g.W.text a.typ) refl (first_said da) (said_halt _ refl (rest_said d))))

          -- all pass: an array of as many as there are
          pub array_done : {b : ℕ} → ((gs : GivenItems ctx side a.next j) → DoneItems ctx side a.next j x a.typ at gs q l₁ (Some b) l₂)
              → {c : ℕ} {t : Typ} → c ≡ word_at side at → ArrayOf c a.typ t → Whole g h q l (Some (record { typ = t; next = b })) l₂
          unfolding infer array_rule
          array_done {b} d {c} {t} f v =
              let s : suc (length (infers g.W.Γ q.function (at + 1 + size first_here.e) first_here.rest)) ≡ c = omega (arith, length_infers g.W.Γ q.function (at + 1 + size first_here.e) first_here.rest, first_here.fewer) in
              record {
                said = rw (here.is, first_here.is, v.is g.W.text, ← s) (said_go _ (asTy g.W.text a.typ) refl (first_said da) (said_then tt refl (rest_said d) (said_return _)));
                low = omega (arith, v.levels, (da array_first).low, (ix g.W).low, array_deep);
                next = omega (arith, (d (array_given j e)).next, (da array_first).next, sizes_more first_here.is, array_ends);
              }
