-- Calls, lib.rs 948: one argument beside its port, the arguments one after another, and the call.
-- Assumes nothing.
use Prim.Native.Nat.{ℕ, ◌+◌, ◌<◌, ◌≤◌}
use native.Mathlib.Omega.{arith}
use mathlib.Core.Path.{◌≡◌, refl, sym, ap, ◌∙◌}
use mathlib.Core.Bool.{Bool}
use mathlib.Core.List.{List, ◌∷◌}
use mathlib.Core.Option.{none, some}
use lib.ListN.{length}
use Rattle.std.specs.Prelude as code
use Rattle.std.specs.Prelude.{Some, None}
use Rattle.lustre.specs.Name.{Name}
use Rattle.lustre.specs.Expr.{Exprs, call, size, sizes}
use Rattle.lustre.specs.Line.{named, try}
use Rattle.lustre.specs.Grammar.{count}
use Rattle.lustre.specs.Project.{Port}
use Rattle.lustre.specs.Infer.{infer, infers, unless_agrees, argument, arguments, outputs_type}
use Rattle.lustre.specs.declared.Records.{Records}
use Rattle.input.specs.Depths.{depth, depths, ShallowType, ShallowPorts, ShallowCasts, ShallowCastsEach}
use Rattle.standing.specs.Standing.{RecAt, ExprsAt, EachAt, PortAt, port_size, sizes_of}
use Rattle.standing.specs.Owed.{There}
use Rattle.standing.proofs.Sizes.{FirstExpr, first_expr, First, first, no_exprs, no_items}
use Rattle.standing.proofs.Inversions.{WithName, call_here}
use Rattle.standing.proofs.Inversions as inversions
use Rattle.lines.specs.Lines.{Noted, Said}
use Rattle.lines.specs.declared.Lines.{Lines}
use Rattle.lines.specs.declared.Spot.{Spot}
use Rattle.lines.proofs.Laws.{noted_none, said_return, said_add, said_try, said_go, said_then}
use Rattle.types.specs.Value.{asTy}
use Rattle.types.specs.Number.{asHint}
use Rattle.types.specs.Place.{Read}
use Rattle.types.specs.declared.context.Context.{Context}
use Rattle.types.specs.declared.Typ.{Typ}
use Rattle.rules.specs.World.{WorldOf, source_of, PortsOf}
use Rattle.rules.specs.Post.{Given, Inferring, TypeIs, typed}
use Rattle.rules.specs.Ports.{Callable, Called}
use Rattle.rules.specs.Lists.{GivenArg, DoneArg, GivenArgs, DoneArgs}
use Rattle.rules.specs.declared.Seen.{Seen}
use Rattle.types.specs.declared.Typed as answer
use Rattle.rules.proofs.Laws.{closed, weaker}
use Rattle.rules.proofs.Places.{read_is, read_next}
use Rattle.rules.proofs.Onward as rest
use Rattle.infer.specs.Post.{kind_at}
use Rattle.infer.proofs.Steps.{word_at, nothing, Whole, deep_more, casts_more, sizes_more, length_infers}

-- ---- one argument

module _ {ctx : Context} {side : Records} {at port : ℕ} (g : GivenArg ctx side at port) where
  -- the record behind the argument is asked of this
  abbrev pub arg_there : There side.kinds.now side.words.now at
  arg_there = record { text = g.W.text; e = g.e; stands = g.stands }

  module _ {want : Typ} {behind : ℕ} (rd : Read ctx.records.kinds.now ctx.records.words.now (port + 1) want behind) where
    arg_is : asTy g.W.text want ≡ g.t
    arg_is = (read_is g.typed rd).is

    -- the argument under its port's type as hint
    abbrev pub arg_given : Given ctx side at
    arg_given = record { W = g.W; e = g.e; stands = g.stands; d = g.d; top = g.top; deep = g.deep; casts = g.casts }

    arg_tried : {q : Spot} {l l₁ : Lines} {a : code.Option answer.Typed} → Inferring ctx side at (Some want) q l a l₁
        → Said g.W.number q (try (infer g.W.Γ q.function at g.e (some g.t))) (some (typed g.W.text a)) l l₁
    arg_tried d = said_try (rw arg_is at (d arg_given).said)

    -- it has a type: E0103 unless that is the port's
    pub arg_done : {q : Spot} {l l₁ l₂ : Lines} {a : answer.Typed} {step name : ℕ} → Inferring ctx side at (Some want) q l (Some a) l₁
        → ((W : WorldOf ctx) → Noted W.number q (unless_agrees W.Γ (asTy W.text want) (some (asTy W.text a.typ)) (named step 103 (W.text name))) l₁ l₂)
        → DoneArg ctx side at port step name g q l (record { next = a.next; port = behind }) l₂
    unfolding argument
    arg_done {a = a} d noted = record {
      said = said_go _ (some (asTy g.W.text a.typ)) refl (arg_tried d) (said_add refl (rw arg_is at (noted g.W)));
      next = (d arg_given).next;
      after = read_next g.typed rd;
    }

    -- it has none: nothing more is said, and the argument is passed over
    pub arg_skipped : {q : Spot} {l l₁ : Lines} {step name next : ℕ} → Inferring ctx side at (Some want) q l None l₁
        → ((t : There side.kinds.now side.words.now at) → next ≡ at + size t.e)
        → DoneArg ctx side at port step name g q l (record { next = next; port = behind }) l₁
    unfolding argument unless_agrees
    arg_skipped d skipped = record {
      said = said_go _ none refl (arg_tried d) (said_add refl noted_none);
      next = skipped arg_there;
      after = read_next g.typed rd;
    }

-- ---- the arguments one after another

-- What is left after some arguments: j of them, behind those seen, with their ports; and the rest of the arguments says the rest of what
-- all say.
pub record Left (ctx : Context) (side : Records) (at port k step name : ℕ) (g : GivenArgs ctx side at port k) (q : Spot) (l : Lines) (seen : Seen) (now : Lines) (j : ℕ) : Type 0 where
  pub es : Exprs
  pub stand : ExprsAt (source_of side g.W.text) es seen.next
  pub many : count es ≡ j
  pub deep : g.d + depths es ≤ 61
  pub casts : ShallowCastsEach es
  pub ps : List Port
  pub ports : EachAt (PortAt (source_of ctx.records g.W.text)) port_size ps seen.port
  pub few : ShallowPorts ps
  pub same : length ps ≡ j
  pub ends : seen.next + sizes es ≡ at + sizes g.es
  pub closes : seen.port + sizes_of port_size ps ≡ port + sizes_of port_size g.ps
  pub rest : {l' : Lines}
      → Said g.W.number q (arguments g.W.Γ step (g.W.text name) (infers g.W.Γ q.function seen.next es) ps) (some tt) now l'
      → Said g.W.number q (arguments g.W.Γ step (g.W.text name) (infers g.W.Γ q.function at g.es) g.ps) (some tt) l l'

-- before the first
pub left_start : {ctx : Context} {side : Records} {at port k step name : ℕ} (g : GivenArgs ctx side at port k) {q : Spot} {l : Lines} {j : ℕ}
    → j ≡ k → Left ctx side at port k step name g q l (record { next = at; port = port }) l j
left_start g e = record {
  es = g.es;
  stand = g.stand;
  many = g.many ∙ sym e;
  deep = g.deep;
  casts = g.casts;
  ps = g.ps;
  ports = g.ports;
  few = g.few;
  same = g.same ∙ sym e;
  ends = refl;
  closes = refl;
  rest = λ d. d;
}

-- the first port's type is shallow, and so are the others'
pub few_more : {ps : List Port} {p : Port} {rest : List Port} → ps ≡ p ∷ rest → ShallowPorts ps → ShallowType p.1 × ShallowPorts rest
few_more is h = rw is at h

ports_more : {ps : List Port} {p : Port} {rest : List Port} → ps ≡ p ∷ rest → sizes_of port_size ps ≡ port_size p + sizes_of port_size rest
unfolding sizes_of
ports_more is = rw is

module _ {ctx : Context} {side : Records} {at port k step name : ℕ} {g : GivenArgs ctx side at port k} {q : Spot} {l : Lines} {seen : Seen} {now : Lines} {j : ℕ}
    (left : Left ctx side at port k step name g q l seen now j) where
  module _ (some_left : j ≡ 0 → ⊥) where
    abbrev one : FirstExpr (source_of side g.W.text) left.es seen.next j
    one = first_expr (source_of side g.W.text) left.es seen.next j left.many some_left left.stand

    abbrev its : First (PortAt (source_of ctx.records g.W.text)) port_size left.ps seen.port j
    its = first (PortAt (source_of ctx.records g.W.text)) port_size left.ps seen.port j left.same some_left left.ports

    -- the next argument and its port
    abbrev pub left_given : GivenArg ctx side seen.next seen.port
    left_given = record {
      W = g.W;
      e = one.e;
      stands = one.e_at;
      d = g.d;
      top = g.top;
      deep = (deep_more one.is g.d left.deep).0;
      casts = (casts_more one.is left.casts).0;
      t = its.x.1;
      typed = record { stands = its.x_at.type; few = (few_more its.is left.few).0 };
    }

    -- one argument more
    pub left_step : {a : Seen} {then : Lines} {i : ℕ} → DoneArg ctx side seen.next seen.port step name left_given q now a then → i + 1 ≡ j
        → Left ctx side at port k step name g q l a then i
    unfolding infer arguments
    left_step {a} d e = record {
      es = one.rest;
      stand = rw d.next one.rest_at;
      many = omega (arith, one.fewer);
      deep = (deep_more one.is g.d left.deep).1;
      casts = (casts_more one.is left.casts).1;
      ps = its.rest;
      ports =
          let z : a.port ≡ seen.port + port_size its.x = omega (arith, d.after) in
          rw z its.rest_at;
      few = (few_more its.is left.few).1;
      same = omega (arith, its.fewer);
      ends = omega (arith, d.next, left.ends, sizes_more one.is);
      closes = omega (arith, d.after, left.closes, ports_more its.is);
      rest = λ s. left.rest (rw (one.is, its.is) (said_then tt refl d.said (rw d.next at s)));
    }

  -- behind the last
  pub left_end : j ≡ 0 → DoneArgs ctx side at port k step name g q l seen now
  unfolding infer arguments size sizes_of
  left_end z =
      let e = no_exprs left.es (left.many ∙ z) in
      let f = no_items left.ps (left.same ∙ z) in
      let u = rw e at left.ends in
      let v = rw f at left.closes in
      record { said = left.rest (rw e (said_return tt)); next = omega arith; after = omega arith }

-- ---- the call

module _ {ctx : Context} {side : Records} {at : ℕ} (g : Given ctx side at) (k : kind_at side at ≡ 70) where
  abbrev here : WithName (source_of side g.W.text) at (λ f. inversions.Arguments (source_of side g.W.text) (call f) g.e at)
  here = call_here (source_of side g.W.text) g.e at g.stands k

  pub call_small : word_at side at < 512
  call_small = here.name.small

  pub call_list : RecAt (source_of side g.W.text) (at + 1) 3
  call_list = here.holds.list

  call_is : g.e ≡ call (g.W.text (word_at side at)) here.holds.es
  call_is = here.holds.is ∙ ap (λ (f : Name). call f here.holds.es) (sym here.name.text)

  pub call_deep : g.d + 1 + depths here.holds.es ≤ 61
  unfolding depth
  call_deep = let z = rw call_is at g.deep in omega arith

  pub call_casts : ShallowCastsEach here.holds.es
  unfolding ShallowCasts
  call_casts = rw call_is at g.casts

  call_ends : at + 2 + sizes here.holds.es ≡ at + size g.e
  unfolding size
  call_ends = omega (arith, ap size call_is)

  call_counts : (f : Bool) → length (infers g.W.Γ f (at + 2) here.holds.es) ≡ word_at side (at + 1)
  call_counts f = length_infers g.W.Γ f (at + 2) here.holds.es ∙ sym here.holds.many

  -- the callee is not fit: E0100, or E0102 behind E0101 if that is due
  pub call_refused : (h : code.Option Typ) {q : Spot} {l l₁ : Lines} → ((W : WorldOf ctx) → Called W at (word_at side at) (word_at side (at + 1)) q l None l₁) → Whole g h q l None l₁
  unfolding infer
  call_refused h {q} d = nothing (rw call_is (d g.W (infers g.W.Γ q.function (at + 2) here.holds.es) (asHint g.W.text h) (call_counts q.function)))

  module _ {q : Spot} {l l₁ : Lines} {port : ℕ} (dc : (W : WorldOf ctx) → Called W at (word_at side at) (word_at side (at + 1)) q l (Some port) l₁) where
    abbrev fit : Callable g.W at (word_at side at) (word_at side (at + 1)) q l port l₁
    fit = dc g.W

    -- the arguments beside the callee's inputs
    abbrev pub call_given : GivenArgs ctx side (at + 2) port (word_at side (at + 1))
    call_given = record {
      W = g.W;
      es = here.holds.es;
      stand = here.holds.items;
      many = sym here.holds.many;
      d = g.d + 1;
      top = omega arith;
      deep = call_deep;
      casts = call_casts;
      ps = fit.sig.inputs;
      ports = fit.ports;
      few = fit.few;
      same = fit.many;
    }

    module _ {l₂ : Lines} {a : Seen} (da : (x : GivenArgs ctx side (at + 2) port (word_at side (at + 1))) → DoneArgs ctx side (at + 2) port (word_at side (at + 1)) at (word_at side at) x q l₁ a l₂) where
      -- the callee's outputs stand behind its inputs
      abbrev pub call_outputs : PortsOf ctx.records a.port
      call_outputs = record { text = g.W.text; ps = fit.sig.outputs; listed = rw (da call_given).after fit.outputs }

      -- all is said, and the type is that of the outputs
      pub call_done : (h : code.Option Typ) {t : Typ} → ((x : PortsOf ctx.records a.port) → TypeIs x.text (outputs_type x.ps) 67 t)
          → Whole g h q l (Some (record { typ = t; next = a.next })) l₂
      unfolding infer
      call_done h f =
          closed
          (weaker {least = 67} (omega (arith, call_deep)) (rw call_is (rest.call_done at fit _ (asHint g.W.text h) _ (call_counts q.function) (da call_given).said (f call_outputs))))
          ((da call_given).next ∙ call_ends)
