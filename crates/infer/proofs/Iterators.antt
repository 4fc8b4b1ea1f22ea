-- Iterators, lib.rs 1233: what is gathered of the function and the arrays, and the maps and folds that end with it.
-- Assumes nothing.
use Prim.Native.Nat.{ℕ, ◌+◌, ◌<◌, ◌≤◌}
use native.Mathlib.Omega.{arith}
use mathlib.Core.Path.{◌≡◌, refl, sym, ap, subst, ◌∙◌}
use mathlib.Core.Bool.{Bool, true, false}
use mathlib.Core.List.{List}
use mathlib.Core.Option.{Option, none, some}
use lib.ListN.{length}
use Rattle.std.specs.Prelude as code
use Rattle.std.specs.Prelude.{Some, None, MatchOption, IsSomeAnd}
use Rattle.lustre.specs.Name.{Name}
use Rattle.lustre.specs.Types.{Ty}
use Rattle.lustre.specs.Expr.{Expr, Exprs, IterKind, Map, Fold, iterate, iterate_from, size, sizes}
use Rattle.lustre.specs.Line.{plain, require, ◌>>=◌, ◌>>◌}
use Rattle.lustre.specs.Answer.{no_value}
use Rattle.lustre.specs.Grammar.{count, iterate_kind, iterate_from_kind}
use Rattle.lustre.specs.Project.{Port}
use Rattle.lustre.specs.Resolve.{Scope}
use Rattle.lustre.specs.Infer.{Typing, infer, infers, if_found, one_output, same_lengths, arrays, iterate_as, iterate_of, iterate_rule}
use Rattle.lustre.specs.declared.Records.{Records}
use Rattle.input.specs.Depths.{depth, depths, ShallowCasts, ShallowCastsEach}
use Rattle.standing.specs.Standing.{Source, word, RecAt, ExprAt, ExprsAt}
use Rattle.standing.specs.Owed.{There}
use Rattle.standing.proofs.Inversions.{WithName, iterate_here, iterate_from_here}
use Rattle.standing.proofs.Inversions as inversions
use Rattle.lines.specs.Lines.{Said}
use Rattle.lines.specs.declared.Lines.{Lines}
use Rattle.lines.specs.declared.Spot.{Spot}
use Rattle.lines.proofs.Laws.{noted_plain, said_return, said_pass, said_refuse, said_go, said_stop, said_then, said_halt}
use Rattle.types.specs.Value.{Naming, asTy}
use Rattle.types.specs.Number.{asHint}
use Rattle.types.specs.declared.context.Context.{Context}
use Rattle.types.specs.declared.Typ.{Typ}
use Rattle.rules.specs.World.{WorldOf, source_of, Listed, PortsOf}
use Rattle.rules.specs.Post.{Given, Concludes, Inferring, Failed, typed}
use Rattle.rules.specs.Flags.{Flags}
use Rattle.rules.specs.Iterators.{Function, Iterated, TwoInputs, FoldStarts, fold_end}
use Rattle.rules.specs.Lists.{GivenArrays, DoneArrays}
use Rattle.types.specs.declared.Typed as answer
use Rattle.rules.specs.declared.iterators.ArraysLeft.{ArraysLeft}
use Rattle.rules.specs.declared.iterators.Callee.{Callee}
use Rattle.rules.specs.declared.iterators.FoldInputs.{FoldInputs}
use Rattle.rules.proofs.Laws.{weaker}
use Rattle.rules.proofs.Onward.{fold_unseeded, fold_seeded}
use Rattle.infer.specs.Post.{kind_at, GivenGather, Ready, DoneGather, ListBehind}
use Rattle.infer.specs.declared.Gathered.{Gathered}
use Rattle.infer.proofs.Steps.{word_at, said_from, nothing, Whole, Ends}

-- the type of an answer, without its place
pub mapped : (ρ : Naming) (a : code.Option answer.Typed) (s : code.Option Typ) → MatchOption a (s ≡ None) (λ x. IsSomeAnd s (λ t. t ≡ x.typ)) → asHint ρ s ≡ typed ρ a
mapped ρ None s e = rw e refl
mapped ρ (Some x) None e = absurd e
mapped ρ (Some x) (Some t) e = rw e refl

-- ---- before the last tests

module _ {ctx : Context} {side : Records} {list : ℕ} (g : GivenGather ctx side list) (name step : ℕ) (q : Spot) {l l₁ : Lines} where
  -- the function is not fit: E0140 to E0142
  pub gather_unfit : ((W : WorldOf ctx) → Iterated W step name q l None l₁) → DoneGather ctx side list name step g q l None l₁
  gather_unfit d = λ k seed hint. d g.W k seed (infers g.W.Γ q.function (list + 1) g.es) hint

  module _ {c : Callee} (dc : (W : WorldOf ctx) → Iterated W step name q l (Some c) l₁) where
    abbrev fit : Function g.W name l c l₁
    fit = dc g.W

    -- the arrays beside the function's inputs
    abbrev pub gather_given : GivenArrays ctx side (list + 1) c.inputs (word_at side list)
    gather_given = record {
      W = g.W;
      es = g.es;
      stand = g.stand;
      many = sym g.many;
      d = g.d;
      top = g.top;
      deep = g.deep;
      casts = g.casts;
      ps = fit.sig.inputs;
      inputs = fit.inputs;
    }

    -- what the arrays and the tests behind them say, the iterator says
    gather_said : (k : IterKind) (seed : Option Typing) (hint : Option Ty) {v : Option Ty} {l' : Lines}
        → Said g.W.number q
        (arrays g.W.Γ step (infers g.W.Γ q.function (list + 1) g.es) >>= λ ds. require (same_lengths ds) (plain step 144) >> iterate_as g.W.Γ k step fit.sig.inputs seed ds (asTy g.W.text c.result))
        v l₁ l'
        → Said g.W.number q (iterate_rule g.W.Γ step k (g.W.text name) seed (infers g.W.Γ q.function (list + 1) g.es) hint) v l l'
    unfolding iterate_rule iterate_of if_found one_output
    gather_said k seed hint d =
        rw fit.node (said_then tt refl (said_pass _ fit.function)
        (said_go _ (asTy g.W.text c.result) refl (rw fit.outputs (said_return (asTy g.W.text c.result)))
        (said_from fit.same d)))

    -- an operand is no array, or has no type
    pub gather_stop : {l₂ : Lines} → ((x : GivenArrays ctx side (list + 1) c.inputs (word_at side list)) → DoneArrays ctx side (list + 1) c.inputs (word_at side list) step x q l₁ None l₂)
        → DoneGather ctx side list name step g q l None l₂
    gather_stop d = λ k seed hint. gather_said k seed hint (said_stop _ refl (d gather_given).said)

    module _ {a : ArraysLeft} {l₂ : Lines} (da : (x : GivenArrays ctx side (list + 1) c.inputs (word_at side list)) → DoneArrays ctx side (list + 1) c.inputs (word_at side list) step x q l₁ (Some a) l₂) where
      gather_arrays : (k : IterKind) (seed : Option Typing) (hint : Option Ty) {v : Option Ty} {l' : Lines}
          → Said g.W.number q (require (same_lengths (da gather_given).ds) (plain step 144) >> iterate_as g.W.Γ k step fit.sig.inputs seed (da gather_given).ds (asTy g.W.text c.result)) v l₂ l'
          → Said g.W.number q (iterate_rule g.W.Γ step k (g.W.text name) seed (infers g.W.Γ q.function (list + 1) g.es) hint) v l l'
      gather_arrays k seed hint d = gather_said k seed hint (said_go _ (da gather_given).ds refl (da gather_given).said d)

      -- the lengths are not equal: E0144
      pub gather_uneven : a.kept.even ≡ false → {r : code.Option Gathered} {l₃ : Lines} → Failed q 144 step no_value l₂ r l₃ → DoneGather ctx side list name step g q l r l₃
      gather_uneven t f = rw f.none (λ k seed hint. gather_arrays k seed hint (said_halt _ refl (said_refuse (sym (da gather_given).flags.even ∙ t) (noted_plain f.put))))

      -- all is well: the last tests follow
      pub gather_done : a.kept.even ≡ true → DoneGather ctx side list name step g q l (Some (record { inputs = c.inputs; result = c.result; kept = a.kept; next = a.next })) l₂
      gather_done t = record {
        ps = fit.sig.inputs;
        inputs = fit.inputs;
        ds = (da gather_given).ds;
        flags = (da gather_given).flags;
        many = (da gather_given).many ∙ g.many;
        low = fit.low;
        next = (da gather_given).next;
        rest = λ k seed hint d. gather_arrays k seed hint (said_then tt refl (said_pass _ (sym (da gather_given).flags.even ∙ t)) d);
      }

-- ---- the iterator

-- the expression e at a place is an iterator of form i whose arrays are in the list at another place, and the typing of its seed is `seed`
pub record Iterates (S : Source) (e : Expr) (at list : ℕ) (i : IterKind) (seed : Scope → Bool → Option Typing) : Type 0 where
  pub es : Exprs
  pub infers_as : (Γ : Scope) (f : Bool) (hint : Option Ty) → infer Γ f at e hint ≡ iterate_rule Γ at i (S.text (word S at)) (seed Γ f) (infers Γ f (list + 1) es) hint
  pub small : word S at < 512
  pub head : RecAt S list 3
  pub many : word S list ≡ count es
  pub items : ExprsAt S es (list + 1)
  pub deeper : depths es + 1 ≤ depth e
  pub casts : ShallowCasts e → ShallowCastsEach es
  pub ends : list + 1 + sizes es ≡ at + size e

module _ {ctx : Context} {side : Records} {at : ℕ} (g : Given ctx side at) (i : IterKind) where
  -- an iterator without a seed
  unseeded : {list : ℕ} → kind_at side at ≡ iterate_kind i → list ≡ at + 1 → Iterates (source_of side g.W.text) g.e at list i (λ Γ f. none)
  unfolding infer size depth ShallowCasts
  unseeded {list} k s =
      let w = iterate_here (source_of side g.W.text) g.e at g.stands i k in
      let is : g.e ≡ iterate i (g.W.text (word_at side at)) w.holds.es = w.holds.is ∙ ap (λ (f : Name). iterate i f w.holds.es) (sym w.name.text) in
      let z : list + 1 ≡ at + 2 = omega arith in
      record {
        es = w.holds.es;
        infers_as = λ Γ f hint. ap (λ (x : Expr). infer Γ f at x hint) is ∙ rw z;
        small = w.name.small;
        head = rw s w.holds.list;
        many = rw s w.holds.many;
        items = rw z w.holds.items;
        deeper = omega (arith, ap depth is);
        casts = λ c. subst ShallowCasts is c;
        ends = omega (arith, ap size is);
      }

  -- an iterator with a seed
  module _ (k : kind_at side at ≡ iterate_from_kind i) where
    abbrev from : WithName (source_of side g.W.text) at (λ f. inversions.Seeded (source_of side g.W.text) (iterate_from i f) g.e at)
    from = iterate_from_here (source_of side g.W.text) g.e at g.stands i k

    -- the record behind the seed is asked of this
    abbrev pub seed_there : There side.kinds.now side.words.now (at + 1)
    seed_there = record { text = g.W.text; e = from.holds.seed; stands = from.holds.seed_at }

    from_is : g.e ≡ iterate_from i (g.W.text (word_at side at)) from.holds.seed from.holds.es
    from_is = from.holds.is ∙ ap (λ (f : Name). iterate_from i f from.holds.seed from.holds.es) (sym from.name.text)

    pub seed_deeper : depth seed_there.e + 1 ≤ depth g.e
    unfolding depth
    seed_deeper = omega (arith, ap depth from_is)

    pub seed_casts : ShallowCasts seed_there.e
    unfolding ShallowCasts
    seed_casts = (subst ShallowCasts from_is g.casts).0

    seeded : {list : ℕ} → ((t : There side.kinds.now side.words.now (at + 1)) → list ≡ at + 1 + size t.e) → Iterates (source_of side g.W.text) g.e at list i (λ Γ f. some (infer Γ f (at + 1) seed_there.e))
    unfolding infer size depth ShallowCasts
    seeded {list} skipped =
        let s = skipped seed_there in
        let z : list + 1 ≡ at + 2 + size seed_there.e = omega arith in
        record {
          es = from.holds.es;
          infers_as = λ Γ f hint. ap (λ (x : Expr). infer Γ f at x hint) from_is ∙ rw z;
          small = from.name.small;
          head = rw s from.holds.list;
          many = rw s from.holds.many;
          items = rw z from.holds.items;
          deeper = omega (arith, ap depth from_is);
          casts = λ c. (subst ShallowCasts from_is c).1;
          ends = omega (arith, ap size from_is);
        }

module _ {ctx : Context} {side : Records} {at : ℕ} (g : Given ctx side at) (i : IterKind) (list : ℕ) where
  -- the list stands behind the iterator's record
  pub list_behind : (seed : code.Option ℕ) → ListBehind i side at seed list → at < list
  list_behind None b = omega (arith, b.1)
  list_behind (Some p) b = omega (arith, b.2 (seed_there g i b.0))

  -- the typing of its seed
  abbrev pub seed_of : (seed : code.Option ℕ) → ListBehind i side at seed list → Scope → Bool → Option Typing
  seed_of None b = λ Γ f. none
  seed_of (Some p) b = λ Γ f. some (infer Γ f (at + 1) (seed_there g i b.0).e)

  pub iterates : (seed : code.Option ℕ) (b : ListBehind i side at seed list) → Iterates (source_of side g.W.text) g.e at list i (seed_of seed b)
  iterates None b = unseeded g i b.0 b.1
  iterates (Some p) b = seeded g i b.0 b.2

  -- without a seed there is no typing of one
  no_seed : (seed : code.Option ℕ) (b : ListBehind i side at seed list) → seed ≡ None → (Γ : Scope) (f : Bool) → seed_of seed b Γ f ≡ none
  no_seed None b e Γ f = refl
  no_seed (Some p) b e Γ f = cc

  -- the seed at a place
  pub record SeedAt (seed : code.Option ℕ) (b : ListBehind i side at seed list) (p : ℕ) : Type 0 where
    pub e : Expr
    pub stands : ExprAt (source_of side g.W.text) e p
    pub deeper : depth e + 1 ≤ depth g.e
    pub casts : ShallowCasts e
    pub is : (Γ : Scope) (f : Bool) → seed_of seed b Γ f ≡ some (infer Γ f p e)
    pub inside : p ≡ at + 1

  pub seed_at : (seed : code.Option ℕ) (b : ListBehind i side at seed list) (p : ℕ) → seed ≡ Some p → SeedAt seed b p
  seed_at None b p e = cc
  seed_at (Some r) b p e =
      let t = seed_there g i b.0 in
      let z : p ≡ at + 1 = (let y : r ≡ p = cc in sym y ∙ b.1) in
      record {
        e = t.e;
        stands = rw z t.stands;
        deeper = seed_deeper g i b.0;
        casts = seed_casts g i b.0;
        is = λ Γ f. rw z refl;
        inside = z;
      }

  -- what the call on it is given
  abbrev pub seed_given : (seed : code.Option ℕ) (b : ListBehind i side at seed list) {p : ℕ} → seed ≡ Some p → Given ctx side p
  seed_given seed b {p} e =
      let s = seed_at seed b p e in
      record {
        W = g.W;
        e = s.e;
        stands = s.stands;
        d = g.d + 1;
        top = omega arith;
        deep = omega (arith, g.deep, s.deeper);
        casts = s.casts;
      }

  module _ (seed : code.Option ℕ) (b : ListBehind i side at seed list) where
    abbrev pub w : Iterates (source_of side g.W.text) g.e at list i (seed_of seed b)
    w = iterates seed b

    -- its arrays
    abbrev pub iterator_given : GivenGather ctx side list
    iterator_given = record {
      W = g.W;
      head = w.head;
      es = w.es;
      many = w.many;
      stand = w.items;
      d = g.d + 1;
      top = omega arith;
      deep = omega (arith, g.deep, w.deeper);
      casts = w.casts g.casts;
    }

    -- all is said: E0140 to E0144
    pub iterator_unfit : (h : code.Option Typ) {q : Spot} {l l₁ : Lines} → ((x : GivenGather ctx side list) → DoneGather ctx side list (word_at side at) at x q l None l₁) → Whole g h q l None l₁
    iterator_unfit h {q} d = nothing (rw (w.infers_as g.W.Γ q.function (asHint g.W.text h)) (d iterator_given i (seed_of seed b g.W.Γ q.function) (asHint g.W.text h)))

    module _ {q : Spot} {l l₁ : Lines} {r : Gathered} {name : ℕ} (named : name ≡ word_at side at) (dg : (x : GivenGather ctx side list) → DoneGather ctx side list name at x q l (Some r) l₁) where
      abbrev pub iterator_ready : Ready ctx side list name at iterator_given q l r l₁
      iterator_ready = dg iterator_given

      -- the function's inputs
      abbrev pub iterator_inputs : PortsOf ctx.records r.inputs
      iterator_inputs = record { text = g.W.text; ps = iterator_ready.ps; listed = iterator_ready.inputs }

      -- where it ends
      pub iterator_end : r.next ≡ at + size g.e
      iterator_end = iterator_ready.next ∙ w.ends

      -- what the last tests say, the iterator says
      iterator_said : (h : code.Option Typ) {v : Option Ty} {l₂ : Lines}
          → Said g.W.number q (iterate_as g.W.Γ i at iterator_ready.ps (seed_of seed b g.W.Γ q.function) iterator_ready.ds (asTy g.W.text r.result)) v l₁ l₂
          → Said g.W.number q (infer g.W.Γ q.function at g.e (asHint g.W.text h)) v l l₂
      iterator_said h d = rw (w.infers_as g.W.Γ q.function (asHint g.W.text h)) (rw named at (iterator_ready.rest i (seed_of seed b g.W.Γ q.function) (asHint g.W.text h) d))

      iterator_done : (h : code.Option Typ) {high : ℕ} {x : code.Option Typ} {l₂ : Lines} → high ≤ 68
          → Concludes g.W.number g.W.text q (iterate_as g.W.Γ i at iterator_ready.ps (seed_of seed b g.W.Γ q.function) iterator_ready.ds (asTy g.W.text r.result)) high l₁ x l₂
          → Ends g h q l x l₂
      iterator_done h {high} e d = weaker {least = high} (omega (arith, g.deep, w.deeper)) (record { said = iterator_said h d.said; low = d.low })

      -- ---- a map

      -- the arrays are as many as the inputs and agree with them, or E0145
      pub map_done : (h : code.Option Typ) → i ≡ Map → {x : code.Option Typ} {l₂ : Lines}
          → ((num : Name → ℕ) (ρ : Naming) (Γ : Scope) (ds : List (ℕ × Ty)) (ps : List Port) (s : Option Typing) → Flags Γ ρ ds ps r.kept → length ps ≡ word_at ctx.records r.inputs → length ds ≡ word_at side list
          → Concludes num ρ q (iterate_as Γ Map at ps s ds (asTy ρ r.result)) (r.result.levels + 1) l₁ x l₂)
          → Ends g h q l x l₂
      map_done h is {x} {l₂} d =
          let m = iterator_ready in
          let s : Option Typing = seed_of seed b g.W.Γ q.function in
          iterator_done
          h
          {high = r.result.levels + 1}
          (omega (arith, m.low))
          (subst
          (λ (k : IterKind). Concludes g.W.number g.W.text q (iterate_as g.W.Γ k at m.ps s m.ds (asTy g.W.text r.result)) (r.result.levels + 1) l₁ x l₂)
          (sym is)
          (d g.W.number g.W.text g.W.Γ m.ds m.ps s m.flags (sym m.inputs.stand.many) (m.many ∙ sym w.many)))

      -- ---- a fold

      module _ (is : i ≡ Fold) where
        -- the function's inputs are not fit: E0145
        pub fold_unfit : (h : code.Option Typ) {l₂ : Lines} → ((W : WorldOf ctx) (ps : List Port) → Listed (source_of ctx.records W.text) ps r.inputs → FoldStarts W at ps (asTy W.text r.result) q l₁ None l₂)
            → Whole g h q l None l₂
        fold_unfit h {l₂} d =
            let m = iterator_ready in
            let s : Option Typing = seed_of seed b g.W.Γ q.function in
            nothing
            (iterator_said
            h
            (subst
            (λ (k : IterKind). Said g.W.number q (iterate_as g.W.Γ k at m.ps s m.ds (asTy g.W.text r.result)) none l₁ l₂)
            (sym is)
            (d g.W m.ps m.inputs s m.ds)))

        module _ {f : FoldInputs} {l₂ : Lines} (df : (W : WorldOf ctx) (ps : List Port) → Listed (source_of ctx.records W.text) ps r.inputs → FoldStarts W at ps (asTy W.text r.result) q l₁ (Some f) l₂) where
          abbrev pub fold_two : TwoInputs g.W iterator_ready.ps (asTy g.W.text r.result) l₁ f l₂
          fold_two = df g.W iterator_ready.ps iterator_ready.inputs

          -- what is said of the seed: what the tests behind it say, the fold says
          pub record Seeded (start : code.Option Typ) (l₃ : Lines) : Type 0 where
            pub rest : {high : ℕ} {x : code.Option Typ} {l₄ : Lines}
                → Concludes g.W.number g.W.text q (fold_end g.W.Γ at (asTy g.W.text f.acc) (asHint g.W.text start) (asTy g.W.text f.elem) iterator_ready.ds (asTy g.W.text r.result)) high l₃ x l₄
                → Concludes g.W.number g.W.text q (iterate_as g.W.Γ Fold at iterator_ready.ps (seed_of seed b g.W.Γ q.function) iterator_ready.ds (asTy g.W.text r.result)) high l₁ x l₄

          pub without_seed : seed ≡ None → Seeded None l₂
          without_seed e = record { rest = λ d. rw (no_seed seed b e g.W.Γ q.function) (fold_unseeded at fold_two iterator_ready.ds d) }

          module _ {p : ℕ} (e : seed ≡ Some p) where
            -- its answer
            pub with_seed : {a : code.Option answer.Typed} {l₃ : Lines} → Inferring ctx side p (Some f.acc) q l₂ a l₃ → {start : code.Option Typ} → asHint g.W.text start ≡ typed g.W.text a → Seeded start l₃
            with_seed d is = record {
              rest = λ u. rw ((seed_at seed b p e).is g.W.Γ q.function) (fold_seeded at fold_two iterator_ready.ds (infer g.W.Γ q.function p (seed_at seed b p e).e) (rw is (d (seed_given seed b e)).said) u);
            }

          -- its seed, if it has a type, agrees with the first input and its arrays with the second, or E0145
          pub fold_done : (h : code.Option Typ) {start : code.Option Typ} {l₃ : Lines} → Seeded start l₃ → {x : code.Option Typ} {l₄ : Lines}
              → ((W : WorldOf ctx) (ds : List (ℕ × Ty)) (ps : List Port) → Flags W.Γ W.text ds ps r.kept
              → Concludes W.number W.text q (fold_end W.Γ at (asTy W.text f.acc) (asHint W.text start) (asTy W.text f.elem) ds (asTy W.text r.result)) r.result.levels l₃ x l₄)
              → Ends g h q l x l₄
          fold_done h t {x} {l₄} d =
              let m = iterator_ready in
              iterator_done
              h
              {high = r.result.levels}
              (omega (arith, m.low))
              (subst
              (λ (k : IterKind). Concludes g.W.number g.W.text q (iterate_as g.W.Γ k at m.ps (seed_of seed b g.W.Γ q.function) m.ds (asTy g.W.text r.result)) r.result.levels l₁ x l₄)
              (sym is)
              (t.rest (d g.W m.ds m.ps m.flags)))
