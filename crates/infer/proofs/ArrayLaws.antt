-- The arrays of an iterator, lib.rs 1284: one beside its input, and one after another.
-- Assumes nothing.
use Prim.Native.Nat.{ℕ, ◌+◌, ◌≤◌}
use native.Mathlib.Omega.{arith}
use mathlib.Core.Path.{◌≡◌, refl, sym, ap, ◌∙◌}
use mathlib.Core.Bool.{Bool}
use mathlib.Core.List.{List, [], ◌∷◌, ◌++◌, append-nil, append_assoc}
use mathlib.Core.Option.{Option, none, some}
use lib.ListN.{length, get_or, drop, length-append}
use lib.Seq.{drop-drop}
use Rattle.std.specs.Prelude as code
use Rattle.std.specs.Prelude.{Some, None}
use Rattle.lustre.specs.Name.{Name}
use Rattle.lustre.specs.Types.{Ty}
use Rattle.lustre.specs.Expr.{Expr, Exprs, ◌∷ᵉ◌, size, sizes}
use Rattle.lustre.specs.Line.{Out, return, ◌>>=◌}
use Rattle.lustre.specs.Grammar.{count}
use Rattle.lustre.specs.Project.{Port}
use Rattle.lustre.specs.Resolve.{Scope}
use Rattle.lustre.specs.Infer.{infer, infers, operand, arrays}
use Rattle.lustre.specs.declared.NameId.{NameId}
use Rattle.lustre.specs.declared.Records.{Records}
use Rattle.input.specs.Depths.{depths, ShallowCastsEach}
use Rattle.standing.specs.Standing.{ExprsAt}
use Rattle.standing.proofs.Sizes.{FirstExpr, first_expr, no_exprs}
use Rattle.lines.specs.Lines.{Said}
use Rattle.lines.specs.declared.Lines.{Lines}
use Rattle.lines.specs.declared.Spot.{Spot}
use Rattle.lines.proofs.Laws.{said_return, said_go, said_stop}
use Rattle.types.specs.Value.{Naming, asTy}
use Rattle.types.specs.Place.{Read}
use Rattle.types.specs.declared.context.Context.{Context}
use Rattle.types.specs.declared.Typ.{Typ}
use Rattle.rules.specs.World.{WorldOf, PortsOf, TypeOf, source_of}
use Rattle.rules.specs.Post.{Given, Inferring, value_if}
use Rattle.rules.specs.Flags.{Flags, Beside}
use Rattle.rules.specs.Iterators.{Taking}
use Rattle.rules.specs.Walk.{Walking, Walked}
use Rattle.rules.specs.Lists.{GivenArrays, DoneArrays}
use Rattle.types.specs.declared.Typed as answer
use Rattle.rules.specs.declared.iterators.Kept.{Kept}
use Rattle.rules.specs.declared.walk.Ports.{Ports}
use Rattle.rules.proofs.Places.{read_is}
use Rattle.rules.proofs.Walks as walks
use Rattle.rules.proofs.Walks.{left_first, left_place, left_next, left_none, left_over}
use Rattle.infer.proofs.Steps.{deep_more, casts_more, sizes_more}

-- ---- the input beside an array

-- the inputs of the function as a list of ports
abbrev pub ports : {ctx : Context} {side : Records} {at list k : ℕ} → GivenArrays ctx side at list k → PortsOf ctx.records list
ports g = record { text = g.W.text; ps = g.ps; listed = g.inputs }

-- the type of the next input of a walk, if there is one, and the walk over the others
pub record Next {r : Records} {list : ℕ} {x : PortsOf r list} {w : Ports} (l : walks.Left r x w) (want : code.Option Typ) (v : Ports) : Type 0 where
  pub beside : Beside x.text l.rest want
  pub walk : walks.Left r x v
  pub same : walk.rest ≡ drop 1 l.rest

module _ {r : Records} {list : ℕ} {x : PortsOf r list} {w v : Ports} (l : walks.Left r x w) where
  pub next_some : {p : NameId × ℕ} (d : Walked w (Some p) v) {t : Typ} {next : ℕ} → Read r.kinds.now r.words.now (p.1 + 1) t next → Next l (Some t) v
  next_some d i =
      let f = left_first l d in
      record { beside = rw f.are (read_is f.typed (rw (left_place l d) at i)).is; walk = left_next l d; same = sym (ap (λ (ps : List Port). drop 1 ps) f.are) }

  pub next_none : Walked w None v → Next l None v
  next_none d =
      let z = left_none l d in
      record { beside = rw z refl; walk = left_over l d; same = rw z refl }

-- ---- the arrays one after another

-- the arrays ds before others, if these all are arrays
abbrev pub behind : List (ℕ × Ty) → Option (List (ℕ × Ty)) → Option (List (ℕ × Ty))
behind ds none = none
behind ds (some xs) = some (ds ++ xs)

behind_none : (v : Option (List (ℕ × Ty))) → behind [] v ≡ v
behind_none none = refl
behind_none (some xs) = refl

behind_more : (ds : List (ℕ × Ty)) (x : ℕ × Ty) (v : Option (List (ℕ × Ty))) → behind ds (behind (x ∷ []) v) ≡ behind (ds ++ (x ∷ [])) v
behind_more ds x none = refl
behind_more ds x (some xs) = ap (λ (l : List (ℕ × Ty)). some l) (sym (append_assoc ds (x ∷ []) xs))

-- an array before the others
module _ {num : Name → ℕ} {q : Spot} {l l' : Lines} (x : ℕ × Ty) where
  said_more : {s : Out (List (ℕ × Ty))} (v : Option (List (ℕ × Ty))) → Said num q s v l l' → Said num q (s >>= λ xs. return (x ∷ xs)) (behind (x ∷ []) v) l l'
  said_more none d = said_stop _ refl d
  said_more (some xs) d = said_go _ xs refl d (said_return (x ∷ xs))

module _ {num : Name → ℕ} {q : Spot} {l l₁ l' : Lines} (Γ : Scope) (f : Bool) (step at : ℕ) {es : Exprs} {e : Expr} {fs : Exprs} (is : es ≡ e ∷ᵉ fs) (x : ℕ × Ty) where
  arrays_more : (v : Option (List (ℕ × Ty)))
      → Said num q (operand Γ step (infer Γ f at e)) (some x) l l₁ → Said num q (arrays Γ step (infers Γ f (at + size e) fs)) v l₁ l'
      → Said num q (arrays Γ step (infers Γ f at es)) (behind (x ∷ []) v) l l'
  unfolding infer arrays
  arrays_more v d s = rw is (said_go _ x refl d (said_more x v s))

-- What is left after the arrays ds: j operands from `next` on, and the walk w over the inputs behind those of ds; and the rest of the
-- arrays says the rest of what all say.
pub record Left (ctx : Context) (side : Records) (at list k step : ℕ) (g : GivenArrays ctx side at list k) (q : Spot) (l : Lines) (kept : Kept) (next : ℕ) (w : Ports) (now : Lines) (j : ℕ) : Type 0 where
  pub es : Exprs
  pub stand : ExprsAt (source_of side g.W.text) es next
  pub many : count es ≡ j
  pub deep : g.d + depths es ≤ 61
  pub casts : ShallowCastsEach es
  pub ends : next + sizes es ≡ at + sizes g.es
  pub ds : List (ℕ × Ty)
  pub flags : Flags g.W.Γ g.W.text ds g.ps kept
  pub taken : length ds + j ≡ k
  pub walk : walks.Left ctx.records (ports g) w
  pub same : walk.rest ≡ drop (length ds) g.ps
  pub rest : {v : Option (List (ℕ × Ty))} {l' : Lines}
      → Said g.W.number q (arrays g.W.Γ step (infers g.W.Γ q.function next es)) v now l'
      → Said g.W.number q (arrays g.W.Γ step (infers g.W.Γ q.function at g.es)) (behind ds v) l l'

-- before the first
pub left_start : {ctx : Context} {side : Records} {at list k step : ℕ} (g : GivenArrays ctx side at list k) {q : Spot} {l : Lines} {kept : Kept} {w : Ports} {j : ℕ}
    → j ≡ k → (w.records ≡ ctx.records) × (w.at ≡ list + 1) × (w.left ≡ get_or ctx.records.words.now list 0) → ((Γ : Scope) (ρ : Naming) (ps : List Port) → Flags Γ ρ [] ps kept)
    → Left ctx side at list k step g q l kept at w l j
left_start {ctx} g e i f = record {
  es = g.es;
  stand = g.stand;
  many = g.many ∙ sym e;
  deep = g.deep;
  casts = g.casts;
  ends = refl;
  ds = [];
  flags = f g.W.Γ g.W.text g.ps;
  taken = omega arith;
  walk = walks.left_start ctx.records (ports g) i;
  same = refl;
  rest = λ {v} d. rw (behind_none v) d;
}

module _ {ctx : Context} {side : Records} {at list k step : ℕ} {g : GivenArrays ctx side at list k} {q : Spot} {l : Lines} {kept : Kept} {next : ℕ} {w : Ports} {now : Lines} {j : ℕ}
    (rem : Left ctx side at list k step g q l kept next w now j) where
  -- the walk goes on, and stops at a port with a type
  abbrev pub left_walking : Walking w
  left_walking = record { text = g.W.text; ps = rem.walk.rest; left = rw rem.walk.records rem.walk.left }

  abbrev pub left_type : {p : NameId × ℕ} {v : Ports} → Walked w (Some p) v → TypeOf ctx.records (p.1 + 1)
  left_type d =
      let f = left_first rem.walk d in
      record { text = g.W.text; t = f.p.1; typed = rw (left_place rem.walk d) f.typed }

  module _ (some_left : j ≡ 0 → ⊥) where
    abbrev one : FirstExpr (source_of side g.W.text) rem.es next j
    one = first_expr (source_of side g.W.text) rem.es next j rem.many some_left rem.stand

    -- the next operand
    abbrev pub left_given : Given ctx side next
    left_given = record {
      W = g.W;
      e = one.e;
      stands = one.e_at;
      d = g.d;
      top = g.top;
      deep = (deep_more one.is g.d rem.deep).0;
      casts = (casts_more one.is rem.casts).0;
    }

    -- it has no type: nor have the arrays
    pub left_stop : {now₁ : Lines} → Inferring ctx side next None q now None now₁ → DoneArrays ctx side at list k step g q l None now₁
    unfolding infer arrays operand
    left_stop d = record {
      ds = [];
      said = rem.rest {v = none} (rw one.is (said_stop _ refl (said_stop _ refl (d left_given).said)));
      flags = tt;
      many = tt;
      next = tt;
    }

    module _ {now₁ : Lines} {a : answer.Typed} (da : Inferring ctx side next None q now (Some a) now₁)
        {want : code.Option Typ} {v : Ports} (n : Next rem.walk want v) where
      module _ (t : code.Option Kept) {now₂ : Lines}
          (dt : (W : WorldOf ctx) (ds : List (ℕ × Ty)) (ps : List Port) → Flags W.Γ W.text ds ps kept → Beside W.text (drop (length ds) ps) want → Taking W step (asTy W.text a.typ) ds ps q now₁ t now₂) where
        abbrev taking : Taking g.W step (asTy g.W.text a.typ) rem.ds g.ps q now₁ t now₂
        taking = dt g.W rem.ds g.ps rem.flags (rw rem.same at n.beside)

        left_operand : Said g.W.number q (operand g.W.Γ step (infer g.W.Γ q.function next one.e)) (value_if t taking.x) now now₂
        unfolding operand
        left_operand = said_go _ (asTy g.W.text a.typ) refl (da left_given).said taking.said

      -- it is no array: E0143
      pub left_refused : {now₂ : Lines}
          → ((W : WorldOf ctx) (ds : List (ℕ × Ty)) (ps : List Port) → Flags W.Γ W.text ds ps kept → Beside W.text (drop (length ds) ps) want → Taking W step (asTy W.text a.typ) ds ps q now₁ None now₂)
          → DoneArrays ctx side at list k step g q l None now₂
      unfolding infer arrays
      left_refused dt = record {
        ds = [];
        said = rem.rest {v = none} (rw one.is (said_stop _ refl (left_operand None dt)));
        flags = tt;
        many = tt;
        next = tt;
      }

      -- one array more
      pub left_step : {s : Kept} {now₂ : Lines} {i : ℕ}
          → ((W : WorldOf ctx) (ds : List (ℕ × Ty)) (ps : List Port) → Flags W.Γ W.text ds ps kept → Beside W.text (drop (length ds) ps) want → Taking W step (asTy W.text a.typ) ds ps q now₁ (Some s) now₂)
          → i + 1 ≡ j → Left ctx side at list k step g q l s a.next v now₂ i
      unfolding infer arrays
      left_step {s} dt e =
          let t : Taking g.W step (asTy g.W.text a.typ) rem.ds g.ps q now₁ (Some s) _ = taking (Some s) dt in
          let long : length (rem.ds ++ (t.x ∷ [])) ≡ length rem.ds + 1 = length-append rem.ds (t.x ∷ []) in
          let less : drop (length (rem.ds ++ (t.x ∷ []))) g.ps ≡ drop 1 (drop (length rem.ds) g.ps) = rw long (sym (drop-drop 1 (length rem.ds) g.ps)) in
          record {
            es = one.rest;
            stand = rw (da left_given).next one.rest_at;
            many = omega (arith, one.fewer);
            deep = (deep_more one.is g.d rem.deep).1;
            casts = (casts_more one.is rem.casts).1;
            ends = omega (arith, (da left_given).next, rem.ends, sizes_more one.is);
            ds = rem.ds ++ (t.x ∷ []);
            flags = t.flags;
            taken = omega (arith, long, rem.taken);
            walk = n.walk;
            same = n.same ∙ ap (λ (ps : List Port). drop 1 ps) rem.same ∙ sym less;
            rest = λ {v} u. rw (← behind_more rem.ds t.x v) (rem.rest {v = behind (t.x ∷ []) v} (arrays_more g.W.Γ q.function step next one.is t.x v (left_operand (Some s) dt) (rw (da left_given).next at u)));
          }

  -- behind the last
  pub left_end : j ≡ 0 → DoneArrays ctx side at list k step g q l (Some (record { kept = kept; next = next })) now
  unfolding infer arrays size
  left_end z =
      let e = no_exprs rem.es (rem.many ∙ z) in
      let v = rw e at rem.ends in
      record {
        ds = rem.ds;
        said = rw (append-nil rem.ds) at (rem.rest {v = some []} {l' = now} (rw e (said_return [])));
        flags = rem.flags;
        many = omega (arith, rem.taken);
        next = omega arith;
      }
