-- What is to be shown of an expression, hints, and the first of several expressions.
-- Assumes nothing.
use Prim.Native.Nat.{ℕ, suc, ◌+◌, ◌-◌, ◌≤◌, max}
use native.Mathlib.Omega.{arith}
use mathlib.Core.Path.{◌≡◌, refl, ap, ◌∙◌}
use mathlib.Core.Bool.{Bool}
use mathlib.Core.Option.{Option, none, some}
use lib.ListN.{length, get_or}
use Rattle.std.specs.Prelude as code
use Rattle.std.specs.Prelude.{Some, None}
use Rattle.std.specs.Option.{option_or}
use denote.Bor.{Bor}
use Rattle.lustre.specs.Name.{Name}
use Rattle.lustre.specs.Types.{Ty, basic}
use Rattle.lustre.specs.Expr.{Expr, Exprs, []ᵉ, ◌∷ᵉ◌, size, sizes}
use Rattle.lustre.specs.Line.{Out, ◌>>=◌, ◌>>◌}
use Rattle.lustre.specs.Grammar.{count}
use Rattle.lustre.specs.Resolve.{Scope, Aliases}
use Rattle.lustre.specs.Infer.{infer, infers}
use Rattle.lustre.specs.declared.Records.{Records}
use Rattle.input.specs.Depths.{depth, depths, ShallowCasts, ShallowCastsEach}
use Rattle.lines.specs.Lines.{Said}
use Rattle.lines.specs.declared.Lines.{Lines}
use Rattle.lines.specs.declared.Spot.{Spot}
use Rattle.lines.proofs.Laws.{said_go, said_then}
use Rattle.types.specs.Value.{Naming, Bottom}
use Rattle.types.specs.Number.{asHint, Hinted}
use Rattle.types.specs.declared.context.Context.{Context}
use Rattle.types.specs.declared.Typ.{Typ}
use Rattle.types.proofs.Values.{bottom_basic}
use Rattle.rules.specs.Post.{Given, Done, Concludes, HintIs, hint_levels}
use Rattle.types.specs.declared.Typed.{Typed}

-- the word of the record at a place
abbrev pub word_at : Records → ℕ → ℕ
word_at side at = get_or side.words.now at 0

-- what the functions on literals answer, in a context
abbrev pub HintedOf : (ctx : Context) (h : code.Option Typ) (f : Aliases → Option Ty → Option Ty) (r : code.Option ℕ) → Type 0
HintedOf ctx h f r = Hinted ctx.records.kinds.now ctx.records.words.now ctx.scope.now.entries h f r

-- what is to be shown of an expression
abbrev pub Whole : {ctx : Context} {side : Records} {at : ℕ} (g : Given ctx side at) (h : code.Option Typ) (q : Spot) (l : Lines) (r : code.Option Typed) (l' : Lines) → Type 0
Whole {at = at} g h q l r l' =
    Done g.W.number g.W.text q (infer g.W.Γ q.function at g.e (asHint g.W.text h))
    (at + size g.e) (max (128 - g.d) (hint_levels h)) l r l'

-- and of the type that its rule gives
abbrev pub Ends : {ctx : Context} {side : Records} {at : ℕ} (g : Given ctx side at) (h : code.Option Typ) (q : Spot) (l : Lines) (r : code.Option Typ) (l' : Lines) → Type 0
Ends {at = at} g h q l r l' =
    Concludes g.W.number g.W.text q (infer g.W.Γ q.function at g.e (asHint g.W.text h)) (max (128 - g.d) (hint_levels h)) l r l'

-- no type
pub nothing : {num : Name → ℕ} {ρ : Naming} {q : Spot} {s : Out Ty} {end high : ℕ} {l l' : Lines} → Said num q s none l l' → Done num ρ q s end high l None l'
nothing d = record { said = d; low = tt; next = tt }

-- what is said from where nothing was said before
pub said_from : {A : Type 0} {num : Name → ℕ} {q : Spot} {s : Out A} {v : Option A} {l l₁ l' : Lines} → l₁ ≡ l → Said num q s v l₁ l' → Said num q s v l l'
said_from e d = rw e at d

-- something said before an expression that is typed last
module _ {A : Type 0} {num : Name → ℕ} {ρ : Naming} {q : Spot} {s : Out A} {a : A} {end high : ℕ} {l l₁ l' : Lines} {r : code.Option Typed} where
  pub onward : (k : A → Out Ty) → Said num q s (some a) l l₁ → Done num ρ q (k a) end high l₁ r l' → Done num ρ q (s >>= k) end high l r l'
  onward k d f = record { said = said_go k a refl d f.said; low = f.low; next = f.next }

  pub onward_then : {k : Out Ty} → Said num q s (some a) l l₁ → Done num ρ q k end high l₁ r l' → Done num ρ q (s >> k) end high l r l'
  onward_then d f = record { said = said_then a refl d f.said; low = f.low; next = f.next }

-- ---- hints

-- a hint has at most 127 lengths
pub hint_low : (h : code.Option Typ) → hint_levels h ≤ 127
hint_low None = omega arith
hint_low (Some t) = omega arith

-- no hint
pub hint_none : (ρ : Naming) → HintIs ρ none 0 None
hint_none ρ = record { is = refl; low = omega arith }

-- a basic type as hint
pub hint_basic : (ρ : Naming) {k n : ℕ} {t : Typ} → Bottom k n t → k ≤ 32 → HintIs ρ (some (basic k)) 0 (Some t)
hint_basic ρ {k} {n} b h = record {
  is = ap (λ (u : Ty). some u) (b.is ρ ∙ bottom_basic ρ k n (λ e. omega arith) (λ e. omega arith));
  low = omega (arith, b.flat);
}

-- ---- expressions one after another

module _ {es : Exprs} {e : Expr} {fs : Exprs} (is : es ≡ e ∷ᵉ fs) where
  pub deep_more : (d : ℕ) → d + depths es ≤ 61 → (d + depth e ≤ 61) × (d + depths fs ≤ 61)
  unfolding depth
  deep_more d h = let z = rw is at h in (omega arith, omega arith)

  pub casts_more : ShallowCastsEach es → ShallowCasts e × ShallowCastsEach fs
  unfolding ShallowCasts
  casts_more h = rw is at h

  pub sizes_more : sizes es ≡ size e + sizes fs
  unfolding size
  sizes_more = rw is

-- as many typings as expressions
pub length_infers : (Γ : Scope) (f : Bool) (at : ℕ) (es : Exprs) → length (infers Γ f at es) ≡ count es
unfolding infer count
length_infers Γ f at []ᵉ = refl
length_infers Γ f at (e ∷ᵉ es) = ap suc (length_infers Γ f (at + size e) es)

-- a hint, or else another, and what they point to
pub copied_or : (h : code.Option (Bor Typ)) (x : Bor Typ) → code.option_copied (option_or h (Some x)) ≡ option_or (code.option_copied h) (Some x.now)
copied_or None x = refl
copied_or (Some y) x = refl
