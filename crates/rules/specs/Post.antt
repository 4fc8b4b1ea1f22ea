-- What the contracts of inference and of its rules say: what an expression is given, and what is done with it.
-- Assumes nothing: these are definitions.
use Rattle.std.specs.Prelude as code
use Rattle.std.specs.Prelude.{ℕ, ◌+◌, ◌-◌, ◌≤◌, max, ◌≡◌, Bool, true, false, List, Some, None, IfSome}
use Rattle.std.proofs.Math.Option.{Option, none, some}
use Rattle.lustre.specs.Name.{Name}
use Rattle.lustre.specs.Types.{Ty}
use Rattle.lustre.specs.Expr.{Expr, size}
use Rattle.lustre.specs.Line.{Out}
use Rattle.lustre.specs.Infer.{literal_rule, infer}
use Rattle.lustre.specs.declared.Records.{Records}
use Rattle.input.specs.Depths.{depth, ShallowCasts}
use Rattle.standing.specs.Standing.{source, ExprAt}
use Rattle.lines.specs.Lines.{Put, Said}
use Rattle.lines.specs.declared.Lines.{Lines}
use Rattle.lines.specs.declared.Spot.{Spot}
use Rattle.types.specs.Value.{Naming, asTy}
use Rattle.types.specs.Number.{asHint, KindIs}
use Rattle.types.specs.declared.context.Context.{Context}
use Rattle.types.specs.declared.Typ.{Typ}
use Rattle.rules.specs.World.{WorldOf, source_of}
use Rattle.types.specs.declared.Typed.{Typed}

-- the number of lengths of a hint, 0 of none
abbrev pub hint_levels : code.Option Typ → ℕ
hint_levels None = 0
hint_levels (Some t) = t.levels

-- an expression e at a place of a part of the records, at level d of a right-hand side
pub record Given (ctx : Context) (side : Records) (at : ℕ) : Type 0 where
  pub W : WorldOf ctx
  pub e : Expr
  pub stands : ExprAt (source_of side W.text) e at
  pub d : ℕ
  pub top : 1 ≤ d
  pub deep : d + depth e ≤ 61
  pub casts : ShallowCasts e

-- the type of an answer, if there is one
abbrev pub typed : Naming → code.Option Typed → Option Ty
typed ρ None = none
typed ρ (Some t) = some (asTy ρ t.typ)

-- What the code answers and leaves in the lines is what s says at the spot q. If there is a type, it has at most `high` lengths, and
-- the next record is number `end`.
pub record Done (num : Name → ℕ) (ρ : Naming) (q : Spot) (s : Out Ty) (end high : ℕ) (l : Lines) (r : code.Option Typed) (l' : Lines) : Type 0 where
  pub said : Said num q s (typed ρ r) l l'
  pub low : IfSome r (λ t. t.typ.levels ≤ high)
  pub next : IfSome r (λ t. t.next ≡ end)

-- the same of a rule, which gives a type and no place
pub record Concludes (num : Name → ℕ) (ρ : Naming) (q : Spot) (s : Out Ty) (high : ℕ) (l : Lines) (r : code.Option Typ) (l' : Lines) : Type 0 where
  pub said : Said num q s (asHint ρ r) l l'
  pub low : IfSome r (λ t. t.levels ≤ high)

-- a rule over types: what it says in each world
abbrev pub Ruled : (ctx : Context) (q : Spot) (s : WorldOf ctx → Out Ty) (high : ℕ) (l : Lines) (r : code.Option Typ) (l' : Lines) → Type 0
Ruled ctx q s high l r l' = (W : WorldOf ctx) → Concludes W.number W.text q (s W) high l r l'

-- the rule of a literal whose type is of kind k, whatever names mean
abbrev pub LiteralRuled : (q : Spot) (at : ℕ) (k : code.Option ℕ) (l : Lines) (r : code.Option Typ) (l' : Lines) → Type 0
LiteralRuled q at k l r l' = (num : Name → ℕ) (ρ : Naming) (t : Option Ty) → KindIs t k → Concludes num ρ q (literal_rule at t) 0 l r l'

-- the type of the expression at a place: a hint of at most 127 lengths gives a type of at most 127
abbrev pub Inferring : (ctx : Context) (side : Records) (at : ℕ) (h : code.Option Typ) (q : Spot) (l : Lines) (r : code.Option Typed) (l' : Lines) → Type 0
Inferring ctx side at h q l r l' =
    (g : Given ctx side at) →
    Done g.W.number g.W.text q (infer g.W.Γ q.function at g.e (asHint g.W.text h))
    (at + size g.e) (max (128 - g.d) (hint_levels h)) l r l'

-- a line alone, and no value
pub record Failed {A : Type 0} (q : Spot) (c step name : ℕ) (l : Lines) (r : code.Option A) (l' : Lines) : Type 0 where
  pub none : r ≡ None
  pub put : Put q c step name l l'

-- the type r is t, with at most `high` lengths
pub record TypeIs (ρ : Naming) (t : Ty) (high : ℕ) (r : Typ) : Type 0 where
  pub is : asTy ρ r ≡ t
  pub low : r.levels ≤ high

-- the hint r is s, with at most `high` lengths
pub record HintIs (ρ : Naming) (s : Option Ty) (high : ℕ) (r : code.Option Typ) : Type 0 where
  pub is : asHint ρ r ≡ s
  pub low : hint_levels r ≤ high

-- b, where the code gives a value
abbrev pub value_if : {A B : Type 0} → code.Option A → B → Option B
value_if None b = none
value_if (Some a) b = some b

-- whether a test passed, as the definition has it
abbrev pub passes : Bool → Option (Unit {0})
passes true = some tt
passes false = none

-- an expression at a place of any records
pub record ExprHere (rk rw : List ℕ) (at : ℕ) : Type 0 where
  pub text : Naming
  pub e : Expr
  pub stands : ExprAt (source rk rw text) e at
