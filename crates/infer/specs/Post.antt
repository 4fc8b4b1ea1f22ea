-- What the members of inference are given and do that are neither rules nor loops over operands: the kind of a construct, two parts
-- that must agree, an iterator before its last tests, where an iterator's seed and its arrays are, and the right-hand side as a whole.
-- Assumes nothing: these are definitions.
use Rattle.std.specs.Prelude as code
use Rattle.std.specs.Prelude.{ℕ, ◌+◌, ◌-◌, ◌≤◌, max, ◌≡◌, List, length, get_or, Some, None, IfSome, MatchOption}
use Rattle.std.proofs.Math.Option.{Option, none}
use Rattle.lustre.specs.Types.{Ty}
use Rattle.lustre.specs.Expr.{Expr, Exprs, IterKind, Map, size, sizes}
use Rattle.lustre.specs.Project.{Port}
use Rattle.lustre.specs.Grammar.{count, iterate_kind, iterate_from_kind}
use Rattle.lustre.specs.Infer.{Typing, infer, infers, both, iterate_as, iterate_rule}
use Rattle.lustre.specs.declared.Records.{Records}
use Rattle.input.specs.Depths.{depth, depths, ShallowCasts, ShallowCastsEach, ShallowExpr}
use Rattle.standing.specs.Standing.{word, RecAt, ExprAt, ExprsAt}
use Rattle.standing.specs.Owed.{There}
use Rattle.lines.specs.Lines.{Said}
use Rattle.lines.specs.declared.Lines.{Lines}
use Rattle.lines.specs.declared.Spot.{Spot}
use Rattle.types.specs.Value.{asTy}
use Rattle.types.specs.Number.{asHint}
use Rattle.types.specs.declared.context.Context.{Context}
use Rattle.types.specs.declared.Typ.{Typ}
use Rattle.rules.specs.World.{WorldOf, source_of, Listed}
use Rattle.rules.specs.Post.{Done, hint_levels}
use Rattle.rules.specs.Flags.{Flags}
use Rattle.types.specs.declared.Typed.{Typed}
use Rattle.infer.specs.declared.Gathered.{Gathered}

-- the records of a part are at most so many
abbrev pub Few : Records → Type 0
Few side = length side.kinds.now ≤ 4096

-- the kind of the record at a place
abbrev pub kind_at : Records → ℕ → ℕ
kind_at side at = get_or side.kinds.now at 0

-- the record at a place is of one of the kinds that kind-of gives
pub record Kind {X : Type 0} (kind_of : X → ℕ) (side : Records) (at : ℕ) : Type 0 where
  pub which : X
  pub is : kind_at side at ≡ kind_of which

-- ---- two parts that must agree

-- the expressions a and b one after the other, at level d
pub record GivenBoth (ctx : Context) (side : Records) (at : ℕ) : Type 0 where
  pub W : WorldOf ctx
  pub a : Expr
  pub b : Expr
  pub a_at : ExprAt (source_of side W.text) a at
  pub b_at : ExprAt (source_of side W.text) b (at + size a)
  pub d : ℕ
  pub top : 1 ≤ d
  pub deep_a : d + depth a ≤ 61
  pub deep_b : d + depth b ≤ 61
  pub casts_a : ShallowCasts a
  pub casts_b : ShallowCasts b

abbrev pub DoneBoth : (ctx : Context) (side : Records) (at step c : ℕ) (h : code.Option Typ) (q : Spot) (l : Lines) (r : code.Option Typed) (l' : Lines) → Type 0
DoneBoth ctx side at step c h q l r l' =
    (g : GivenBoth ctx side at) →
    Done g.W.number g.W.text q
    (both g.W.Γ step c (infer g.W.Γ q.function at g.a) (infer g.W.Γ q.function (at + size g.a) g.b) (asHint g.W.text h))
    (at + size g.a + size g.b) (max (128 - g.d) (hint_levels h)) l r l'

-- ---- an iterator before its last tests

-- the arrays es in the list at a place, at level d
pub record GivenGather (ctx : Context) (side : Records) (list : ℕ) : Type 0 where
  pub W : WorldOf ctx
  pub head : RecAt (source_of side W.text) list 3
  pub es : Exprs
  pub many : word (source_of side W.text) list ≡ count es
  pub stand : ExprsAt (source_of side W.text) es (list + 1)
  pub d : ℕ
  pub top : 1 ≤ d
  pub deep : d + depths es ≤ 61
  pub casts : ShallowCastsEach es

-- There is a fit function with inputs ps, and there are arrays ds of equal lengths: what the last tests say, the whole iterator says.
pub record Ready (ctx : Context) (side : Records) (list name step : ℕ) (g : GivenGather ctx side list) (q : Spot) (l : Lines) (r : Gathered) (l' : Lines) : Type 0 where
  pub ps : List Port
  pub inputs : Listed (source_of ctx.records g.W.text) ps r.inputs
  pub ds : List (ℕ × Ty)
  pub flags : Flags g.W.Γ g.W.text ds ps r.kept
  pub many : length ds ≡ count g.es
  pub low : r.result.levels ≤ 67
  pub next : r.next ≡ list + 1 + sizes g.es
  pub rest : (k : IterKind) (seed : Option Typing) (hint : Option Ty) {v : Option Ty} {l'' : Lines}
      → Said g.W.number q (iterate_as g.W.Γ k step ps seed ds (asTy g.W.text r.result)) v l' l''
      → Said g.W.number q (iterate_rule g.W.Γ step k (g.W.text name) seed (infers g.W.Γ q.function (list + 1) g.es) hint) v l l''

-- what `gather` answers: if there is nothing, what the whole iterator says has been said
abbrev pub DoneGather : (ctx : Context) (side : Records) (list name step : ℕ) (g : GivenGather ctx side list) (q : Spot) (l : Lines) (r : code.Option Gathered) (l' : Lines) → Type 0
DoneGather ctx side list name step g q l r l' =
    MatchOption r
    ((k : IterKind) (seed : Option Typing) (hint : Option Ty)
    → Said g.W.number q (iterate_rule g.W.Γ step k (g.W.text name) seed (infers g.W.Γ q.function (list + 1) g.es) hint) none l l')
    (λ a. Ready ctx side list name step g q l a l')

-- where the list of arrays of an iterator of form i is, behind its record or behind its seed, if it has one
abbrev pub ListBehind : (i : IterKind) (side : Records) (at : ℕ) (seed : code.Option ℕ) (list : ℕ) → Type 0
ListBehind i side at None list = (kind_at side at ≡ iterate_kind i) × (list ≡ at + 1)
ListBehind i side at (Some p) list =
    (kind_at side at ≡ iterate_from_kind i) × (p ≡ at + 1) × ((t : There side.kinds.now side.words.now (at + 1)) → list ≡ at + 1 + size t.e)

-- where the list of a map's arrays is, with a seed or without
pub record MapBehind (side : Records) (at list : ℕ) : Type 0 where
  pub seed : code.Option ℕ
  pub behind : ListBehind Map side at seed list

-- ---- the whole

-- the right-hand side e from the record `start` of the whole records on
pub record GivenWhole (ctx : Context) (start : ℕ) : Type 0 where
  pub W : WorldOf ctx
  pub few : Few ctx.records
  pub e : Expr
  pub stands : ExprAt (source_of ctx.records W.text) e start
  pub shallow : ShallowExpr e
