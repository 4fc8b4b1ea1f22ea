-- What the loops over operands are given and do: the arguments of a call, the items of an array, the field values of a struct, and the
-- arrays of an iterator.
-- Assumes nothing: these are definitions.
use Rattle.std.specs.Prelude as code
use Rattle.std.specs.Prelude.{ℕ, ◌+◌, ◌≤◌, ◌≡◌, List, map, length, IfSome}
use Rattle.std.proofs.Math.Option.{some}
use Rattle.lustre.specs.Name.{Name, find}
use Rattle.lustre.specs.Types.{Ty, levels}
use Rattle.lustre.specs.Expr.{Expr, Exprs, Inits, size, sizes, sizesⁱ}
use Rattle.lustre.specs.Project.{Port}
use Rattle.lustre.specs.Grammar.{count, countⁱ}
use Rattle.lustre.specs.Infer.{infer, infers, infersⁱ, argument, arguments, item, items, value, values, arrays}
use Rattle.lustre.specs.declared.Records.{Records}
use Rattle.input.specs.Depths.{depth, depths, depthsⁱ, ShallowPorts, ShallowCasts, ShallowCastsEach, ShallowCastsEachⁱ}
use Rattle.standing.specs.Standing.{RecAt, NameAt, ExprAt, ExprsAt, InitsAt, EachAt, PortAt, port_size, sizes_of}
use Rattle.lines.specs.Lines.{Said}
use Rattle.lines.specs.declared.Lines.{Lines}
use Rattle.lines.specs.declared.Spot.{Spot}
use Rattle.types.specs.Value.{asTy}
use Rattle.types.specs.Number.{asHint}
use Rattle.types.specs.declared.context.Context.{Context}
use Rattle.types.specs.declared.Typ.{Typ}
use Rattle.rules.specs.World.{WorldOf, source_of, Typed, Listed}
use Rattle.rules.specs.Post.{Given, value_if}
use Rattle.rules.specs.Flags.{Flags}
use Rattle.rules.specs.declared.Seen.{Seen}
use Rattle.rules.specs.Marks.{Marked}
use Rattle.rules.specs.declared.iterators.ArraysLeft.{ArraysLeft}
use Rattle.rules.specs.declared.structs.ValuesLeft.{ValuesLeft}

-- ---- arguments

-- the argument e at a place, at level d, and the port whose type t stands behind the record `port`
pub record GivenArg (ctx : Context) (side : Records) (at port : ℕ) : Type 0 where
  pub W : WorldOf ctx
  pub e : Expr
  pub stands : ExprAt (source_of side W.text) e at
  pub d : ℕ
  pub top : 1 ≤ d
  pub deep : d + depth e ≤ 61
  pub casts : ShallowCasts e
  pub t : Ty
  pub typed : Typed (source_of ctx.records W.text) t (port + 1)

-- an argument of the call at `step` of the node whose name's number is `name`
pub record DoneArg (ctx : Context) (side : Records) (at port step name : ℕ) (g : GivenArg ctx side at port) (q : Spot) (l : Lines) (r : Seen) (l' : Lines) : Type 0 where
  pub said : Said g.W.number q (argument g.W.Γ step (g.W.text name) (infer g.W.Γ q.function at g.e) g.t) (some tt) l l'
  pub next : r.next ≡ at + size g.e
  pub after : r.port ≡ port + 1 + levels g.t

-- the k arguments at a place, and as many ports
pub record GivenArgs (ctx : Context) (side : Records) (at port k : ℕ) : Type 0 where
  pub W : WorldOf ctx
  pub es : Exprs
  pub stand : ExprsAt (source_of side W.text) es at
  pub many : count es ≡ k
  pub d : ℕ
  pub top : 1 ≤ d
  pub deep : d + depths es ≤ 61
  pub casts : ShallowCastsEach es
  pub ps : List Port
  pub ports : EachAt (PortAt (source_of ctx.records W.text)) port_size ps port
  pub few : ShallowPorts ps
  pub same : length ps ≡ k

pub record DoneArgs (ctx : Context) (side : Records) (at port k step name : ℕ) (g : GivenArgs ctx side at port k) (q : Spot) (l : Lines) (r : Seen) (l' : Lines) : Type 0 where
  pub said : Said g.W.number q (arguments g.W.Γ step (g.W.text name) (infers g.W.Γ q.function at g.es) g.ps) (some tt) l l'
  pub next : r.next ≡ at + sizes g.es
  pub after : r.port ≡ port + sizes_of port_size g.ps

-- ---- items

-- an item of the array at `step`, whose first item has type f
pub record DoneItem (ctx : Context) (side : Records) (at : ℕ) (h : code.Option Typ) (f : Typ) (step : ℕ) (g : Given ctx side at) (q : Spot) (l : Lines) (r : code.Option ℕ) (l' : Lines) : Type 0 where
  pub said : Said g.W.number q (item g.W.Γ step (asTy g.W.text f) (infer g.W.Γ q.function at g.e) (asHint g.W.text h)) (value_if r tt) l l'
  pub next : IfSome r (λ next. next ≡ at + size g.e)

-- the k items at a place, at level d
pub record GivenItems (ctx : Context) (side : Records) (at k : ℕ) : Type 0 where
  pub W : WorldOf ctx
  pub es : Exprs
  pub stand : ExprsAt (source_of side W.text) es at
  pub many : count es ≡ k
  pub d : ℕ
  pub top : 1 ≤ d
  pub deep : d + depths es ≤ 61
  pub casts : ShallowCastsEach es

pub record DoneItems (ctx : Context) (side : Records) (at k : ℕ) (h : code.Option Typ) (f : Typ) (step : ℕ) (g : GivenItems ctx side at k) (q : Spot) (l : Lines) (r : code.Option ℕ) (l' : Lines) : Type 0 where
  pub said : Said g.W.number q (items g.W.Γ step (asTy g.W.text f) (infers g.W.Γ q.function at g.es) (asHint g.W.text h)) (value_if r tt) l l'
  pub next : IfSome r (λ next. next ≡ at + sizes g.es)

-- ---- field values

-- the value e of the field x at a place, at level d, and the record's fields
pub record GivenValue (ctx : Context) (side : Records) (at list : ℕ) : Type 0 where
  pub W : WorldOf ctx
  pub x : Name
  pub e : Expr
  pub head : RecAt (source_of side W.text) at 84
  pub name : NameAt (source_of side W.text) at x
  pub stands : ExprAt (source_of side W.text) e (at + 1)
  pub d : ℕ
  pub top : 1 ≤ d
  pub deep : d + depth e ≤ 61
  pub casts : ShallowCasts e
  pub fs : List Port
  pub fields : Listed (source_of ctx.records W.text) fs list

pub record DoneValue (ctx : Context) (side : Records) (at list step : ℕ) (g : GivenValue ctx side at list) (q : Spot) (l : Lines) (r : ℕ) (l' : Lines) : Type 0 where
  pub said : Said g.W.number q (value g.W.Γ step g.x (infer g.W.Γ q.function (at + 1) g.e) (find g.x g.fs)) (some tt) l l'
  pub next : r ≡ at + 1 + size g.e

-- the k field values at a place
pub record GivenValues (ctx : Context) (side : Records) (at list k : ℕ) : Type 0 where
  pub W : WorldOf ctx
  pub vs : Inits
  pub stand : InitsAt (source_of side W.text) vs at
  pub many : countⁱ vs ≡ k
  pub d : ℕ
  pub top : 1 ≤ d
  pub deep : d + depthsⁱ vs ≤ 61
  pub casts : ShallowCastsEachⁱ vs
  pub fs : List Port
  pub fields : Listed (source_of ctx.records W.text) fs list

pub record DoneValues (ctx : Context) (side : Records) (at list k step : ℕ) (g : GivenValues ctx side at list k) (q : Spot) (l : Lines) (r : ValuesLeft) (l' : Lines) : Type 0 where
  pub said : Said g.W.number q (values g.W.Γ step g.fs (infersⁱ g.W.Γ q.function at g.vs)) (some tt) l l'
  pub next : r.next ≡ at + sizesⁱ g.vs
  pub marked : Marked g.W.text (map (λ v. v.0) (infersⁱ g.W.Γ q.function at g.vs)) r.marks.bits

-- ---- arrays

-- the k arrays at a place, at level d, and the inputs of the iterated function
pub record GivenArrays (ctx : Context) (side : Records) (at list k : ℕ) : Type 0 where
  pub W : WorldOf ctx
  pub es : Exprs
  pub stand : ExprsAt (source_of side W.text) es at
  pub many : count es ≡ k
  pub d : ℕ
  pub top : 1 ≤ d
  pub deep : d + depths es ≤ 61
  pub casts : ShallowCastsEach es
  pub ps : List Port
  pub inputs : Listed (source_of ctx.records W.text) ps list

pub record DoneArrays (ctx : Context) (side : Records) (at list k step : ℕ) (g : GivenArrays ctx side at list k) (q : Spot) (l : Lines) (r : code.Option ArraysLeft) (l' : Lines) : Type 0 where
  pub ds : List (ℕ × Ty)
  pub said : Said g.W.number q (arrays g.W.Γ step (infers g.W.Γ q.function at g.es)) (value_if r ds) l l'
  pub flags : IfSome r (λ a. Flags g.W.Γ g.W.text ds g.ps a.kept)
  pub many : IfSome r (λ a. length ds ≡ k)
  pub next : IfSome r (λ a. a.next ≡ at + sizes g.es)
