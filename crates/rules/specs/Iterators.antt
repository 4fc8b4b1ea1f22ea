-- The pieces of `infer_iterator_type`, lib.rs 1233: the iterated function, its arrays one by one, and a fold's tests.
-- Assumes nothing: these are definitions.
use Rattle.std.specs.Prelude as code
use Rattle.std.specs.Prelude.{ℕ, ◌-◌, ◌<◌, ◌≤◌, ◌≡◌, true, List, [], ◌∷◌, ◌++◌, length, drop, Some, None, IfSome, MatchOption, option_map}
use Rattle.std.proofs.Math.Option.{Option, none, some}
use Rattle.lustre.specs.Name.{Name}
use Rattle.lustre.specs.Types.{Ty}
use Rattle.lustre.specs.Expr.{IterKind, Fold}
use Rattle.lustre.specs.Project.{Port, Heading, is_function}
use Rattle.lustre.specs.Line.{Out, plain, return, ◌>>◌}
use Rattle.lustre.specs.Resolve.{Scope}
use Rattle.lustre.specs.Infer.{Typing, res, agrees, array_type, seed_agrees, element_rule, iterate_as, iterate_rule}
use Rattle.standing.specs.Standing.{source}
use Rattle.lines.specs.Lines.{Said}
use Rattle.lines.specs.declared.Lines.{Lines}
use Rattle.lines.specs.declared.Spot.{Spot}
use Rattle.types.specs.Value.{asTy}
use Rattle.rules.specs.World.{World, Listed}
use Rattle.rules.specs.Post.{value_if}
use Rattle.rules.specs.Flags.{Flags}
use Rattle.rules.specs.declared.iterators.Kept.{Kept}
use Rattle.rules.specs.declared.iterators.Callee.{Callee}
use Rattle.rules.specs.declared.iterators.FoldInputs.{FoldInputs}

-- a function with one output, with no line
pub record Function {ks ws sc : List ℕ} (W : World ks ws sc) (name : ℕ) (l : Lines) (c : Callee) (l' : Lines) : Type 0 where
  pub sig : Heading
  pub node : W.Γ.node (W.text name) ≡ some sig
  pub function : is_function sig.kind ≡ true
  pub output : Name
  pub outputs : sig.outputs ≡ (output, asTy W.text c.result) ∷ []
  pub inputs : Listed (source ks ws W.text) sig.inputs c.inputs
  pub low : c.result.levels ≤ 67
  pub same : l' ≡ l

-- what `iterated` answers: if there is no function, what the whole iterator says has been said
abbrev pub Iterated : {ks ws sc : List ℕ} (W : World ks ws sc) (at name : ℕ) (q : Spot) (l : Lines) (r : code.Option Callee) (l' : Lines) → Type 0
Iterated W at name q l r l' =
    MatchOption r
    ((k : IterKind) (seed : Option Typing) (operands : List Typing) (hint : Option Ty) → Said W.number q (iterate_rule W.Γ at k (W.text name) seed operands hint) none l l')
    (λ c. Function W name l c l')

-- one operand of type t behind the arrays ds, beside the inputs ps
pub record Taking {ks ws sc : List ℕ} (W : World ks ws sc) (step : ℕ) (t : Ty) (ds : List (ℕ × Ty)) (ps : List Port) (q : Spot) (l : Lines) (r : code.Option Kept) (l' : Lines) : Type 0 where
  pub x : ℕ × Ty
  pub said : Said W.number q (array_type (plain step 143) (res W.Γ t)) (value_if r x) l l'
  pub flags : IfSome r (λ s. Flags W.Γ W.text (ds ++ (x ∷ [])) ps s)

-- the two inputs of a fold's function, the first of the type of its output, with no line
pub record TwoInputs {ks ws sc : List ℕ} (W : World ks ws sc) (ps : List Port) (out : Ty) (l : Lines) (f : FoldInputs) (l' : Lines) : Type 0 where
  pub x : Name
  pub y : Name
  pub are : ps ≡ (x, asTy W.text f.acc) ∷ (y, asTy W.text f.elem) ∷ []
  pub agree : agrees W.Γ (asTy W.text f.acc) out ≡ true
  pub low : f.acc.levels ≤ 67
  pub low_elem : f.elem.levels ≤ 67
  pub same : l' ≡ l

-- what `fold_inputs` answers: if there are no two inputs, what the rest of the iterator says has been said
abbrev pub FoldStarts : {ks ws sc : List ℕ} (W : World ks ws sc) (at : ℕ) (ps : List Port) (out : Ty) (q : Spot) (l : Lines) (r : code.Option FoldInputs) (l' : Lines) → Type 0
FoldStarts W at ps out q l r l' =
    MatchOption r
    ((seed : Option Typing) (ds : List (ℕ × Ty)) → Said W.number q (iterate_as W.Γ Fold at ps seed ds out) none l l')
    (λ f. TwoInputs W ps out l f l')

-- a fold's last test: the end of `iterate_as`
unfoldable pub element_end : Scope → ℕ → Ty → List (ℕ × Ty) → Ty → Out Ty
element_end Γ at elem ds out = do
  element_rule Γ at elem ds
  return out

-- a fold's tests once its seed has been typed
unfoldable pub fold_end : Scope → ℕ → Ty → Option Ty → Ty → List (ℕ × Ty) → Ty → Out Ty
fold_end Γ at acc seed elem ds out = do
  seed_agrees Γ at acc seed
  element_end Γ at elem ds out
