-- What the check of one constant asks.
-- Assumes nothing: these are definitions.
use Rattle.std.specs.Prelude.{ℕ, List, []}
use Rattle.lustre.specs.Project.{Constant}
use Rattle.input.specs.Depths.{ShallowConstant}
use Rattle.standing.specs.Standing.{ConstantAt}
use Rattle.types.specs.declared.context.Context.{Context}
use Rattle.scope.specs.Model.{Model}
use Rattle.scope.specs.Tables.{records, Declared}

-- a constant stands at a record of a model whose declarations are in the scope, where no port is
pub record ConstantGiven (ks ws sc : List ℕ) (at : ℕ) : Type 0 where
  pub model : Model ks ws
  pub c : Constant
  pub stands : ConstantAt (records model) c at
  pub shallow : ShallowConstant c
  pub declared : Declared model [] sc

abbrev pub ConstantOf : Context → ℕ → Type 0
ConstantOf x at = ConstantGiven x.records.kinds.now x.records.words.now x.scope.now.entries at
