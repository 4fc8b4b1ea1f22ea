-- `NameSet::new` meets its contract. Assumes nothing.
use Rattle.loops.proofs.Stores.{zeros_empty}
use Rattle.loops.proofs.NameSet.new.Goals as goal

pub returns : goal.returns
returns c = λ b. zeros_empty 8 0 b
