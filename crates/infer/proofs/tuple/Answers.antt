-- `infer::tuple` meets its contract. Assumes nothing.
use Rattle.rules.proofs.Laws.{closed}
use Rattle.infer.proofs.Cases as cases
use Rattle.infer.proofs.tuple.Goals as goal

pub bounds-side-at : goal.bounds-side-at
bounds-side-at c = cases.inside_words c.requires.0

pub returns : goal.returns
returns c = λ h g. closed (cases.tuple_done g h c.requires.1 c.tuple.ensures) (c.skip.ensures (cases.there g))
