-- `infer::variable` meets its contract. Assumes nothing.
use Rattle.rules.proofs.Laws.{closed, closed_none}
use Rattle.infer.proofs.Cases as cases
use Rattle.infer.proofs.variable.Goals as goal

pub name-requires-clause-inside : goal.name-requires-clause-inside
name-requires-clause-inside c = cases.inside_words c.requires.0

pub var_rule-requires : goal.var_rule-requires
var_rule-requires c = c.requires.0.W

pub name-requires-clause-small : goal.name-requires-clause-small
name-requires-clause-small c = cases.var_small c.requires.0 c.requires.1

pub returns-in_err-typ : goal.returns-in_err-typ
returns-in_err-typ c = λ h g. rw c.from_residual.ensures (closed_none (cases.var_done g c.requires.1 h (rw c.name.ensures at c.in_err-typ.ensures)))

pub returns : goal.returns
returns c = λ h g. closed (cases.var_done g c.requires.1 h (rw c.name.ensures at c.in_ok-typ.ensures)) (cases.var_next g c.requires.1)
