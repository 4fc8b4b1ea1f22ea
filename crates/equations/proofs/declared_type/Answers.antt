-- `equations::declared_type` meets its contract: the entry of the one name leads to its type. Assumes nothing.
use Rattle.equations.proofs.Types.{one, one_wanted, none_wanted, no_type}
use Rattle.equations.proofs.declared_type.Goals as goal

pub returns-then-ctx-list-ne1 : goal.returns-then-ctx-list-ne1
returns-then-ctx-list-ne1 c = λ g. no_type (none_wanted g c.if-ctx-list-ne1.true)

pub name-requires-clause-inside : goal.name-requires-clause-inside
name-requires-clause-inside c = (one c.requires c.if-ctx-list-ne1.false).head.in_words

pub name-requires-clause-small : goal.name-requires-clause-small
name-requires-clause-small c = (one c.requires c.if-ctx-list-ne1.false).name.small

pub returns : goal.returns
returns c = λ g. rw (← one_wanted g (one g c.if-ctx-list-ne1.false)) (rw c.name.ensures at (c.port_type.ensures g.scoped))
