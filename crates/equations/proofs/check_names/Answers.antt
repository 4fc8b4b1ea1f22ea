-- `equations::check_names` meets its contract. The loop keeps `Assigning` of proofs/Assigned.antt: once the names that are left are noted, all
-- are. Assumes nothing.
use Rattle.scope.proofs.Names.{names_small, names_are}
use Rattle.equations.proofs.Assigned.{entries, assigning_more, assigning_noted, assigning_holds}
use Rattle.equations.proofs.check_names.Goals as goal

pub loop-word-preserved : goal.loop-word-preserved
loop-word-preserved c =
    assigning_more c.loop-word.invariant c.loop-word-test.true (names_small c.requires c.loop-word.word-index c.loop-word-test.true)
    c.check_known.ensures c.repeated_name.ensures.noted c.repeated_name.ensures.added

pub returns-clause-noted : goal.returns-clause-noted
returns-clause-noted c = λ g num back as' rs vs cs ns env t inputs seen i h.
    rw (← names_are g) (assigning_noted c.loop-word.invariant c.loop-word-test.false g.text num back _ inputs seen (entries t) i h)

pub returns-clause-held : goal.returns-clause-held
returns-clause-held c = λ g inj seen h. rw (← names_are g) (assigning_holds c.loop-word.invariant c.loop-word-test.false g.text inj seen h)
