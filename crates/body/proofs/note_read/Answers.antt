-- `body::note_read` meets its contract: what `insert` does to the set is one name more.
-- Assumes nothing.
use mathlib.Core.Path.{◌≡◌, sym, ◌∙◌}
use mathlib.Core.Bool.{true}
use Rattle.body.specs.Body.{reading_kind}
use Rattle.body.proofs.Collects.{with_none, with_one}
use Rattle.body.proofs.note_read.Goals as goal

pub returns-then-is_read : goal.returns-then-is_read
returns-then-is_read c =
    let e : reading_kind c.args.kind ≡ true = sym c.is_read.ensures ∙ c.if-is_read.true in
    λ text. rw e (with_one text _ (c.requires e) c.insert.ensures.added)

pub returns-else-is_read : goal.returns-else-is_read
returns-else-is_read c = λ text. rw (sym c.is_read.ensures ∙ c.if-is_read.false) (with_none text _)
