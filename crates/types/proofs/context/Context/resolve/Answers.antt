-- `types::context::Context::resolve` meets its contract: a basic type and a name without alias stay. Assumes nothing.
use native.Mathlib.Omega.{arith}
use Rattle.types.proofs.Tries.{basic_resolved, name_resolved, resolved_or}
use Rattle.types.proofs.context.Context.resolve.Goals as goal
use Rattle.types.proofs.context.Context.resolve.Goals.{then-t-ne-NAMED-via-then-t-ne-NAMED, then-t-ne-NAMED-via-else-t-ne-NAMED+then-is_none}

pub returns-then-t-ne-NAMED : goal.returns-then-t-ne-NAMED
returns-then-t-ne-NAMED c =
    elim c.then-t-ne-NAMED.branch [
      | then-t-ne-NAMED-via-then-t-ne-NAMED w ↦ basic_resolved _ w.if-t-ne-NAMED.true
      | then-t-ne-NAMED-via-else-t-ne-NAMED+then-is_none w ↦ name_resolved _ w.if-t-ne-NAMED.false (grind arith)
    ]

pub returns-in-Some : goal.returns-in-Some
returns-in-Some c = resolved_or _ _ (rw c.in-Some.is at c.try_resolve.ensures)

pub returns-in-None : goal.returns-in-None
returns-in-None c = resolved_or _ _ (rw c.in-None.is at c.try_resolve.ensures)
