-- `replay::main`: no more models are counted, and no more agree, than were run.
use Rattle.std.proofs.Common.{◌≤◌}
use Rattle.replay.proofs.main.Given as goal

abbrev pub invariant-loop : goal.invariant-loop
invariant-loop l = (l.models ≤ l.counter) × (l.agree ≤ l.counter)
