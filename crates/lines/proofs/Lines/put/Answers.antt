-- `lines::Lines::put` meets its contract. Each return has its law: a line before the window, a line stored, a line past the last place.
-- Assumes nothing.
use mathlib.Core.Path.{refl, sym}
use native.Mathlib.Omega.{arith}
use Rattle.lines.specs.Lines.{line_at}
use Rattle.lines.proofs.Laws.{put_before, put_past, put_each}
use Rattle.lines.proofs.Lines.put.Goals as goal

pub returns-then-n-self : goal.returns-then-n-self
returns-then-n-self c = record { same = refl; first = refl; out = sym (put_before _ _ _ _ c.if-n-self.true); number = c.saturating_add-self.ensures }

pub returns-then-k-room : goal.returns-then-k-room
unfolding line_at
returns-then-k-room c = record { same = refl; first = refl; out = put_each _ _ _ _ (omega arith) (omega arith); number = c.saturating_add-self.ensures }

pub returns-else-k-room : goal.returns-else-k-room
returns-else-k-room c = record { same = refl; first = refl; out = sym (put_past _ _ _ _ (omega arith) (omega arith)); number = c.saturating_add-self.ensures }
