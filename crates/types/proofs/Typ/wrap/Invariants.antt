-- `types::Typ::wrap` meets its contract. The invariant: the first i of t's lengths are around this type's own. Assumes nothing.
use Prim.Native.Nat.{◌+◌}
use mathlib.Core.Path.{◌≡◌}
use Rattle.lustre.specs.Types.{Ty}
use Rattle.types.specs.Value.{up}
use Rattle.types.proofs.Typ.wrap.Given as goal

abbrev pub invariant-loop-i : goal.invariant-loop-i
invariant-loop-i l = record {
  base : l.self.base ≡ l.initial.self.base;
  name : l.self.name ≡ l.initial.self.name;
  around : (s : Ty) → up l.self.lengths (l.m + l.i) s ≡ up l.t.lengths l.i (up l.initial.self.lengths l.m s);
}
