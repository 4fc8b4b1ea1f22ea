-- `types::records::read_type` meets its contract. The invariant: the lengths read are around the last record's type as the records from
-- there on have them. Assumes nothing.
use Prim.Native.Nat.{◌-◌}
use mathlib.Core.Path.{◌≡◌}
use lib.ListN.{length, get_or}
use Rattle.types.specs.Value.{Naming, bottom, up}
use Rattle.types.specs.Place.{ty_at}
use Rattle.types.proofs.records.read_type.Given as goal

abbrev pub invariant-loop-i : goal.invariant-loop-i
invariant-loop-i l = record {
  room : length l.lengths ≡ 127;
  read : (ρ : Naming) → up l.lengths l.i (bottom ρ (get_or l.records.kinds.now l.last 0) (get_or l.records.words.now l.last 0)) ≡ ty_at ρ l.records.kinds.now l.records.words.now (l.last - l.i);
}
