-- The kinds of a right-hand side, cut off from the records behind it. Assumes nothing.
use Prim.Native.Nat.{ℕ}
use native.Mathlib.Omega.{arith}
use mathlib.Core.Path.{sym, ◌∙◌}
use mathlib.Core.List.{List}
use lib.ListN.{take, drop}
use Rattle.std.proofs.lemmas.List.{length-take-le, take-append-drop}
use Rattle.standing.proofs.Sizes.{expr_end}
use Rattle.body.specs.Body.{Whole, Side}

pub side_of : {ks : List ℕ} {end : ℕ} → Whole ks end → Side (take end ks)
side_of {ks} {end} w = record {
  after = drop end ks;
  whole = record {
    ws = w.ws;
    text = w.text;
    e = w.e;
    stands = rw (take-append-drop end ks) w.stands;
    ends = w.ends ∙ sym (length-take-le end ks (omega (arith, w.ends, expr_end _ w.e 0 w.stands)));
  };
}
