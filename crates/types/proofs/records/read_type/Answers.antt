-- `types::records::read_type` meets its contract. The invariant: the lengths read are around the last record's type as the records from
-- there on have them. Assumes nothing.
use Prim.Native.Nat.{◌-◌}
use native.Mathlib.Omega.{arith}
use mathlib.Core.Path.{◌≡◌, refl, sym}
use lib.ListN.{length-set}
use Rattle.types.specs.Value.{up, asTy}
use Rattle.types.proofs.Places.{inner_small, last_known, last_type, read_more, read_all}
use Rattle.types.proofs.records.read_type.Goals as goal

pub loop-i-init : goal.loop-i-init
unfolding up
loop-i-init c =
    let e = c.last_of-last.ensures.behind in
    let z : c.last_of-last.result - 0 ≡ c.last_of-last.result = omega arith in
    record { room = refl; read = λ ρ. rw z (sym (last_type _ _ _ c.requires _ e ρ)) }

pub overflow_cast-lengths : goal.overflow_cast-lengths
overflow_cast-lengths c = record { fits = inner_small _ _ _ c.requires (c.last_of-last.result - 1 - c.loop-i.i) (omega arith) (omega (arith, c.last_of-last.ensures.behind)) }

pub loop-i-preserved : goal.loop-i-preserved
loop-i-preserved c =
    let l = c.loop-i in
    record { room = simp length-set l.invariant.room; read = read_more _ _ _ c.requires _ c.last_of-last.ensures.behind l.lengths l.i (omega arith) c.loop-i-test.true l.invariant.read }

pub invariant_of-typ-clause-known : goal.invariant_of-typ-clause-known
invariant_of-typ-clause-known c = last_known _ _ _ c.requires _ c.last_of-last.ensures.behind

pub returns : goal.returns
unfolding asTy
returns c =
    let l = c.loop-i in
    let b = c.last_of-last.ensures.behind in
    let e : c.last_of-last.result - c.args.at ≡ l.i = omega arith in
    let z : c.last_of-last.result - l.i ≡ c.args.at = omega (arith, b) in
    read_all _ _ _ c.requires _ b (omega (arith, b)) (λ ρ. rw e (rw z at (l.invariant.read ρ)))
