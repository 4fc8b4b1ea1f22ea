-- `absent_probes` meets its contract. The loop's invariant is `Probing` of proofs/Loops.antt. Assumes nothing.
use Prim.Native.Nat.{◌<◌}
use native.Mathlib.Omega.{arith}
use mathlib.Core.Path.{◌∙◌}
use lib.ListN.{get_or}
use Rattle.scope.proofs.Names.{names_many, first_at}
use Rattle.scope.proofs.Rows.{free_entry}
use Rattle.ports.proofs.Loops.{probing_first, probing_known, probing_unknown, probing_end}
use Rattle.ports.proofs.absent_probes.Goals.{then-is_none, else-is_none}
use Rattle.ports.proofs.absent_probes.Goals as goal

pub invariant_of-name : goal.invariant_of-name
invariant_of-name c =
    let g = c.requires in
    let b : c.loop-word.word-index < get_or c.args.words.now c.args.list 0 = omega (arith, c.loop-word-test.true, names_many g) in
    record { below = rw (first_at g c.loop-word.word-index b) (probing_first (c.loop-word.invariant g) b).x_at.name.small }

pub loop-word-preserved : goal.loop-word-preserved
loop-word-preserved c = λ g.
    let i = c.loop-word.invariant g in
    let b : c.loop-word.word-index < get_or c.args.words.now c.args.list 0 = omega (arith, c.loop-word-test.true, names_many g) in
    let z = first_at g c.loop-word.word-index b in
    let d = free_entry _ _ _ (rw z at c.declared.ensures.entry) c.is_none.ensures in
    elim c.if-is_none.branch [
      | then-is_none w ↦ rw w.lines-is (probing_unknown i b (d ∙ w.if-is_none.true) (rw z at w.put.ensures))
      | else-is_none w ↦ rw w.lines-is (probing_known i b (d ∙ w.if-is_none.false))
    ]

pub returns : goal.returns
returns c = λ g. probing_end (c.loop-word.invariant g) (omega (arith, c.loop-word-test.false, c.loop-word.auto.word-index-end, names_many g))
