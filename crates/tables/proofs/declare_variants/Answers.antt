-- `tables::declare_variants` meets its contract. Assumes nothing.
use Prim.Native.Nat.{◌+◌, ◌<◌}
use native.Mathlib.Omega.{arith}
use lib.ListN.{get_or}
use Rattle.tables.proofs.Repeats.{spotted}
use Rattle.tables.proofs.Variants.{enum_head, enum_list, variant_word, variant_count, left_start, left_first, left_none, left_next, entering_start, entering_next, entering_done}
use Rattle.tables.proofs.declare_variants.Goals as goal

pub overflow_add-count : goal.overflow_add-count
overflow_add-count c = omega (arith, (enum_head c.requires).in_kinds, c.requires.model.few)

pub offset_bounds-words-at : goal.offset_bounds-words-at
offset_bounds-words-at c = omega (arith, (enum_list c.requires).head.in_words)

pub bounds-words-at : goal.bounds-words-at
bounds-words-at c = (enum_list c.requires).head.in_words

pub loop-word-init : goal.loop-word-init
loop-word-init c = λ g. (left_start g (omega arith), λ as' rs us cs ns env T. entering_start g T)

pub invariant_of-name : goal.invariant_of-name
invariant_of-name c =
    let g = c.requires in
    let b : c.loop-word.word-index < get_or c.args.words.now (c.args.at + 1) 0 = omega (arith, c.loop-word-test.true, variant_count g) in
    record { below = rw (variant_word g c.loop-word.word-index b) (left_first g (c.loop-word.invariant g).0 (omega arith)).mention.name.small }

pub loop-word-preserved : goal.loop-word-preserved
loop-word-preserved c =
    λ g.
    let i = c.loop-word.invariant g in
    let b : c.loop-word.word-index < get_or c.args.words.now (c.args.at + 1) 0 = omega (arith, c.loop-word-test.true, variant_count g) in
    let z = variant_word g c.loop-word.word-index b in
    let f = left_first g i.0 (omega arith) in
    (left_next g f (omega arith) (omega arith), λ as' rs us cs ns env T. entering_next g _ f.v i.0.rest f.later f.are f.mention.name.small f.mention.name.text (spotted c.about-q.ensures) (rw z at c.redeclare.ensures.noted g.model.number (g.model.text _) (g.model.back _)) (rw z at c.redeclare.ensures.entered) (i.1 as' rs us cs ns env T))

pub returns : goal.returns
returns c = λ g as' rs us cs ns env T.
    let i = c.loop-word.invariant g in
    entering_done g i.0.rest (left_none g i.0 (omega (arith, c.loop-word-test.false, c.loop-word.auto.word-index-end, variant_count g))) (i.1 as' rs us cs ns env T)
