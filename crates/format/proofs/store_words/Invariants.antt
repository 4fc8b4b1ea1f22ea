-- The words so far are those of the bytes.
use Rattle.std.proofs.Common.{◌≡◌, take}
use Rattle.format.specs.File.{words_in}
use Rattle.format.proofs.store_words.Given as goal

abbrev pub invariant-loop-i : goal.invariant-loop-i
invariant-loop-i l = take l.i l.words ≡ words_in l.i l.bytes
