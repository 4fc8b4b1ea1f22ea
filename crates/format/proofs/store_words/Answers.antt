-- The next word is stored behind those so far.
use Rattle.std.proofs.Common.{arith}
use Rattle.format.proofs.Files.{no_words, one_word}
use Rattle.format.proofs.store_words.Goals as goal

pub loop-i-init : goal.loop-i-init
loop-i-init c = no_words _

pub loop-i-preserved : goal.loop-i-preserved
loop-i-preserved c = one_word _ _ _ _ _ _ c.loop-i.invariant (omega arith) (omega arith) c.as_chunks.ensures.front c.from_le_bytes.ensures
