-- A wrong file, or one with more words than are lent.
use Rattle.std.proofs.Common.{arith}
use Rattle.format.proofs.Files.{decoded_lost, decoded_short}
use Rattle.format.proofs.decode.Goals as goal

pub returns-in_err-sizes : goal.returns-in_err-sizes
returns-in_err-sizes c = rw c.from_residual.ensures (decoded_lost _ _ c.in_err-sizes.ensures)

pub returns-then-n-words : goal.returns-then-n-words
returns-then-n-words c = decoded_short _ _ c.in_ok-sizes.sizes c.in_ok-sizes.ensures (omega arith)
