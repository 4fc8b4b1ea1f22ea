-- The call on the parts of the file, or a wrong file.
use Rattle.std.proofs.Common.{arith}
use lib.ListN.{length-take}
use Rattle.format.proofs.Callers.{decoded_some}
use Rattle.response.proofs.Answers.{answered_parts, answered_wrong}
use Rattle.response.proofs.answer_to.Goals as goal

pub slice_bounds-words-end : goal.slice_bounds-words-end
slice_bounds-words-end c = omega (arith, (decoded_some _ _ _ _ c.in-Some.ensures).0)

pub slice_bounds-words-end-in-Some : goal.slice_bounds-words-end-in-Some
slice_bounds-words-end-in-Some c = simp length-take (omega (arith, (decoded_some _ _ _ _ c.in-Some.ensures).0))

pub returns-in-Some : goal.returns-in-Some
returns-in-Some c = answered_parts _ _ _ _ _ _ _ _ _ _ _ c.in-Some.ensures c.kinds_in.ensures c.text_in.ensures c.check_project.ensures

pub returns-in-None : goal.returns-in-None
returns-in-None c = answered_wrong _ _ _ _ _ (omega arith) c.in-None.ensures
