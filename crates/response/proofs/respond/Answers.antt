-- The answer and its lines are rendered.
use mathlib.Core.Path.{refl}
use Rattle.response.proofs.Answers.{responded}
use Rattle.response.proofs.respond.Goals as goal

pub returns-clause-responded : goal.returns-clause-responded
returns-clause-responded c = responded _ _ _ _ _ _ _ _ _ _ refl refl c.answer_to-a.ensures c.text_in.ensures c.render.ensures c.status_of.ensures
