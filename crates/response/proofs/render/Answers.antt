-- The lines stand behind the header, or the header does not fit.
use Rattle.format.proofs.Fill.{output_skip, output_more}
use Rattle.response.proofs.render.Goals as goal

pub returns-in-Some : goal.returns-in-Some
returns-in-Some c = output_more _ _ _ c.in-Some.ensures (rw c.printed.ensures at c.render_lines.ensures)

pub returns-in-None : goal.returns-in-None
returns-in-None c = output_skip _ _ _ c.in-None.ensures
