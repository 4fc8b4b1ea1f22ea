-- What is rendered from here on completes the whole.
use Rattle.lustre.specs.Names.{names_of}
use Rattle.format.specs.Output.{line}
use Rattle.format.proofs.Fill.{Going}
use Rattle.response.proofs.render_lines.Given as goal

abbrev pub invariant-loop-line : goal.invariant-loop-line
invariant-loop-line l = Going (line (names_of l.text)) l.lines l.initial.out l.start l.out l.at l.line-index
