-- `names::passed_over` meets its contract.
use Rattle.std.proofs.Common.{◌≡◌, ◌<◌, ◌++◌, sym, ◌∙◌}
use Rattle.std.proofs.lemmas.List.{take-append-drop}
use Rattle.names.specs.Scan.{zeros}
use Rattle.names.proofs.Pieces.{name_behind}
use Rattle.names.proofs.passed_over.Goals as goal

pub loop-front-preserved : goal.loop-front-preserved
loop-front-preserved c =
    let cut = c.in-Some.ensures.cases in
    let few : zeros c.in-Some.front.now < c.loop-front.left = rw (← c.zeros_in-closed.ensures) c.if-closed-left.false in
    let whole : c.loop-front.rest.now ≡ c.in-Some.front.now ++ c.in-Some.back.now = rw (cut.1, cut.2, take-append-drop) in
    rw c.zeros_in-closed.ensures (sym (name_behind c.in-Some.front.now c.in-Some.back.now c.loop-front.left few) ∙ rw (← whole) c.loop-front.invariant)
