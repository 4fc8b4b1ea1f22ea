-- `records::check_structure` meets its contract: the walk goes over the records of the shorter slice. Assumes nothing.
use Rattle.std.proofs.Common.{ap}
use Rattle.records.specs.Places.{walk_to}
use Rattle.records.proofs.Projects as projects
use Rattle.records.proofs.check_structure.Goals as goal

pub returns-in-Err : goal.returns-in-Err
returns-in-Err c = projects.refused _ _ _ c.min-n.ensures _ c.part.ensures _ (ap (walk_to c.part.new.reached) c.in-Err.is)

pub returns-in-Ok : goal.returns-in-Ok
returns-in-Ok c = projects.left_over _ _ _ c.min-n.ensures _ c.part.ensures _ (ap (walk_to c.part.new.reached) c.in-Ok.is) c.if-reached-n.true

pub returns-in-Some : goal.returns-in-Some
returns-in-Some c = projects.too_far _ _ _ c.min-n.ensures _ c.part.ensures _ (ap (walk_to c.part.new.reached) c.in-Ok.is) c.if-reached-n.false _ c.in-Some.is

pub returns-in-None : goal.returns-in-None
returns-in-None c = projects.accepted _ _ _ c.min-n.ensures _ c.part.ensures _ (ap (walk_to c.part.new.reached) c.in-Ok.is) c.if-reached-n.false c.in-None.is
