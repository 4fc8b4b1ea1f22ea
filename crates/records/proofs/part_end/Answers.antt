-- `records::part_end` meets its contract. Assumes nothing.
use Rattle.records.proofs.Ends as ends
use Rattle.records.proofs.part_end.Goals as goal

pub unwrap-requires : goal.unwrap-requires
unwrap-requires c = ends.ends _ _ _ _ c.requires _ _ c.part.ensures

pub returns : goal.returns
returns c = ends.ended _ _ _ _ c.requires _ _ c.part.ensures _ c.unwrap.ensures
