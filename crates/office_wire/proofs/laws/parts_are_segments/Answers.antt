use Rattle.office_wire.proofs.PlaceLemmas.{parts_are_segments}
use Rattle.office_wire.proofs.laws.parts_are_segments.Goals as goal

pub returns : goal.returns
returns c = parts_are_segments
