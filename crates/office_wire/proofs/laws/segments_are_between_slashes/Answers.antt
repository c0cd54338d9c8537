use Rattle.office_wire.proofs.SegmentLemmas.{segments_between}
use Rattle.office_wire.proofs.laws.segments_are_between_slashes.Goals as goal

pub returns : goal.returns
returns c = segments_between
