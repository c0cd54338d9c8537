use Rattle.office_wire.proofs.UniqueLemmas.{framing_unique}
use Rattle.office_wire.proofs.laws.framing_is_unique.Goals as goal

pub returns : goal.returns
returns c = framing_unique
