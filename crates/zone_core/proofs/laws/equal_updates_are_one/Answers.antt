use Rattle.zone_core.proofs.SameUpdateLemmas.{same_updates}
use Rattle.zone_core.proofs.laws.equal_updates_are_one.Goals as goal

pub returns : goal.returns
returns c = same_updates
