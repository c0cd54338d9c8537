use Rattle.zone_core.proofs.ChangedLemmas.{same_sets_are_one}
use Rattle.zone_core.proofs.laws.equal_sets_are_one.Goals as goal

pub returns : goal.returns
returns c = same_sets_are_one
