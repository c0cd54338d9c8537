use Rattle.zone_core.proofs.VersionLemmas.{updates_keep}
use Rattle.zone_core.proofs.laws.updates_keep_zones.Goals as goal

pub returns : goal.returns
returns c = updates_keep
