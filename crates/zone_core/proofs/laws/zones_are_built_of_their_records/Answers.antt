use Rattle.zone_core.proofs.RebuiltLemmas.{zones_are_rebuilt}
use Rattle.zone_core.proofs.laws.zones_are_built_of_their_records.Goals as goal

pub returns : goal.returns
returns c = zones_are_rebuilt
