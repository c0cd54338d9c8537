use Rattle.zone_core.proofs.MakeLemmas.{updates_make}
use Rattle.zone_core.proofs.laws.updates_make_records.Goals as goal

pub returns : goal.returns
returns c = updates_make
