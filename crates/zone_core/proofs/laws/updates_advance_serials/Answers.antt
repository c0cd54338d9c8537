use Rattle.zone_core.proofs.LeaveLemmas.{updates_advance}
use Rattle.zone_core.proofs.laws.updates_advance_serials.Goals as goal

pub returns : goal.returns
returns c = updates_advance
