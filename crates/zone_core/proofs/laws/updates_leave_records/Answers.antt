use Rattle.zone_core.proofs.LeaveLemmas.{updates_leave}
use Rattle.zone_core.proofs.laws.updates_leave_records.Goals as goal

pub returns : goal.returns
returns c = updates_leave
