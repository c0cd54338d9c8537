use Rattle.zone_core.proofs.NeedLemmas.{updates_need}
use Rattle.zone_core.proofs.laws.updates_need_their_part.Goals as goal

pub returns : goal.returns
returns c = updates_need
