use Rattle.zone_core.proofs.ChangedLemmas.{changes_make}
use Rattle.zone_core.proofs.laws.changes_make_the_zone_after.Goals as goal

pub returns : goal.returns
returns c = changes_make
