use Rattle.zone_tools.proofs.HistoryLemmas.{bringers_are_last}
use Rattle.zone_tools.proofs.laws.bringers_are_last.Goals as goal

pub returns : goal.returns
returns c = bringers_are_last
