use Rattle.zone_tools.proofs.HistoryLemmas.{records_were_there}
use Rattle.zone_tools.proofs.laws.records_were_there.Goals as goal

pub returns : goal.returns
returns c = records_were_there
