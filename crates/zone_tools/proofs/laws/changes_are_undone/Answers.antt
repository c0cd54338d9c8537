use Rattle.zone_tools.proofs.HistoryLemmas.{changes_are_undone}
use Rattle.zone_tools.proofs.laws.changes_are_undone.Goals as goal

pub returns : goal.returns
returns c = changes_are_undone
