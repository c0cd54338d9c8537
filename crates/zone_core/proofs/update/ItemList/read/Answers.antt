use Rattle.zone_core.proofs.KindLemmas.{list_called}
use Rattle.zone_core.proofs.update.ItemList.read.Goals as goal

pub returns-clause-spelled : goal.returns-clause-spelled
returns-clause-spelled c = list_called c.args.word.now c.called.result c.called.ensures
