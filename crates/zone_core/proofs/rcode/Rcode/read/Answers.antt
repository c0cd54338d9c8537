use Rattle.zone_core.proofs.KindLemmas.{rcode_called}
use Rattle.zone_core.proofs.rcode.Rcode.read.Goals as goal

pub returns-clause-spelled : goal.returns-clause-spelled
returns-clause-spelled c = rcode_called c.args.word.now c.called.result c.called.ensures
