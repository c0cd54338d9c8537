use Rattle.zone_core.proofs.KindLemmas.{prerequisite_called}
use Rattle.zone_core.proofs.kind.PrerequisiteKind.read.Goals as goal

pub returns-clause-spelled : goal.returns-clause-spelled
returns-clause-spelled c = prerequisite_called c.args.word.now c.called.result c.called.ensures
