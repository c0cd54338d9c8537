use Rattle.zone_core.proofs.KindLemmas.{operation_called}
use Rattle.zone_core.proofs.kind.OperationKind.read.Goals as goal

pub returns-clause-spelled : goal.returns-clause-spelled
returns-clause-spelled c = operation_called c.args.word.now c.called.result c.called.ensures
