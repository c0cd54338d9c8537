use Rattle.office_core.proofs.CallLemmas.{calls_are_right}
use Rattle.office_core.proofs.laws.calls_are_right.Goals as goal

pub returns : goal.returns
returns c = calls_are_right
