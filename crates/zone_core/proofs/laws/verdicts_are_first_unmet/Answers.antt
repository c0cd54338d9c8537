use Rattle.zone_core.proofs.UnmetLemmas.{verdicts_are_first}
use Rattle.zone_core.proofs.laws.verdicts_are_first_unmet.Goals as goal

pub returns : goal.returns
returns c = verdicts_are_first
