use Rattle.zone_answers.proofs.LawLemmas.{of_zones}
use Rattle.zone_answers.proofs.laws.answers_are_of_zones.Goals as goal

pub returns : goal.returns
returns c = of_zones
