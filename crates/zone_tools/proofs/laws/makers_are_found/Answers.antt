use Rattle.zone_tools.proofs.MakerLemmas.{makers_need, makers_are_found}
use Rattle.zone_tools.proofs.laws.makers_are_found.Goals as goal

pub returns-clause-part : goal.returns-clause-part
returns-clause-part c = makers_need

pub returns-clause-found : goal.returns-clause-found
returns-clause-found c = makers_are_found
