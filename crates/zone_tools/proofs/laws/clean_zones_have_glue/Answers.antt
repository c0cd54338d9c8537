use Rattle.zone_tools.proofs.FindingLemmas.{glue_there}
use Rattle.zone_tools.proofs.laws.clean_zones_have_glue.Goals as goal

pub returns : goal.returns
returns c = glue_there
