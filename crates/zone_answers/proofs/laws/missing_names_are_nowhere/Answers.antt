use Rattle.zone_answers.proofs.LawLemmas.{nowhere}
use Rattle.zone_answers.proofs.laws.missing_names_are_nowhere.Goals as goal

pub returns : goal.returns
returns c = nowhere
