use Rattle.zone_answers.proofs.AlikeLemmas.{alike_answers}
use Rattle.zone_answers.proofs.laws.names_of_groups_are_answered_alike.Goals as goal

pub returns : goal.returns
returns c = alike_answers
