use Rattle.office_core.proofs.AnswerLemmas.{answers_are_right}
use Rattle.office_core.proofs.laws.answers_are_right.Goals as goal

pub returns : goal.returns
returns c = answers_are_right
