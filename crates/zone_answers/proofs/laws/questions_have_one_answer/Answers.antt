use Rattle.zone_answers.proofs.LawLemmas.{one_answer}
use Rattle.zone_answers.proofs.laws.questions_have_one_answer.Goals as goal

pub returns : goal.returns
returns c = one_answer
