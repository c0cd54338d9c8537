use Rattle.grant_policy.proofs.DecisionLaws.{decision_found, decision_one}
use Rattle.grant_policy.proofs.laws.each_question_has_one_decision.Goals as goal

pub returns-clause-some : goal.returns-clause-some
returns-clause-some c = decision_found

pub returns-clause-one : goal.returns-clause-one
returns-clause-one c = decision_one
