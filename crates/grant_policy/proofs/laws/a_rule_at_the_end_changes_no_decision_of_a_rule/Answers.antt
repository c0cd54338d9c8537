use Rattle.grant_policy.proofs.DecisionLaws.{decision_stays}
use Rattle.grant_policy.proofs.laws.a_rule_at_the_end_changes_no_decision_of_a_rule.Goals as goal

pub returns : goal.returns
returns c = decision_stays
