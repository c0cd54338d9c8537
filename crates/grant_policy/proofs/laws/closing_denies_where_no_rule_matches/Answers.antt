use Rattle.grant_policy.proofs.DecisionLaws.{closing_none}
use Rattle.grant_policy.proofs.laws.closing_denies_where_no_rule_matches.Goals as goal

pub returns : goal.returns
returns c = closing_none
