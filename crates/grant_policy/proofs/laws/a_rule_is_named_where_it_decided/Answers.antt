use Rattle.grant_policy.proofs.DecisionLaws.{denied_by, grants_by}
use Rattle.grant_policy.proofs.laws.a_rule_is_named_where_it_decided.Goals as goal

pub returns-clause-denial : goal.returns-clause-denial
returns-clause-denial c = denied_by

pub returns-clause-grant : goal.returns-clause-grant
returns-clause-grant c = grants_by
