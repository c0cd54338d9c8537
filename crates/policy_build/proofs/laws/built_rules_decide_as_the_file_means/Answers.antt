use Rattle.policy_build.proofs.MakingLaws.{built_meant, built_policy}
use Rattle.policy_build.proofs.laws.built_rules_decide_as_the_file_means.Goals as goal

pub returns-clause-meant : goal.returns-clause-meant
returns-clause-meant c = built_meant

pub returns-clause-policy : goal.returns-clause-policy
returns-clause-policy c = built_policy
