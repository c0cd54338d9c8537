use Rattle.std.proofs.lemmas.Result.{IfOk-weaker}
use Rattle.policy_build.proofs.SelectionLaws.{policy_selects}
use Rattle.policy_build.proofs.reading.read_rules.Goals as goal

pub returns-clause-selects : goal.returns-clause-selects
returns-clause-selects c = IfOk-weaker c.read_policy.result _ _ (λ policy found. policy_selects found.0 policy found.2) c.read_policy.ensures.found
