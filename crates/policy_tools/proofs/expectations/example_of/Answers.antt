use Rattle.policy_tools.proofs.ExpectationLemmas.{granted_is}
use Rattle.policy_tools.proofs.expectations.example_of.Goals as goal

pub returns-in_ok-excess_by-in-Keeps : goal.returns-in_ok-excess_by-in-Keeps
returns-in_ok-excess_by-in-Keeps c =
    let is = rw c.rules.ensures.rules at c.in_ok-excess_by-in-Keeps.ensures in
    rw c.in-Keeps.is (granted_is c.args.policy.now c.in-Keeps.limit c.in_ok-excess_by-in-Keeps.field-0 c.as_granted.result c.as_granted.ensures is)
