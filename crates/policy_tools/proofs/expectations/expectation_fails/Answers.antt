use Rattle.policy_tools.proofs.ExpectationLemmas.{exactly}
use Rattle.policy_tools.proofs.expectations.expectation_fails.Goals as goal

pub returns-clause-holds : goal.returns-clause-holds
returns-clause-holds c = exactly c.args.policy.now c.args.expectation.now c.example_of.result c.example_of.ensures
