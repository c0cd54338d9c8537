use Rattle.policy_tools.proofs.IsolatedLemmas.{exactly}
use Rattle.policy_tools.proofs.exposure.isolation.Goals as goal

pub returns-clause-isolated : goal.returns-clause-isolated
returns-clause-isolated c = rw (← c.rules.ensures.rules) (exactly c.rules.result.now c.args.caller.now c.exposure_by.result c.exposure_by.ensures)
