use Rattle.policy_tools.proofs.LimitLemmas.{limit_found}
use Rattle.policy_tools.proofs.limits.names_of.Goals as goal

pub returns : goal.returns
returns c = limit_found c.args.rules.now c.args.limit.now c.in_ok-places.places.items c.representatives.result c.in_ok-places.ensures.places (rw c.deref.ensures.value at c.representatives.ensures)
