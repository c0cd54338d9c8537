use Rattle.policy_tools.proofs.SliceLemmas.{all_closed}
use Rattle.policy_tools.proofs.slices.unspoken_origins.Goals as goal

pub returns-clause-unspoken : goal.returns-clause-unspoken
returns-clause-unspoken c = rw c.rules.ensures.rules at c.unspoken_among.ensures

pub returns-clause-closed : goal.returns-clause-closed
returns-clause-closed c = rw (← c.rules.ensures.rules) (all_closed c.rules.result.now c.args.origins.now c.unspoken_among.result c.unspoken_among.ensures)
