use Rattle.policy_tools.proofs.idle.idle_rules.Goals as goal

pub idle_among-requires : goal.idle_among-requires
idle_among-requires c = rw c.rules.ensures.rules c.rules.ensures.policy.few

pub returns-clause-idle : goal.returns-clause-idle
returns-clause-idle c = rw (← c.rules.ensures.rules) c.idle_among.ensures.idle

pub returns-clause-takers : goal.returns-clause-takers
returns-clause-takers c = rw (← c.rules.ensures.rules) c.idle_among.ensures.takers
