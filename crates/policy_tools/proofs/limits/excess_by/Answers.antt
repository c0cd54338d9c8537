use Rattle.std.proofs.Common.{ap, ◌∙◌}
use Rattle.policy_tools.specs.Claims.{rules_of}
use Rattle.policy_tools.proofs.limits.excess_by.Goals as goal

pub excess_among-requires-clause-claims : goal.excess_among-requires-clause-claims
excess_among-requires-clause-claims c = rw c.deref.ensures.value c.in_ok-claims.ensures.claims

pub excess_among-requires-clause-rules : goal.excess_among-requires-clause-rules
excess_among-requires-clause-rules c = ap rules_of c.deref.ensures.value ∙ c.in_ok-claims.ensures.rules

pub excess_among-requires-clause-names : goal.excess_among-requires-clause-names
excess_among-requires-clause-names c = rw c.deref-2.ensures.value c.in_ok-names.ensures
