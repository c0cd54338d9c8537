use Rattle.std.proofs.Common.{ap, ◌∙◌}
use Rattle.policy_tools.specs.Claims.{rules_of}
use Rattle.policy_tools.proofs.exposure.exposure_by.Goals as goal

pub exposure_among-requires-clause-claims : goal.exposure_among-requires-clause-claims
exposure_among-requires-clause-claims c = rw c.deref.ensures.value c.in_ok-claims.ensures.claims

pub exposure_among-requires-clause-rules : goal.exposure_among-requires-clause-rules
exposure_among-requires-clause-rules c = ap rules_of c.deref.ensures.value ∙ c.in_ok-claims.ensures.rules

pub exposure_among-requires-clause-names : goal.exposure_among-requires-clause-names
exposure_among-requires-clause-names c = rw c.deref-2.ensures.value c.in_ok-names.ensures
