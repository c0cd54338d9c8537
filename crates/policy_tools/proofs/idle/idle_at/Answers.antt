use Rattle.std.proofs.Common.{ap, ◌∙◌}
use Rattle.policy_tools.specs.Claims.{rules_of}
use Rattle.policy_tools.proofs.ClaimLemmas.{few_claims}
use Rattle.policy_tools.proofs.idle.idle_at.Goals as goal

pub idle_by-requires-clause-few : goal.idle_by-requires-clause-few
idle_by-requires-clause-few c = few_claims c.deref.result.now c.args.rules.now (ap rules_of c.deref.ensures.value ∙ c.in_ok-claims.ensures.rules) c.requires.few

pub idle_by-requires-clause-claims : goal.idle_by-requires-clause-claims
idle_by-requires-clause-claims c = rw c.deref.ensures.value c.in_ok-claims.ensures.claims

pub idle_by-requires-clause-names : goal.idle_by-requires-clause-names
idle_by-requires-clause-names c = rw (ap rules_of c.deref.ensures.value ∙ c.in_ok-claims.ensures.rules) c.requires.names

pub returns-clause-idle : goal.returns-clause-idle
returns-clause-idle c = rw (ap rules_of c.deref.ensures.value ∙ c.in_ok-claims.ensures.rules) at c.idle_by.ensures.idle

pub returns-clause-takers : goal.returns-clause-takers
returns-clause-takers c = rw (ap rules_of c.deref.ensures.value ∙ c.in_ok-claims.ensures.rules) at c.idle_by.ensures.takers
