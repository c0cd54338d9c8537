use Rattle.std.proofs.Common.{ap, ◌∙◌}
use Rattle.policy_tools.specs.Claims.{rules_of}
use Rattle.policy_tools.proofs.readers.hidden_by.Goals as goal

pub hidden_among-requires-clause-claims : goal.hidden_among-requires-clause-claims
hidden_among-requires-clause-claims c = rw c.deref.ensures.value c.in_ok-claims.ensures.claims

pub returns : goal.returns
returns c =
    let same = ap rules_of c.deref.ensures.value ∙ c.in_ok-claims.ensures.rules in
    rw same at c.hidden_among.ensures
