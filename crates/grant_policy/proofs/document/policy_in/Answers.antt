use Rattle.toml.specs.View.{table_view}
use Rattle.grant_policy.proofs.DocumentLaws.{policy_found}
use Rattle.grant_policy.proofs.document.policy_in.Goals as goal

pub returns-clause-found : goal.returns-clause-found
returns-clause-found c =
    let top = table_view c.in_ok-top.top in
    let rules = c.in_ok-rules.rules.items in
    let is = policy_found top rules c.in_ok-rules.ensures.exact c.in_ok-rules.ensures.named in
    (top, c.in_ok-top.ensures, rw c.in_ok-indexed.ensures is)
