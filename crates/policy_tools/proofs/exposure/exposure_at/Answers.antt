use Rattle.std.proofs.Common.{ℕ, List, length, subst}
use Rattle.grant_policy.specs.declared.rule.Rule.{Rule}
use Rattle.policy_tools.specs.Claims.{AreEntries}
use Rattle.policy_tools.proofs.ClaimLemmas.{as_many}
use Rattle.policy_tools.proofs.exposure.exposure_at.Goals as goal

pub exposure_by_entries-requires-clause-entries : goal.exposure_by_entries-requires-clause-entries
exposure_by_entries-requires-clause-entries c =
    let claims = c.args.claims.now in
    let rules = c.args.rules.now in
    let name = c.args.name.now in
    let entries = c.in_ok-entries.entries.items in
    rw c.deref.ensures.value (subst (λ (n : ℕ). AreEntries rules name n entries) (as_many claims rules c.requires.rules)
    (subst (λ (l : List Rule). AreEntries l name (length claims) entries) c.requires.rules c.in_ok-entries.ensures))
