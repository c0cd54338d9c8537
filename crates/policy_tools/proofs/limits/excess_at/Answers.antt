use Rattle.std.proofs.Common.{ℕ, List, length, subst, sym, ◌∙◌}
use Rattle.grant_policy.specs.declared.rule.Rule.{Rule}
use Rattle.policy_tools.specs.Claims.{AreEntries}
use Rattle.policy_tools.proofs.ClaimLemmas.{as_many}
use Rattle.policy_tools.proofs.LimitLemmas.{outside}
use Rattle.policy_tools.proofs.limits.excess_at.Goals as goal

pub returns-then-not-covers : goal.returns-then-not-covers
returns-then-not-covers c = outside c.args.rules.now c.args.limit.now c.args.name.now (sym c.covers.ensures.value ∙ c.if-not-covers.true)

pub excess_by_entries-requires-clause-entries : goal.excess_by_entries-requires-clause-entries
excess_by_entries-requires-clause-entries c =
    let claims = c.args.claims.now in
    let rules = c.args.rules.now in
    let name = c.args.name.now in
    let entries = c.in_ok-entries.entries.items in
    rw c.deref.ensures.value (subst (λ (n : ℕ). AreEntries rules name n entries) (as_many claims rules c.requires.rules)
    (subst (λ (l : List Rule). AreEntries l name (length claims) entries) c.requires.rules c.in_ok-entries.ensures))
