use Rattle.std.proofs.Common.{◌≡◌, List, Result, subst}
use Rattle.grant_policy.specs.declared.policy_fault.PolicyFault.{PolicyFault}
use Rattle.grant_policy.specs.declared.rule.Rule.{Rule}
use Rattle.grant_policy.specs.Documents.{AreRules}
use Rattle.grant_policy.specs.Faults.{Reads}
use Rattle.grant_policy.specs.Reading.{built}
use Rattle.grant_policy.proofs.PolicyLaws.{found_of, built_found, built_only}
use Rattle.grant_policy.proofs.policy.Policy.build.Goals as goal

pub returns-clause-found : goal.returns-clause-found
returns-clause-found c =
    found_of (λ policy. (policy ≡ c.args.rules.items) × AreRules c.args.rules.items) c.checked.result (built c.args.rules.items) c.checked.ensures (λ policy e. built_found c.args.rules.items policy e)

pub returns-clause-only : goal.returns-clause-only
returns-clause-only c = λ are.
    subst (λ (read : Result (List Rule) PolicyFault). Reads (λ policy. policy) c.checked.result read) (built_only c.args.rules.items are) c.checked.ensures
