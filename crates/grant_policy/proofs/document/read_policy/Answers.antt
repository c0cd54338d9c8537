use Rattle.std.proofs.Common.{List, Result, subst, ap, ◌∙◌}
use Rattle.grant_policy.specs.declared.policy_fault.PolicyFault.{PolicyFault}
use Rattle.grant_policy.specs.declared.rule.Rule.{Rule}
use Rattle.grant_policy.specs.Faults.{Reads}
use Rattle.grant_policy.specs.Reading.{policy_of}
use Rattle.grant_policy.proofs.DocumentLaws.{policy_only}
use Rattle.grant_policy.proofs.document.read_policy.Goals as goal

pub returns-clause-only : goal.returns-clause-only
returns-clause-only c = λ top rules document is.
    subst (λ (read : Result (List Rule) PolicyFault). Reads (λ policy. policy) c.policy_in.result read) (ap policy_of document ∙ policy_only top rules is) c.policy_in.ensures.exact
