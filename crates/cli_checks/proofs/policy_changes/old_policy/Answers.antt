use Rattle.std.proofs.Common.{[], Err, List}
use Rattle.grant_policy.specs.declared.rule.Rule.{Rule}
use Rattle.cli_checks.specs.PolicyChanges.{policy_read}
use Rattle.cli_checks.specs.PolicyChangeAnswers.{policy_text}
use Rattle.cli_core.proofs.JobLemmas.{answered_told, text_refused}
use Rattle.cli_checks.proofs.policy_changes.old_policy.Goals as goal

pub returns-in-Err : goal.returns-in-Err
returns-in-Err g c =
    let refused = text_refused _ policy_read (λ (rules : List Rule). []) (λ (rules : List Rule). rules) c.in-Err.fault _ _ c.in-Err.ensures in
    answered_told _ policy_text _ _ _ _ _ _ (λ t. t) c.in-Err.fault (Err c.write_refusal.result) refused c.write_refusal.ensures
