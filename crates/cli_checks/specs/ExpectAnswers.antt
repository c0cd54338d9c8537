-- What `check expect` does with its two inputs: a policy, and what is expected of it.
use Rattle.std.specs.Prelude.{ℕ, List, Option, Result, Ok, Err}
use Rattle.std.specs.Borrow.{Bor}
use Rattle.grant_policy.specs.declared.policy.Policy.{Policy}
use Rattle.cli_checks.specs.declared.check.Findings.{Findings}
use Rattle.cli_checks.specs.declared.check.Subject.TheVariants.{Expected}
use Rattle.cli_checks.specs.declared.expect_fault.ExpectFault.{ExpectFault}
use Rattle.cli_checks.specs.declared.expect_fault.ExpectFault.TheVariants as fault
use Rattle.cli_checks.specs.PolicyChanges.{policy_read}
use Rattle.cli_checks.specs.PolicyChangeAnswers.{policy_text}
use Rattle.cli_checks.specs.Check.{Checked}
use Rattle.cli_core.specs.declared.job.TextForm.{TextForm}
use Rattle.cli_core.specs.declared.line_fault.JobFault.{JobFault}
use Rattle.cli_core.specs.Inputs.{InputOf}
use Rattle.cli_core.specs.LineFaults.{Makes}
use Rattle.cli_core.specs.Replies.{Answered}

-- what is reported of the expectations, where the policy was read
abbrev pub AreCheckedBy : TextForm → InputOf → InputOf → Option (List ℕ) → Option (List ℕ) → Result Findings JobFault → ℕ → ℕ → Type 0
AreCheckedBy form first expected before after result writes writes_after =
    (policy : Bor Policy) × Makes first.left policy_read (Ok policy.now) × first.fine
    × Checked (record { subject = Expected policy; form = form }) expected.left before after result expected.fine expected.failed writes writes_after

-- As what the findings are printed, what is known of the policy and of the expectations, what the writer held before and after, how it went, and the writer's failures before
-- and after: the policy was refused, or not read, and the expectations were let be; or else they were checked by it.
abbrev pub AreExpected : TextForm → InputOf → InputOf → Option (List ℕ) → Option (List ℕ) → Result Findings ExpectFault → ℕ → ℕ → Type 0
AreExpected form first expected before after (Err (fault.Policy failed)) writes writes_after =
    Answered first.left policy_text before after (Err failed) first.fine first.failed writes writes_after × expected.fine
AreExpected form first expected before after (Err (fault.Expected failed)) writes writes_after =
    AreCheckedBy form first expected before after (Err failed) writes writes_after
AreExpected form first expected before after (Ok findings) writes writes_after = AreCheckedBy form first expected before after (Ok findings) writes writes_after
