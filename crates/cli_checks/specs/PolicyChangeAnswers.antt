-- How `check policy --against` ends: by the policy as it is, which is read first, and then by the other.
use Rattle.std.specs.Prelude.{◌≡◌, ℕ, List, [], Option, Result, Ok, Err}
use Rattle.std.specs.Borrow.{Bor}
use Rattle.grant_policy.specs.declared.policy.Policy.{Policy}
use Rattle.cli_checks.specs.declared.check.Findings.{Findings}
use Rattle.cli_checks.specs.declared.check.Subject.TheVariants.{Changes}
use Rattle.cli_checks.specs.declared.changes_fault.ChangesFault.{ChangesFault}
use Rattle.cli_checks.specs.declared.changes_fault.ChangesFault.TheVariants.{Old, New}
use Rattle.cli_checks.specs.PolicyChanges.{policy_read}
use Rattle.cli_checks.specs.Check.{Checked}
use Rattle.cli_core.specs.declared.job.TextForm.{TextForm}
use Rattle.cli_core.specs.declared.line_fault.JobFault.{JobFault}
use Rattle.cli_core.specs.declared.refusal.Refusal.{Refusal}
use Rattle.cli_core.specs.Inputs.{InputOf}
use Rattle.cli_core.specs.LineFaults.{◌>>=◌, Makes}
use Rattle.cli_core.specs.Replies.{Answered}

-- what is printed of the policy as it is, by itself: nothing, if it is one
abbrev pub policy_text : List ℕ → Result (List ℕ) Refusal
policy_text input = policy_read input >>= λ rules. Ok []

-- What was left to read of the policy as it is, what the writer held before and after, how it went, that the input did not fail, that it
-- did, and the writer's failures before and after: the policy was read, and nothing is written; or its refusal is.
abbrev pub IsPolicyRead : Option (List ℕ) → Option (List ℕ) → Option (List ℕ) → Result Policy JobFault → Type 0 → Type 0 → ℕ → ℕ → Type 0
IsPolicyRead left before after (Ok policy) fine failed writes writes_after =
    Makes left policy_read (Ok policy) × fine × (after ≡ before) × (writes_after ≡ writes)
IsPolicyRead left before after (Err fault) fine failed writes writes_after =
    Answered left policy_text before after (Err fault) fine failed writes writes_after

-- what is reported of the other policy, where that as it is was read
abbrev pub AreComparedTo : TextForm → InputOf → InputOf → Option (List ℕ) → Option (List ℕ) → Result Findings JobFault → ℕ → ℕ → Type 0
AreComparedTo form old new before after result writes writes_after =
    (policy : Bor Policy) × Makes old.left policy_read (Ok policy.now) × old.fine
    × Checked (record { subject = Changes policy; form = form }) new.left before after result new.fine new.failed writes writes_after

-- As what the findings are printed, what is known of the policy as it is and of the other, what the writer held before and after, how it went, and the writer's failures
-- before and after: the policy as it is was refused, or not read, and the other was let be; or else the other was checked against it.
abbrev pub AreChangesChecked : TextForm → InputOf → InputOf → Option (List ℕ) → Option (List ℕ) → Result Findings ChangesFault → ℕ → ℕ → Type 0
AreChangesChecked form old new before after (Err (Old fault)) writes writes_after =
    Answered old.left policy_text before after (Err fault) old.fine old.failed writes writes_after × new.fine
AreChangesChecked form old new before after (Err (New fault)) writes writes_after = AreComparedTo form old new before after (Err fault) writes writes_after
AreChangesChecked form old new before after (Ok findings) writes writes_after = AreComparedTo form old new before after (Ok findings) writes writes_after
