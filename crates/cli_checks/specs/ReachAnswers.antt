-- How `check reach` ends: by the word of the caller, by the policy, and then by the word of the origin and the zone.
use Rattle.std.specs.Prelude.{◌≡◌, ℕ, List, Option, Result, Ok, Err}
use Rattle.std.specs.Borrow.{Bor}
use Rattle.grant_policy.specs.declared.policy.Policy.{Policy}
use Rattle.cli_checks.specs.declared.check.Findings.{Findings}
use Rattle.cli_checks.specs.declared.check.Subject.TheVariants as subject
use Rattle.cli_checks.specs.declared.reach_fault.ReachFault.{ReachFault}
use Rattle.cli_checks.specs.declared.reach_fault.ReachFault.TheVariants as fault
use Rattle.cli_checks.specs.PolicyChanges.{policy_read}
use Rattle.cli_checks.specs.PolicyChangeAnswers.{policy_text}
use Rattle.cli_text.specs.Rights.{caller_in}
use Rattle.cli_checks.specs.Check.{Checked}
use Rattle.cli_core.specs.declared.commands.check.Reach.{Reach}
use Rattle.cli_core.specs.declared.job.TextForm.{TextForm}
use Rattle.cli_core.specs.declared.line_fault.LineFault.{LineFault}
use Rattle.cli_core.specs.declared.line_fault.JobFault.{JobFault}
use Rattle.cli_core.specs.Inputs.{InputOf}
use Rattle.cli_core.specs.LineFaults.{Gives, Makes}
use Rattle.cli_core.specs.Replies.{Answered, IsRefusalWritten}

-- the word names no caller, or memory ran out, and that is written
abbrev pub IsCallerRefused : List ℕ → Option (List ℕ) → Option (List ℕ) → JobFault → ℕ → ℕ → Type 0
IsCallerRefused word before after failed writes writes_after =
    (refused : LineFault) × Gives (λ (caller : List ℕ). caller) (Err refused) (caller_in word)
    × IsRefusalWritten before after refused (Err failed) writes writes_after

-- what is reported of the zone, where the word of the caller and the policy were read
abbrev pub IsReachReported : Reach → TextForm → InputOf → InputOf → Option (List ℕ) → Option (List ℕ) → Result Findings JobFault → ℕ → ℕ → Type 0
IsReachReported words form first zone before after result writes writes_after =
    (caller : Bor (List ℕ)) × (policy : Bor Policy) × (caller_in words.caller.now ≡ Ok caller.now) × Makes first.left policy_read (Ok policy.now) × first.fine
    × Checked (record { subject = subject.Reach policy caller words; form = form }) zone.left before after result zone.fine zone.failed writes writes_after

-- The words, as what the lines are printed, what is known of the policy and of the zone, what the writer held before and after, how it went,
-- and the writer's failures before and after: the caller was refused, and no input was read; or the policy was refused, or not read, and the
-- zone was let be; or else the zone was checked by it.
abbrev pub IsReachChecked : Reach → TextForm → InputOf → InputOf → Option (List ℕ) → Option (List ℕ) → Result Findings ReachFault → ℕ → ℕ → Type 0
IsReachChecked words form first zone before after (Err (fault.Caller failed)) writes writes_after =
    IsCallerRefused words.caller.now before after failed writes writes_after × first.fine × zone.fine
IsReachChecked words form first zone before after (Err (fault.Policy failed)) writes writes_after =
    ((caller : List ℕ) × (caller_in words.caller.now ≡ Ok caller)) × Answered first.left policy_text before after (Err failed) first.fine first.failed writes writes_after
    × zone.fine
IsReachChecked words form first zone before after (Err (fault.Zone failed)) writes writes_after =
    IsReachReported words form first zone before after (Err failed) writes writes_after
IsReachChecked words form first zone before after (Ok findings) writes writes_after =
    IsReachReported words form first zone before after (Ok findings) writes writes_after
