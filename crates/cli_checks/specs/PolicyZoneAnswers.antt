-- How `check policy --zones` ends: by the word of the caller that has to be able to list everything, by the policy, and then by the zones.
use Rattle.std.specs.Prelude.{◌≡◌, ℕ, List, Option, option_map, Result, Ok, Err}
use Rattle.std.specs.Borrow.{Bor}
use Rattle.grant_policy.specs.declared.policy.Policy.{Policy}
use Rattle.cli_checks.specs.declared.check.Findings.{Findings}
use Rattle.cli_checks.specs.declared.check.Subject.TheVariants.{Zones}
use Rattle.cli_checks.specs.declared.policy_zones_fault.PolicyZonesFault.{PolicyZonesFault}
use Rattle.cli_checks.specs.declared.policy_zones_fault.PolicyZonesFault.TheVariants as fault
use Rattle.cli_checks.specs.PolicyChanges.{policy_read}
use Rattle.cli_checks.specs.PolicyChangeAnswers.{policy_text}
use Rattle.cli_text.specs.Rights.{caller_if}
use Rattle.cli_checks.specs.Check.{Checked}
use Rattle.cli_core.specs.declared.job.TextForm.{TextForm}
use Rattle.cli_core.specs.declared.line_fault.LineFault.{LineFault}
use Rattle.cli_core.specs.declared.line_fault.JobFault.{JobFault}
use Rattle.cli_core.specs.Inputs.{InputOf}
use Rattle.cli_core.specs.LineFaults.{Gives, Makes}
use Rattle.cli_core.specs.Replies.{Answered, IsRefusalWritten}

-- the word names no caller, or memory ran out, and that is written
abbrev pub IsWordRefused : Option (List ℕ) → Option (List ℕ) → Option (List ℕ) → JobFault → ℕ → ℕ → Type 0
IsWordRefused word before after failed writes writes_after =
    (refused : LineFault) × Gives (λ (reader : Option (List ℕ)). reader) (Err refused) (caller_if word)
    × IsRefusalWritten before after refused (Err failed) writes writes_after

-- what is reported of the zones, where the word and the policy were read
abbrev pub AreZonesReported : Option (List ℕ) → TextForm → InputOf → InputOf → Option (List ℕ) → Option (List ℕ) → Result Findings JobFault → ℕ → ℕ → Type 0
AreZonesReported word form first zones before after result writes writes_after =
    (reader : Option (Bor (List ℕ))) × (policy : Bor Policy) × (caller_if word ≡ Ok (option_map (λ r. r.now) reader))
    × Makes first.left policy_read (Ok policy.now) × first.fine
    × Checked (record { subject = Zones policy reader; form = form }) zones.left before after result zones.fine zones.failed writes writes_after

-- The word of the caller, as what the findings are printed, what is known of the policy and of the zones, what the writer held before and after, how it went, and the writer's
-- failures before and after: the word was refused, and no input was read; or the policy was refused, or not read, and the zones were let
-- be; or else they were checked by it.
abbrev pub AreZonesChecked : Option (List ℕ) → TextForm → InputOf → InputOf → Option (List ℕ) → Option (List ℕ) → Result Findings PolicyZonesFault → ℕ → ℕ → Type 0
AreZonesChecked word form first zones before after (Err (fault.Reader failed)) writes writes_after =
    IsWordRefused word before after failed writes writes_after × first.fine × zones.fine
AreZonesChecked word form first zones before after (Err (fault.Policy failed)) writes writes_after =
    ((reader : Option (List ℕ)) × (caller_if word ≡ Ok reader))
    × Answered first.left policy_text before after (Err failed) first.fine first.failed writes writes_after × zones.fine
AreZonesChecked word form first zones before after (Err (fault.Zones failed)) writes writes_after =
    AreZonesReported word form first zones before after (Err failed) writes writes_after
AreZonesChecked word form first zones before after (Ok findings) writes writes_after =
    AreZonesReported word form first zones before after (Ok findings) writes writes_after
