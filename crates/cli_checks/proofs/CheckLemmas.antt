-- What a check writes, where it is known what its steps made.
use Rattle.std.proofs.Common.{◌≡◌, ℕ, ◌<◌, List, Option, Ok, Err, inl, inr, refl, sym, subst}
use Rattle.std.specs.Io.KnownBytes.{Appends}
use Rattle.cli_checks.specs.declared.check.AskedCheck.{AskedCheck}
use Rattle.cli_checks.specs.declared.check.Findings.{Findings}
use Rattle.cli_core.specs.declared.line_fault.LineFault.{LineFault}
use Rattle.cli_core.specs.declared.line_fault.LineFault.TheVariants.{Refused, ReadFailed, NoMemory}
use Rattle.cli_core.specs.declared.line_fault.JobFault.{JobFault}
use Rattle.cli_core.specs.declared.line_fault.JobFault.TheVariants.{Reported, WriteFailed}
use Rattle.cli_core.specs.Device.{AppendsFront}
use Rattle.cli_core.specs.LineFaults.{GivesOf}
use Rattle.cli_core.specs.Refusals.{refused_line}
use Rattle.cli_core.specs.Replies.{line_of, MayWrite, IsRefusalWritten}
use Rattle.cli_checks.specs.declared.check.Checking.{Checking}
use Rattle.cli_checks.specs.Check.{checked_read, ReportsOn, Reports, Checked}

-- a policy that is refused or not read has no report
pub none_reported : (wanted : AskedCheck) (left : Option (List ℕ)) (fault : LineFault) (fine failed : Type 0) → GivesOf (λ (x : Checking). x) left (checked_read wanted) (Err fault) fine failed → Reports wanted left (Err fault) fine failed
none_reported wanted left (Refused refusal) fine failed given = given
none_reported wanted left NoMemory fine failed given = given
none_reported wanted left ReadFailed fine failed given = given

module _ (wanted : AskedCheck) (left old new : Option (List ℕ)) (fine failed : Type 0) (writes writes_after : ℕ) where
  pub checked_sent : (findings : Findings) (text : List ℕ) → ReportsOn wanted left findings text → fine → Appends old new text × (writes_after ≡ writes) → Checked wanted left old new (Ok findings) fine failed writes writes_after
  checked_sent findings text reports well sent = ((text, reports, sent.0), well, sent.1)

  pub checked_front : (findings : Findings) (text : List ℕ) → ReportsOn wanted left findings text → fine → AppendsFront old new text × (writes < writes_after) → Checked wanted left old new (Err WriteFailed) fine failed writes writes_after
  checked_front findings text reports well sent = ((text, inl ((findings, reports), well), sent.0), sent.1)

  own_line : (fault : LineFault) → Reports wanted left (Err fault) fine failed → Appends old new (line_of fault) → writes_after ≡ writes → Checked wanted left old new (Err (Reported fault)) fine failed writes writes_after
  own_line (Refused refusal) given line well = (given.0, line, given.1, well)
  own_line ReadFailed given line well = (line, given.0, given.1, well)
  own_line NoMemory given line well = (line, given, well)

  own_front : (fault : LineFault) → Reports wanted left (Err fault) fine failed → AppendsFront old new (line_of fault) → writes < writes_after → Checked wanted left old new (Err WriteFailed) fine failed writes writes_after
  own_front (Refused refusal) given front broke = ((refused_line refusal, inr (inl ((refusal, given.0, refl), given.1)), front), broke)
  own_front ReadFailed given front broke = ((line_of ReadFailed, inr (inr (inl (refl, given.0, given.1))), front), broke)
  own_front NoMemory given front broke = ((line_of NoMemory, inr (inr (inr (refl, given))), front), broke)

  told_as : (fault line : LineFault) → MayWrite fault line → Reports wanted left (Err fault) fine failed → Reports wanted left (Err line) fine failed
  told_as (Refused refusal) line (inl same) given = subst (λ l. Reports wanted left (Err l) fine failed) (sym same) given
  told_as (Refused refusal) line (inr short) given = subst (λ l. Reports wanted left (Err l) fine failed) (sym short) given.1
  told_as ReadFailed line same given = subst (λ l. Reports wanted left (Err l) fine failed) (sym same) given
  told_as NoMemory line same given = subst (λ l. Reports wanted left (Err l) fine failed) (sym same) given

  pub checked_told : (fault : LineFault) (e : JobFault) → Reports wanted left (Err fault) fine failed → IsRefusalWritten old new fault (Err e) writes writes_after → Checked wanted left old new (Err e) fine failed writes writes_after
  checked_told fault (Reported line) given wrote = own_line line (told_as fault line wrote.0 given) wrote.1 wrote.2
  checked_told fault WriteFailed given wrote = own_front wrote.0.0 (told_as fault wrote.0.0 wrote.0.1 given) wrote.0.2 wrote.1
