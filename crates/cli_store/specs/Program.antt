-- What the program does: the job that the words of its command line ask for, in what is around it, and the status with which it ends.
use Rattle.std.specs.Prelude.{◌≡◌, ◌≢◌, ◌<◌, ◌⊎◌, ⊤, ℕ, List, [], codes, Option, Some, None, option_map, unwrap_or, Result, Ok, Err, string_bytes}
use Rattle.dns_master.specs.declared.device.DeviceFailed.{DeviceFailed}
use Rattle.cli_core.specs.declared.commands.check.Check.{Check}
use Rattle.cli_core.specs.declared.commands.check.CheckSubject.{CheckSubject}
use Rattle.cli_core.specs.declared.commands.check.Reach.{Reach}
use Rattle.cli_core.specs.declared.commands.policy.PolicyText.{PolicyText}
use Rattle.cli_core.specs.declared.commands.check.CheckSubject.TheVariants as check
use Rattle.cli_core.specs.declared.job.TextForm.{TextForm}
use Rattle.cli_core.specs.declared.job.TextForm.TheVariants.{Plain}
use Rattle.cli_checks.specs.declared.check.AskedCheck.{AskedCheck}
use Rattle.cli_core.specs.declared.job.Job.{Job}
use Rattle.cli_core.specs.declared.job.Job.TheVariants as job
use Rattle.cli_core.specs.declared.job.TextJob.{TextJob}
use Rattle.cli_core.specs.declared.job.TextJob.TheVariants as text_job
use Rattle.cli_core.specs.declared.job.StoreJob.{StoreJob}
use Rattle.cli_core.specs.declared.job.StoreJob.TheVariants as store_job
use Rattle.cli_core.specs.declared.job.ZoneFiles.{ZoneFiles}
use Rattle.cli_core.specs.declared.job.DiffForm.{DiffForm}
use Rattle.cli_core.specs.declared.job.RequestForm.{RequestForm}
use Rattle.cli_core.specs.declared.job.RequestForm.TheVariants.{Whole, Split}
use Rattle.cli_core.specs.declared.words.WordsFault.{WordsFault}
use Rattle.cli_core.specs.declared.words.WordsFault.TheVariants as fault
use Rattle.clap.specs.Words.{fault_of}
use Rattle.cli_core.specs.Commands.{office}
use Rattle.cli_core.specs.Jobs.{asks}
use Rattle.cli_core.specs.Words.{job_of}
use Rattle.cli_core.specs.Misuse.{IsReported}
use Rattle.cli_core.specs.declared.refusal.Refusal.{Refusal}
use Rattle.cli_core.specs.declared.line_fault.LineFault.TheVariants.{NoMemory}
use Rattle.cli_core.specs.declared.line_fault.JobFault.{JobFault}
use Rattle.cli_checks.specs.declared.check.Findings.{Findings}
use Rattle.cli_checks.specs.declared.check.Findings.TheVariants.{Absent, Present}
use Rattle.cli_checks.specs.declared.check.Subject.{Subject}
use Rattle.cli_checks.specs.declared.check.Subject.TheVariants.{Rules, Isolation, Rights, Printed, Reverse, Zone}
use Rattle.cli_checks.specs.declared.changes_fault.ChangesFault.{ChangesFault}
use Rattle.cli_updates.specs.declared.diff_fault.DiffFault.{DiffFault}
use Rattle.cli_checks.specs.declared.expect_fault.ExpectFault.{ExpectFault}
use Rattle.cli_checks.specs.ExpectAnswers.{AreExpected}
use Rattle.cli_core.specs.Inputs.{InputOf}
use Rattle.cli_core.specs.declared.commands.answer.Answer.{Answer}
use Rattle.cli_text.specs.declared.answer_fault.AnswerFault.{AnswerFault}
use Rattle.cli_text.specs.Answer.{answer_text, IsInquired}
use Rattle.cli_text.specs.Apply.{apply_text}
use Rattle.cli_text.specs.Canon.{canon_text}
use Rattle.cli_updates.specs.Request.{request_text}
use Rattle.cli_updates.specs.Split.{split_text}
use Rattle.cli_text.specs.Rights.{rights_text}
use Rattle.cli_text.specs.Explain.{explain_text}
use Rattle.cli_text.specs.Parting.{part_printed}
use Rattle.cli_core.specs.Replies.{line_of, IsSent, Answered}
use Rattle.cli_checks.specs.Check.{Checked}
use Rattle.cli_checks.specs.PolicyChangeAnswers.{AreChangesChecked}
use Rattle.cli_checks.specs.declared.policy_zones_fault.PolicyZonesFault.{PolicyZonesFault}
use Rattle.cli_checks.specs.PolicyZoneAnswers.{AreZonesChecked}
use Rattle.cli_checks.specs.declared.reach_fault.ReachFault.{ReachFault}
use Rattle.cli_checks.specs.ReachAnswers.{IsReachChecked}
use Rattle.cli_updates.specs.Diff.{Differs}
use Rattle.cli_updates.specs.Plan.{IsPlanned}
use Rattle.wire_tcp.specs.Connections.{Writing}
use Rattle.cli_store.specs.Around.{Around, Callers}
use Rattle.cli_store.specs.Stores.{StoresOf}
use Rattle.cli_store.specs.Import.{ImportWritten, ZoneStored}
use Rattle.cli_store.specs.ImportList.{ListImported}
use Rattle.cli_store.specs.BlameReceipts.{BlameEnds}
use Rattle.cli_store.specs.ZoneHistory.{ExportEnds, UndoPrinted}
use Rattle.cli_store.specs.Migrate.{MigrationWritten, StoreMigrated}
use Rattle.cli_store.specs.Remove.{RemovalWritten, ZoneRemoved}
use Rattle.cli_store.specs.StoreList.{ZonesPrinted}
use Rattle.cli_store.specs.StoreLog.{LogPrinted}
use Rattle.cli_store.specs.Serve.{Serves}

-- ---- the streams

-- a stream that is read: what was left to read before and after, and its failures before and after
pub record Reading : Type 0 where
  pub left : Option (List ℕ)
  pub rest : Option (List ℕ)
  pub before : ℕ
  pub after : ℕ

-- nothing was read of it
abbrev pub IsUnread : Reading → Type 0
IsUnread i = (i.rest ≡ i.left) × (i.after ≡ i.before)

-- nothing was written to it
abbrev pub IsIdle : Writing → Type 0
IsIdle o = (o.new ≡ o.old) × (o.after ≡ o.before)

-- standard input as an input, a file that words name, and an input that has nothing left
abbrev pub standard : Reading → InputOf
standard i = record { left = i.left; fine = i.after ≡ i.before; failed = i.before < i.after }

abbrev pub named : {H : Type 0} → Around H → List ℕ → InputOf
named a path = record { left = a.file path; fine = ⊤; failed = a.unreadable path }

abbrev pub ended : InputOf
ended = record { left = Some []; fine = ⊤; failed = ⊥ }

-- this is so of the input that a path names: of standard input, if it is `-`, or of a file, and then standard input is not read
abbrev pub OfInput : {H : Type 0} → Around H → Reading → List ℕ → (InputOf → Type 0) → Type 0
OfInput a i path holds = ((path ≢ codes "-") × IsUnread i × holds (named a path)) ⊎ ((path ≡ codes "-") × holds (standard i))

-- ---- the exit status

-- 0 where what was to be done went through, and else 1
abbrev pub status_of : {F : Type 0} → Result (Unit {0}) F → ℕ
status_of (Ok done) = 0
status_of (Err fault) = 1

-- 0 where a check went through and found nothing, and else 1
abbrev pub check_status_of : {F : Type 0} → Result Findings F → ℕ
check_status_of (Ok Absent) = 0
check_status_of (Ok Present) = 1
check_status_of (Err fault) = 1

-- ---- how a job ends

-- What was left to read, that the input did not fail, that it did, what is answered to it, what was written, and the status: the task was
-- answered so, and the status is that of its outcome. So at 0 the whole answer was written.
abbrev pub EndsTask : Option (List ℕ) → Type 0 → Type 0 → (List ℕ → Result (List ℕ) Refusal) → Writing → ℕ → Type 0
EndsTask left fine failed answer o status = (outcome : Result (Unit {0}) JobFault)
    × Answered left answer o.old o.new outcome fine failed o.before o.after × (status ≡ status_of outcome)

-- the same of the input that a path names: standard input, if it is `-`, or a file
abbrev pub EndsTaskOf : {H : Type 0} → Around H → Reading → List ℕ → (List ℕ → Result (List ℕ) Refusal) → Writing → ℕ → Type 0
EndsTaskOf a i path answer o status =
    ((path ≢ codes "-") × IsUnread i × EndsTask (a.file path) ⊤ (a.unreadable path) answer o status)
    ⊎ ((path ≡ codes "-") × EndsTask i.left (i.after ≡ i.before) (i.before < i.after) answer o status)

-- a check, as what its findings are printed
abbrev pub asked : Subject → TextForm → AskedCheck
asked subject form = record { subject = subject; form = form }

-- the same of a check: at 0 the policy was read, and nothing was found in it
abbrev pub EndsCheck : AskedCheck → Option (List ℕ) → Type 0 → Type 0 → Writing → ℕ → Type 0
EndsCheck wanted left fine failed o status = (outcome : Result Findings JobFault)
    × Checked wanted left o.old o.new outcome fine failed o.before o.after × (status ≡ check_status_of outcome)

-- the same of the input that a path names: standard input, if it is `-`, or a file
abbrev pub EndsCheckOf : {H : Type 0} → Around H → Reading → AskedCheck → List ℕ → Writing → ℕ → Type 0
EndsCheckOf a i wanted path o status =
    ((path ≢ codes "-") × IsUnread i × EndsCheck wanted (a.file path) ⊤ (a.unreadable path) o status)
    ⊎ ((path ≡ codes "-") × EndsCheck wanted i.left (i.after ≡ i.before) (i.before < i.after) o status)

-- The policy of the first path is read, and the other checked against it. At 0 both were read, and the other changes nothing.
abbrev pub EndsChanges : {H : Type 0} → Around H → TextForm → List ℕ → List ℕ → Writing → ℕ → Type 0
EndsChanges a form against policy o status = (outcome : Result Findings ChangesFault)
    × AreChangesChecked form (named a against) (named a policy) o.old o.new outcome o.before o.after × (status ≡ check_status_of outcome)

-- a policy by itself, or against another
abbrev pub EndsPolicy : {H : Type 0} → Around H → TextForm → List ℕ → Option (List ℕ) → Writing → ℕ → Type 0
EndsPolicy a form policy None o status = EndsCheck (asked Rules form) (a.file policy) ⊤ (a.unreadable policy) o status
EndsPolicy a form policy (Some against) o status = EndsChanges a form against policy o status

-- The policy of the path is read, and then what is expected of it. At 0 both were read, and all is as expected.
abbrev pub EndsExpectedBy : {H : Type 0} → Around H → TextForm → List ℕ → InputOf → Writing → ℕ → Type 0
EndsExpectedBy a form policy expected o status = (outcome : Result Findings ExpectFault)
    × AreExpected form (named a policy) expected o.old o.new outcome o.before o.after × (status ≡ check_status_of outcome)

-- that is the input that a path names: standard input, if it is `-` or none is given, or a file
abbrev pub EndsExpected : {H : Type 0} → Around H → Reading → TextForm → List ℕ → Option (List ℕ) → Writing → ℕ → Type 0
EndsExpected a i form policy path o status =
    ((unwrap_or path (codes "-") ≢ codes "-") × IsUnread i × EndsExpectedBy a form policy (named a (unwrap_or path (codes "-"))) o status)
    ⊎ ((unwrap_or path (codes "-") ≡ codes "-") × EndsExpectedBy a form policy (standard i) o status)

-- The policy of the path is read, and then the list of zones. At 0 both were read, and the policy leaves out none of them.
abbrev pub EndsZonesBy : {H : Type 0} → Around H → TextForm → List ℕ → Option (List ℕ) → InputOf → Writing → ℕ → Type 0
EndsZonesBy a form policy reader zones o status = (outcome : Result Findings PolicyZonesFault)
    × AreZonesChecked reader form (named a policy) zones o.old o.new outcome o.before o.after × (status ≡ check_status_of outcome)

-- that is the input that a path names: standard input, if it is `-`, or a file
abbrev pub EndsZones : {H : Type 0} → Around H → Reading → TextForm → List ℕ → Option (List ℕ) → List ℕ → Writing → ℕ → Type 0
EndsZones a i form policy reader path o status =
    ((path ≢ codes "-") × IsUnread i × EndsZonesBy a form policy reader (named a path) o status)
    ⊎ ((path ≡ codes "-") × EndsZonesBy a form policy reader (standard i) o status)

-- The policy of the path is read, and then the zone of the origin. At 0 both were read, and the caller can change no answer.
abbrev pub EndsReachBy : {H : Type 0} → Around H → TextForm → Reach → InputOf → Writing → ℕ → Type 0
EndsReachBy a form words zone o status = (outcome : Result Findings ReachFault)
    × IsReachChecked words form (named a words.policy.now) zone o.old o.new outcome o.before o.after × (status ≡ check_status_of outcome)

-- that is the input that a path names: standard input, if it is `-` or none is given, or a file
abbrev pub EndsReach : {H : Type 0} → Around H → Reading → TextForm → Reach → Writing → ℕ → Type 0
EndsReach a i form words o status =
    let path = unwrap_or (option_map (λ f. f.now) words.file) (codes "-") in
    ((path ≢ codes "-") × IsUnread i × EndsReachBy a form words (named a path) o status)
    ⊎ ((path ≡ codes "-") × EndsReachBy a form words (standard i) o status)

-- What a diff prints of the zones of two files: a path that is `-` is standard input, of which nothing is left for the second file where the
-- first is it too. Where neither is, standard input is not read.
abbrev pub DiffersBy : {H : Type 0} → Around H → Reading → DiffForm → List ℕ → ZoneFiles → Writing → Result (Unit {0}) DiffFault → Type 0
DiffersBy a i form word files o outcome =
    let differs = λ (old new : InputOf). Differs form word old new o.old o.new outcome o.before o.after in
    ((files.old.now ≢ codes "-") × (files.new.now ≢ codes "-") × IsUnread i × differs (named a files.old.now) (named a files.new.now))
    ⊎ (((files.old.now ≢ codes "-") × (files.new.now ≡ codes "-") × differs (named a files.old.now) (standard i))
    ⊎ (((files.old.now ≡ codes "-") × (files.new.now ≢ codes "-") × differs (standard i) (named a files.new.now))
    ⊎ ((files.old.now ≡ codes "-") × (files.new.now ≡ codes "-") × differs (standard i) ended)))

-- the status is that of an outcome that is so
abbrev pub Ends : {F : Type 0} → (Result (Unit {0}) F → Type 0) → ℕ → Type 0
Ends {F} holds status = (outcome : Result (Unit {0}) F) × holds outcome × (status ≡ status_of outcome)

-- the body of the update of an input, or the bodies of its parts
abbrev pub requested : RequestForm → List ℕ → List ℕ → Result (List ℕ) Refusal
requested Whole word = request_text word
requested Split word = split_text word

-- what is answered to the questions of standard input, from the zone of a file; nothing is left there for a zone
abbrev pub IsInquiredOf : {H : Type 0} → Around H → Reading → Answer → Writing → Result (Unit {0}) AnswerFault → Type 0
IsInquiredOf a i w o outcome =
    let inquired = λ (zone : InputOf). IsInquired w.form w.origin.now (standard i) zone o.old o.new outcome o.before o.after in
    ((w.file.now ≢ codes "-") × inquired (named a w.file.now)) ⊎ ((w.file.now ≡ codes "-") × inquired ended)

-- what is answered from the zone of a path: to one question, or where the name is `-`, to those of standard input
abbrev pub AnswerEnds : {H : Type 0} → Around H → Reading → Answer → Writing → ℕ → Type 0
AnswerEnds a i w o status =
    ((w.name.now ≢ codes "-") × EndsTaskOf a i w.file.now (answer_text w.form w.origin.now w.name.now (option_map (λ t. t.now) w.asked)) o status)
    ⊎ ((w.name.now ≡ codes "-") × Ends (λ outcome. IsInquiredOf a i w o outcome) status)

-- A check reads the file of its policy, and of another against which it is checked, or standard input where that is a zone.
abbrev pub SubjectEnds : {H : Type 0} → Around H → Reading → Writing → TextForm → CheckSubject → ℕ → Type 0
SubjectEnds a i o form (check.Policy policy against) status = IsUnread i × EndsPolicy a form policy.now (option_map (λ p. p.now) against) o status
SubjectEnds a i o form (check.Expect policy file) status = EndsExpected a i form policy.now (option_map (λ f. f.now) file) o status
SubjectEnds a i o form (check.PolicyZones policy zones reader) status = EndsZones a i form policy.now (option_map (λ r. r.now) reader) zones.now o status
SubjectEnds a i o form (check.Isolation policy caller) status =
    IsUnread i × EndsCheck (asked (Isolation caller) form) (a.file policy.now) ⊤ (a.unreadable policy.now) o status
SubjectEnds a i o form (check.Rights policy name) status =
    IsUnread i × EndsCheck (asked (Rights name) form) (a.file policy.now) ⊤ (a.unreadable policy.now) o status
SubjectEnds a i o form (check.Reach w) status = EndsReach a i form w o status
SubjectEnds a i o form (check.Zone origin rules) status = EndsCheck (asked (Zone origin rules) form) i.left (i.after ≡ i.before) (i.before < i.after) o status

abbrev pub CheckEnds : {H : Type 0} → Around H → Reading → Writing → Check → ℕ → Type 0
CheckEnds a i o words status = SubjectEnds a i o words.form words.subject status

-- the policy of the input that a path names, standard input, if it is `-` or none is given, is printed, or made and printed
abbrev pub EndsPolicyText : {H : Type 0} → Around H → Reading → Writing → PolicyText → ℕ → Type 0
EndsPolicyText a i o w status = EndsCheckOf a i (asked (Printed w.source w.zones) Plain) (unwrap_or (option_map (λ f. f.now) w.file) (codes "-")) o status

-- A job that needs no store reads its own input and answers to its own words, and the status is 0 exactly where it went through, and a
-- check found nothing. What is around, standard input, standard output, the job, and the status. A job whose inputs are files, or that has
-- none, does not read standard input.
abbrev pub TextJobEnds : {H : Type 0} → Around H → Reading → Writing → TextJob → ℕ → Type 0
TextJobEnds a i o text_job.Apply status = EndsTask i.left (i.after ≡ i.before) (i.before < i.after) apply_text o status
TextJobEnds a i o (text_job.Canon w) status = EndsTask i.left (i.after ≡ i.before) (i.before < i.after) (canon_text w.form w.origin.now) o status
TextJobEnds a i o (text_job.Diff w) status = Ends (λ outcome. DiffersBy a i w.form w.origin.now w.files o outcome) status
TextJobEnds a i o (text_job.Request w) status = EndsTask i.left (i.after ≡ i.before) (i.before < i.after) (requested w.form w.id.now) o status
TextJobEnds a i o (text_job.Rights w) status =
    IsUnread i × EndsTask (a.file w.policy.now) ⊤ (a.unreadable w.policy.now) (rights_text w.form w.asked) o status
TextJobEnds a i o (text_job.Plan w) status =
    Ends (λ outcome. IsPlanned w.form w.caller.now (named a w.policy.now) (standard i) o.old o.new outcome o.before o.after) status
TextJobEnds a i o (text_job.Check w) status = CheckEnds a i o w status
TextJobEnds a i o (text_job.Policy w) status = EndsPolicyText a i o w status
TextJobEnds a i o (text_job.Answer w) status = AnswerEnds a i w o status
TextJobEnds a i o (text_job.Reverse w) status = EndsCheckOf a i (asked (Reverse w.origin) Plain) w.file.now o status
TextJobEnds a i o (text_job.Split w) status = EndsTaskOf a i w.file.now (part_printed w.part w.origin.now) o status
TextJobEnds a i o (text_job.Explain w) status =
    IsUnread i × EndsTask ended.left ended.fine ended.failed (explain_text (option_map (λ n. n.now) w.number) w.form) o status

-- A job with a store answers to its own words, and the status is 0 exactly where it went through. What is around, who calls, the stores of
-- paths, standard input, standard output, the trace, the job, the connection that is handed back (which shows what is left of the store
-- that the job reached), and the status. Only an import reads standard input, and only a service writes to the trace.
abbrev pub StoreJobEnds : {C H P : Type 0} → Around H → Callers H P → StoresOf C → Reading → Writing → Writing → StoreJob → Option C → ℕ → Type 0
StoreJobEnds a p s i o t (store_job.Import w) left status =
    IsIdle t × Ends (λ outcome. ImportWritten w.zone.origin.now i.left o.old o.new outcome (i.after ≡ i.before) (i.before < i.after) o.before o.after
    × ZoneStored s w.zone.store.now w.zone.origin.now w.existing i.left left o.old o.new outcome (i.after ≡ i.before) (i.before < i.after) o.before o.after) status
StoreJobEnds a p s i o t (store_job.ImportList w) left status =
    IsIdle t × OfInput a i w.list.now (λ list. Ends (λ outcome. ListImported a s w list left o outcome) status)
StoreJobEnds a p s i o t (store_job.Export w) left status =
    IsIdle t × IsUnread i × Ends (λ outcome. ExportEnds s w.zone.store.now w.zone.origin.now w.at w.form left o.old o.new outcome o.before o.after) status
StoreJobEnds a p s i o t (store_job.Zones w) left status =
    IsIdle t × IsUnread i × Ends (λ outcome. ZonesPrinted s w.store.now left o.old o.new outcome o.before o.after) status
StoreJobEnds a p s i o t (store_job.Log w) left status =
    IsIdle t × IsUnread i × Ends (λ outcome. LogPrinted s w.zone.store.now w.zone.origin.now w.choice left o.old o.new outcome o.before o.after) status
StoreJobEnds a p s i o t (store_job.Blame w) left status =
    IsIdle t × IsUnread i
    × Ends (λ outcome. BlameEnds s w.zone.store.now w.zone.origin.now (option_map (λ n. n.now) w.name) w.form left o.old o.new outcome o.before o.after) status
StoreJobEnds a p s i o t (store_job.Undo w) left status =
    IsIdle t × IsUnread i
    × Ends (λ outcome. UndoPrinted s w.zone.store.now w.zone.origin.now w.first w.last left o.old o.new outcome o.before o.after) status
StoreJobEnds a p s i o t (store_job.Migrate w) left status =
    IsIdle t × IsUnread i
    × Ends (λ outcome. MigrationWritten o.old o.new outcome o.before o.after × StoreMigrated s w.store.now left o.old o.new outcome o.before o.after) status
StoreJobEnds a p s i o t (store_job.Remove w) left status =
    IsIdle t × IsUnread i
    × Ends (λ outcome. RemovalWritten w.zone.origin.now o.old o.new outcome o.before o.after
    × ZoneRemoved s w.zone.store.now w.zone.origin.now left o.old o.new outcome o.before o.after) status
StoreJobEnds a p s i o t (store_job.Serve service) left status =
    IsUnread i × Ends (λ outcome. Serves a p s service left o outcome t) status

-- a job that touches no store, and has no trace
abbrev pub IsAlone : {C : Type 0} → Option C → Writing → Type 0
IsAlone left t = (left ≡ None) × IsIdle t

abbrev pub JobEnds : {C H P : Type 0} → Around H → Callers H P → StoresOf C → Reading → Writing → Writing → Job → Option C → ℕ → Type 0
JobEnds a p s i o t (job.Text j) left status = IsAlone left t × TextJobEnds a i o j status
JobEnds a p s i o t (job.Store j) left status = StoreJobEnds a p s i o t j left status

-- ---- words

-- a text is written, and the status is 0 where it went out whole, and else 1
abbrev pub IsToldWhole : List ℕ → Writing → ℕ → Type 0
IsToldWhole text o status = (sent : Result (Unit {0}) DeviceFailed) × IsSent o.old o.new text sent o.before o.after × (status ≡ status_of sent)

-- What was written and the status where words ask for no job: the help or the version that they ask for; or nothing, where they are
-- misused; or that there is no memory for them.
abbrev pub EndsFault : WordsFault → Writing → ℕ → Type 0
EndsFault (fault.Help text) o status = IsToldWhole (string_bytes text) o status
EndsFault (fault.Misused text) o status = IsIdle o × (status ≡ 2)
EndsFault fault.NoMemory o status = ((told : ℕ) × IsToldWhole (line_of NoMemory) o told) × (status ≡ 1)

-- There is no mistake in the words, and the job that they ask for is done; or they ask for help, are misused, or there is no memory for
-- them, and nothing is read and no store touched.
abbrev pub WordsEnd : {C H P : Type 0} → Around H → Callers H P → StoresOf C → Reading → Writing → Writing → List (List ℕ) → Option C → ℕ → Type 0
WordsEnd a p s i o t words left status =
    ((asked : Job) × (fault_of office words ≡ []) × (job_of words ≡ Some (asks asked)) × JobEnds a p s i o t asked left status)
    ⊎ ((refused : WordsFault) × IsReported words refused × EndsFault refused o status × IsAlone left t × IsUnread i)

-- ---- the streams of the process

-- The connection that is handed back, what there was to read before and after, what standard output and the trace held before and after,
-- the words, and the status: so the words end, with some failures of each stream.
abbrev pub IsRun : {C H P : Type 0} → Around H → Callers H P → StoresOf C → Option C → Option (List ℕ) → Option (List ℕ) → Option (List ℕ) → Option (List ℕ) → Option (List ℕ) → Option (List ℕ) → List (List ℕ) → ℕ → Type 0
IsRun a p s conn left rest old new trace trace_after words status =
    (reads : ℕ) × (writes : ℕ) × (fails : ℕ)
    × WordsEnd a p s (record { left = left; rest = rest; before = 0; after = reads }) (record { old = old; new = new; before = 0; after = writes })
    (record { old = trace; new = trace_after; before = 0; after = fails }) words conn status
