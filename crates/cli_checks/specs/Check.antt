-- What `check policy` prints: the rules of a policy that never decide, each with the rules that take its questions. What `check isolation`
-- prints: that the policy isolates a caller, or what keeps it from that. And which inputs these and the other checks read.
use Rattle.std.specs.Prelude.{◌≡◌, ◌⊎◌, ◌↔◌, ℕ, ◌<◌, List, [], ◌∷◌, ◌++◌, length, map, codes, decimal, Option, Some, None, option_map, Result, Ok, Err, IfSome}
use Rattle.std.specs.List.{All, Contains, flat_map}
use Rattle.std.specs.List.Sorted.{IsStrictlyIncreasing}
use Rattle.std.specs.Io.KnownBytes.{Appends}
use Rattle.dns_names.specs.Reading.{absolute_name}
use Rattle.dns_names.specs.Spelling.{name_text}
use Rattle.grant_policy.specs.declared.rule.Rule.{Rule}
use Rattle.grant_policy.specs.Documents.{document_of}
use Rattle.grant_policy.specs.Reading.{identifier_of, policy_of}
use Rattle.grant_policy.specs.Isolated.{IsIsolated}
use Rattle.policy_tools.specs.declared.exposure.Exposure.{Exposure}
use Rattle.policy_tools.specs.declared.exposure.Exposure.TheVariants.{Soa, Shared}
use Rattle.policy_tools.specs.Exposures.{IsExposed}
use Rattle.policy_tools.specs.declared.idle.IdleRule.{IdleRule}
use Rattle.policy_tools.specs.Idle.{IsIdle, AreTakers}
use Rattle.cli_checks.specs.declared.check.Findings.{Findings}
use Rattle.cli_checks.specs.declared.check.Findings.TheVariants.{Absent, Present}
use Rattle.cli_checks.specs.declared.check.Asked.{Asked}
use Rattle.cli_checks.specs.declared.check.Asked.TheVariants as asked
use Rattle.cli_checks.specs.declared.check.Checking.{Checking}
use Rattle.cli_checks.specs.declared.check.Checking.TheVariants as checking
use Rattle.cli_checks.specs.declared.check.Report.{Report}
use Rattle.cli_checks.specs.declared.check.Subject.{Subject}
use Rattle.cli_checks.specs.declared.check.Subject.TheVariants as subject
use Rattle.cli_checks.specs.declared.check.AskedCheck.{AskedCheck}
use Rattle.cli_text.specs.declared.line_objects.LineKind.{LineKind}
use Rattle.cli_text.specs.declared.line_objects.LineKind.TheVariants as kind
use Rattle.cli_text.specs.LineObjects.{IsPrintedAs}
use Rattle.cli_core.specs.declared.job.ReachContent.TheVariants.{Groups, Examples}
use Rattle.cli_core.specs.declared.refusal.Refusal.{Refusal}
use Rattle.cli_core.specs.declared.refusal.Refusal.TheVariants.{NoCaller}
use Rattle.cli_core.specs.declared.line_fault.LineFault.{LineFault}
use Rattle.cli_core.specs.declared.line_fault.LineFault.TheVariants.{Refused, ReadFailed, NoMemory}
use Rattle.cli_core.specs.declared.line_fault.JobFault.{JobFault}
use Rattle.cli_core.specs.declared.line_fault.JobFault.TheVariants.{Reported, WriteFailed}
use Rattle.cli_core.specs.Device.{AppendsFront}
use Rattle.cli_text.specs.Canon.{zone_of_file}
use Rattle.cli_text.specs.Apply.{records_of}
use Rattle.cli_checks.specs.Reverse.{IsReverseReport}
use Rattle.cli_checks.specs.ZoneCheck.{tests_of, IsZoneReport}
use Rattle.cli_checks.specs.RightsCheck.{IsRightsText}
use Rattle.cli_checks.specs.PolicyChanges.{IsChangesReport}
use Rattle.cli_checks.specs.Expect.{expectations_read, IsExpectReport}
use Rattle.cli_checks.specs.OriginLists.{origins_of}
use Rattle.cli_checks.specs.PolicyZones.{IsZonesReport}
use Rattle.cli_checks.specs.PrintedPolicies.{zones_if, printed_from, IsPolicyText}
use Rattle.cli_checks.specs.Reach.{IsReachReport}
use Rattle.cli_checks.specs.ReachExamples.{IsExamplesReport}
use Rattle.cli_checks.specs.ReportLines.{id_text, right_text, other_text}
use Rattle.cli_core.specs.LineFaults.{◌>>=◌, or_refused, limited, of_names, of_policies, Makes, ReachesInput}
use Rattle.cli_core.specs.Refusals.{refused_line}
use Rattle.cli_core.specs.Replies.{line_of}

-- ---- what is checked

-- the rules of the policy of a text
abbrev pub rules_in : List ℕ → Result (List Rule) Refusal
rules_in text = of_policies (policy_of (document_of text))

-- the name that a word is, if one is given
abbrev pub name_if : Option (List ℕ) → Result (Option (List (List ℕ))) Refusal
name_if None = Ok None
name_if (Some word) = of_names (absolute_name word) >>= λ name. Ok (Some name)

-- what words ask for: what a zone is checked by is read before its origin
abbrev pub asked_in : Subject → Result Asked Refusal
asked_in subject.Rules = Ok asked.Rules
asked_in (subject.Changes old) = Ok (asked.Changes old)
asked_in (subject.Expected policy) = Ok (asked.Expected policy)
asked_in (subject.Zones policy reader) = Ok (asked.Zones policy reader)
asked_in (subject.Isolation word) = or_refused (identifier_of word.now) NoCaller >>= λ caller. Ok (asked.Isolation caller)
asked_in (subject.Rights word) = name_if (option_map (λ w. w.now) word) >>= λ name. Ok (asked.Rights name)
asked_in (subject.Printed source word) = zones_if (option_map (λ w. w.now) word) >>= λ zones. Ok (asked.Printed source zones)
asked_in (subject.Reverse word) = of_names (absolute_name word.now) >>= λ origin. Ok (asked.Reverse origin)
asked_in (subject.Reach policy caller words) = of_names (absolute_name words.origin.now) >>= λ origin. Ok (asked.Reach policy caller words.content origin)
asked_in (subject.Zone origin rules) = tests_of rules >>= λ tests. of_names (absolute_name origin.now) >>= λ name. Ok (asked.Zone name tests)

-- what that is in an input: a policy, expectations, a list of zones, or the files of zones
abbrev pub checking_of : Asked → List ℕ → Result Checking Refusal
checking_of asked.Rules text = rules_in text >>= λ rules. Ok (checking.Rules rules)
checking_of (asked.Changes old) text = rules_in text >>= λ rules. Ok (checking.Changes old rules)
checking_of (asked.Expected policy) text = expectations_read text >>= λ rows. Ok (checking.Expected policy rows)
checking_of (asked.Zones policy reader) text = origins_of text >>= λ zones. Ok (checking.Zones policy reader zones)
checking_of (asked.Isolation caller) text = rules_in text >>= λ rules. Ok (checking.Isolation caller rules)
checking_of (asked.Rights name) text = rules_in text >>= λ rules. Ok (checking.Rights name rules)
checking_of (asked.Printed source zones) text = printed_from source zones text >>= λ printed. Ok (checking.Printed printed)
checking_of (asked.Reverse origin) text = records_of text >>= λ records. Ok (checking.Reverse origin records)
checking_of (asked.Reach policy caller content origin) text = zone_of_file origin text >>= λ zone. Ok (checking.Reach policy caller content zone)
checking_of (asked.Zone origin tests) text = zone_of_file origin text >>= λ zone. Ok (checking.Zone zone tests)

-- the words are read first, and then the input
abbrev pub checked_read : AskedCheck → List ℕ → Result Checking Refusal
checked_read wanted input = asked_in wanted.subject >>= λ read. limited input >>= checking_of read

-- ---- the report on the rules

-- those are the rules that never decide, in order, each with the rules that take its questions
pub record AreIdle (rules : List Rule) (idle : List IdleRule) : Type 0 where
  pub each : (i : ℕ) → Contains (map (λ r. r.rule) idle) i ↔ ((i < length rules) × IsIdle rules i)
  pub takers : All (λ r. AreTakers rules r.rule r.takers.items) idle
  pub ordered : IsStrictlyIncreasing (map (λ r. r.rule) idle)

-- the place of a rule, from 0, and its id
abbrev pub idle_head : List Rule → ℕ → List ℕ
idle_head rules place = (codes "idle " ++ decimal place) ++ id_text rules place

-- and the ids of the rules that take its questions
abbrev pub idle_line : List Rule → IdleRule → List ℕ
idle_line rules r = (idle_head rules r.rule ++ flat_map (id_text rules) r.takers.items) ++ 10 ∷ []

abbrev pub idle_text : List Rule → List IdleRule → List ℕ
idle_text rules idle = flat_map (idle_line rules) idle

abbrev pub findings_of : List IdleRule → Findings
findings_of [] = Absent
findings_of (r ∷ rs) = Present

-- whether there are such rules, and the text that tells which
abbrev pub IsReport : List Rule → Findings → List ℕ → Type 0
IsReport rules findings text = (idle : List IdleRule) × AreIdle rules idle × (text ≡ idle_text rules idle) × (findings ≡ findings_of idle)

-- ---- the report on isolation

abbrev pub exposure_line : List Rule → Exposure → List ℕ
exposure_line rules (Soa name right) = (codes "soa " ++ name_text name) ++ right_text rules right
exposure_line rules (Shared name own other theirs) =
    (((codes "shared " ++ name_text name) ++ right_text rules own) ++ other_text other) ++ right_text rules theirs

abbrev pub isolation_line : List Rule → Option Exposure → List ℕ
isolation_line rules None = codes "isolated"
isolation_line rules (Some exposure) = exposure_line rules exposure

abbrev pub exposures_of : Option Exposure → Findings
exposures_of None = Absent
exposures_of (Some exposure) = Present

-- that the caller is isolated, or what keeps it from that
abbrev pub IsIsolationReport : List Rule → List ℕ → Findings → List ℕ → Type 0
IsIsolationReport rules caller findings text =
    (found : Option Exposure) × ((found ≡ None) ↔ IsIsolated rules caller) × IfSome found (IsExposed rules caller)
    × (text ≡ isolation_line rules found ++ 10 ∷ []) × (findings ≡ exposures_of found)

-- ---- all of them

-- what is printed of rights finds nothing
abbrev pub IsReportOn : Checking → Findings → List ℕ → Type 0
IsReportOn (checking.Rules rules) findings text = IsReport rules findings text
IsReportOn (checking.Changes old rules) findings text = IsChangesReport old.now rules findings text
IsReportOn (checking.Expected policy rows) findings text = IsExpectReport policy.now rows findings text
IsReportOn (checking.Zones policy reader zones) findings text = IsZonesReport policy.now (option_map (λ r. r.now) reader) zones findings text
IsReportOn (checking.Isolation caller rules) findings text = IsIsolationReport rules caller findings text
IsReportOn (checking.Rights name rules) findings text = IsRightsText name rules text × (findings ≡ Absent)
IsReportOn (checking.Printed printed) findings text = IsPolicyText printed findings text
IsReportOn (checking.Reverse origin records) findings text = IsReverseReport origin records findings text
IsReportOn (checking.Reach policy caller Groups zone) findings text = IsReachReport policy.now caller.now zone findings text
IsReportOn (checking.Reach policy caller Examples zone) findings text = IsExamplesReport policy.now caller.now zone findings text
IsReportOn (checking.Zone zone tests) findings text = IsZoneReport zone tests findings text

-- of what the lines of a report are; those of examples are no questions, and so whole lines as JSON
abbrev pub kind_of : Checking → LineKind
kind_of (checking.Rules rules) = kind.IdleRules
kind_of (checking.Changes old rules) = kind.Changes
kind_of (checking.Expected policy rows) = kind.Expectations
kind_of (checking.Zones policy reader zones) = kind.Zones
kind_of (checking.Isolation caller rules) = kind.Isolation
kind_of (checking.Rights name rules) = kind.Rights
kind_of (checking.Printed printed) = kind.Others
kind_of (checking.Reverse origin records) = kind.Others
kind_of (checking.Reach policy caller Groups zone) = kind.Questions
kind_of (checking.Reach policy caller Examples zone) = kind.Others
kind_of (checking.Zone zone tests) = kind.Findings

-- the report on what is read, as lines or as their objects
abbrev pub ReportsOn : AskedCheck → Option (List ℕ) → Findings → List ℕ → Type 0
ReportsOn wanted left findings text =
    (made : Checking) × Makes left (checked_read wanted) (Ok made) × IsPrintedAs wanted.form (kind_of made) (IsReportOn made findings) text

-- What was left to read, the answer, that the input did not fail, and that it did.
abbrev pub Reports : AskedCheck → Option (List ℕ) → Result Report LineFault → Type 0 → Type 0 → Type 0
Reports wanted left (Ok report) fine failed = ReportsOn wanted left report.findings report.text.items × fine
Reports wanted left (Err (Refused refusal)) fine failed = Makes left (checked_read wanted) (Err refusal) × fine
Reports wanted left (Err NoMemory) fine failed = fine
Reports wanted left (Err ReadFailed) fine failed = failed × ReachesInput (checked_read wanted)

-- ---- what is written

-- a text that is to be written where this was left to read, that the input did not fail, and that it did
abbrev pub IsCheckReply : AskedCheck → Option (List ℕ) → Type 0 → Type 0 → List ℕ → Type 0
IsCheckReply wanted left fine failed text =
    (((findings : Findings) × ReportsOn wanted left findings text) × fine)
    ⊎ ((((refusal : Refusal) × Makes left (checked_read wanted) (Err refusal) × (text ≡ refused_line refusal)) × fine)
    ⊎ (((text ≡ line_of ReadFailed) × failed × ReachesInput (checked_read wanted))
    ⊎ ((text ≡ line_of NoMemory) × fine)))

-- What was left to read, what the writer held before and after, how the check went, that the input did not fail, that it did, and the
-- writer's failures before and after. A failed write leaves a prefix of what was to be written; else it is all written.
abbrev pub Checked : AskedCheck → Option (List ℕ) → Option (List ℕ) → Option (List ℕ) → Result Findings JobFault → Type 0 → Type 0 → ℕ → ℕ → Type 0
Checked wanted left old new (Ok findings) fine failed writes writes_after =
    ((text : List ℕ) × ReportsOn wanted left findings text × Appends old new text) × fine × (writes_after ≡ writes)
Checked wanted left old new (Err (Reported (Refused refusal))) fine failed writes writes_after =
    Makes left (checked_read wanted) (Err refusal) × Appends old new (refused_line refusal) × fine × (writes_after ≡ writes)
Checked wanted left old new (Err (Reported ReadFailed)) fine failed writes writes_after =
    Appends old new (line_of ReadFailed) × failed × ReachesInput (checked_read wanted) × (writes_after ≡ writes)
Checked wanted left old new (Err (Reported NoMemory)) fine failed writes writes_after =
    Appends old new (line_of NoMemory) × fine × (writes_after ≡ writes)
Checked wanted left old new (Err WriteFailed) fine failed writes writes_after =
    ((text : List ℕ) × IsCheckReply wanted left fine failed text × AppendsFront old new text) × (writes < writes_after)
