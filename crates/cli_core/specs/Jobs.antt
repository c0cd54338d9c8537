-- The jobs: what each command has for its arguments.
use Rattle.std.specs.Prelude.{Bool, true, false, List, [], ◌∷◌, Option, Some, None, option_map, codes}
use Rattle.clap.specs.Words.{Text}
use Rattle.dns_master.specs.declared.parting.FilePart.{FilePart}
use Rattle.dns_master.specs.declared.parting.FilePart.TheVariants as part
use Rattle.cli_core.specs.Values.{Given, text, number, flag, given}
use Rattle.cli_core.specs.declared.argument.Argument.TheVariants as argument
use Rattle.cli_core.specs.declared.commands.Command.{Command}
use Rattle.cli_core.specs.declared.commands.Command.TheVariants as command
use Rattle.cli_core.specs.declared.commands.check.Check.{Check}
use Rattle.cli_core.specs.declared.commands.check.CheckSubject.{CheckSubject}
use Rattle.cli_core.specs.declared.commands.check.CheckSubject.TheVariants as check
use Rattle.cli_core.specs.declared.commands.policy.PolicySource.{PolicySource}
use Rattle.cli_core.specs.declared.commands.policy.PolicySource.TheVariants.{Groups, Rules}
use Rattle.cli_core.specs.declared.commands.policy.PolicyText.{PolicyText}
use Rattle.cli_core.specs.declared.job.BlameForm.{BlameForm}
use Rattle.cli_core.specs.declared.job.BlameForm.TheVariants as blame
use Rattle.cli_core.specs.declared.job.Existing.{Existing}
use Rattle.cli_core.specs.declared.job.Existing.TheVariants.{Kept, Replaced}
use Rattle.cli_core.specs.declared.job.ReachContent.{ReachContent}
use Rattle.cli_core.specs.declared.job.ReachContent.TheVariants as reach
use Rattle.cli_core.specs.declared.job.TextForm.{TextForm}
use Rattle.cli_core.specs.declared.job.TextForm.TheVariants.{Plain, Json}
use Rattle.cli_core.specs.declared.job.DiffContent.{DiffContent}
use Rattle.cli_core.specs.declared.job.DiffContent.TheVariants.{Items, Answers}
use Rattle.cli_core.specs.declared.job.ItemForm.TheVariants.{Bare, Guarded}
use Rattle.cli_core.specs.declared.job.PlanForm.{PlanForm}
use Rattle.cli_core.specs.declared.job.PlanForm.TheVariants.{Lines, Object}
use Rattle.cli_core.specs.declared.job.PlanLines.TheVariants as plan_lines
use Rattle.cli_core.specs.declared.job.PlanObject.TheVariants as plan_object
use Rattle.cli_core.specs.declared.job.GuardScope.TheVariants.{Names, Sets}
use Rattle.cli_core.specs.declared.job.ZoneForm.{ZoneForm}
use Rattle.cli_core.specs.declared.job.ZoneForm.TheVariants.{Whole, Relative}
use Rattle.cli_core.specs.declared.job.RequestForm.{RequestForm}
use Rattle.cli_core.specs.declared.job.RequestForm.TheVariants as request_form
use Rattle.cli_core.specs.declared.job.StoredZone.{StoredZone}
use Rattle.cli_core.specs.declared.job.RuleChoice.{RuleChoice}
use Rattle.cli_core.specs.declared.job.RuleChoice.TheVariants as choice
use Rattle.cli_core.specs.declared.job.ZoneRules.{ZoneRules}
use Rattle.cli_core.specs.declared.job.Advice.{Advice}
use Rattle.cli_core.specs.declared.job.Advice.TheVariants.{Unasked, Wanted}
use Rattle.cli_core.specs.declared.job.Job.{Job}
use Rattle.cli_core.specs.declared.job.Job.TheVariants as job
use Rattle.cli_core.specs.declared.job.TextJob.{TextJob}
use Rattle.cli_core.specs.declared.job.TextJob.TheVariants as text_job
use Rattle.cli_core.specs.declared.job.StoreJob.{StoreJob}
use Rattle.cli_core.specs.declared.job.StoreJob.TheVariants as store_job

-- a job: its command, and the arguments that it reads with their values, in the order of the table
abbrev pub JobOf : Type 0
JobOf = Command × List Given

-- ---- parts of jobs

abbrev pub is_relative : ZoneForm → Bool
is_relative Whole = false
is_relative Relative = true

abbrev pub is_guarded : DiffContent → Bool
is_guarded (Items Bare) = false
is_guarded (Items (Guarded Names)) = true
is_guarded (Items (Guarded Sets)) = false
is_guarded Answers = false

abbrev pub is_guarded_by_sets : DiffContent → Bool
is_guarded_by_sets (Items Bare) = false
is_guarded_by_sets (Items (Guarded Names)) = false
is_guarded_by_sets (Items (Guarded Sets)) = true
is_guarded_by_sets Answers = false

abbrev pub is_of_answers : DiffContent → Bool
is_of_answers (Items form) = false
is_of_answers Answers = true

-- what three flags ask for, of which only one is given
abbrev pub content_by : Bool → Bool → Bool → Option DiffContent
content_by false false false = Some (Items Bare)
content_by true false false = Some (Items (Guarded Names))
content_by false true false = Some (Items (Guarded Sets))
content_by false false true = Some Answers
content_by _ _ _ = None

abbrev pub tells_answers : PlanForm → Bool
tells_answers (Lines plan_lines.Records) = false
tells_answers (Lines plan_lines.Answers) = true
tells_answers (Lines plan_lines.Explained) = false
tells_answers (Object plan_object.Reply) = false
tells_answers (Object plan_object.Answers) = true
tells_answers (Object plan_object.Explained) = false

abbrev pub explains : PlanForm → Bool
explains (Lines plan_lines.Records) = false
explains (Lines plan_lines.Answers) = false
explains (Lines plan_lines.Explained) = true
explains (Object plan_object.Reply) = false
explains (Object plan_object.Answers) = false
explains (Object plan_object.Explained) = true

abbrev pub is_object : PlanForm → Bool
is_object (Lines lines) = false
is_object (Object object) = true

-- the form of three flags: answers are not asked for with what is decided
abbrev pub plan_form_by : Bool → Bool → Bool → Option PlanForm
plan_form_by false false false = Some (Lines plan_lines.Records)
plan_form_by true false false = Some (Lines plan_lines.Answers)
plan_form_by false true false = Some (Lines plan_lines.Explained)
plan_form_by false false true = Some (Object plan_object.Reply)
plan_form_by true false true = Some (Object plan_object.Answers)
plan_form_by false true true = Some (Object plan_object.Explained)
plan_form_by _ _ _ = None

abbrev pub is_json : TextForm → Bool
is_json Plain = false
is_json Json = true

-- examples are asked for
abbrev pub has_examples : ReachContent → Bool
has_examples reach.Groups = false
has_examples reach.Examples = true

-- what two flags ask for: examples are lines only
abbrev pub reach_content_by : Bool → Bool → Option ReachContent
reach_content_by false json = Some reach.Groups
reach_content_by true false = Some reach.Examples
reach_content_by true true = None

-- receipts are asked for
abbrev pub has_receipts : BlameForm → Bool
has_receipts blame.Changes = false
has_receipts blame.Receipts = true

abbrev pub is_rest : FilePart → Bool
is_rest part.Kept = false
is_rest part.Signer = false
is_rest part.Rest = true

abbrev pub is_of_signer : FilePart → Bool
is_of_signer part.Kept = false
is_of_signer part.Signer = true
is_of_signer part.Rest = false

-- the part that two flags ask for, of which one is given at most
abbrev pub part_by : Bool → Bool → Option FilePart
part_by false false = Some part.Kept
part_by true false = Some part.Rest
part_by false true = Some part.Signer
part_by true true = None

abbrev pub is_replaced : Existing → Bool
is_replaced Kept = false
is_replaced Replaced = true

abbrev pub request_values : RequestForm → Text → List Given
request_values request_form.Whole id = (argument.Id, given id) ∷ (argument.Split, text None) ∷ []
request_values request_form.Split id = (argument.Id, text None) ∷ (argument.Split, given id) ∷ []

abbrev pub is_wanted : Advice → Bool
is_wanted Unasked = false
is_wanted Wanted = true

abbrev pub choice_values : RuleChoice → List Given → List Given
choice_values choice.All gs = (argument.Only, text None) ∷ (argument.Not, text None) ∷ gs
choice_values (choice.Only rule) gs = (argument.Only, given rule.now) ∷ (argument.Not, text None) ∷ gs
choice_values (choice.Not rule) gs = (argument.Only, text None) ∷ (argument.Not, given rule.now) ∷ gs

-- a server, the most records of a set, and whether shared addresses are wanted
abbrev pub further_values : ZoneRules → List Given → List Given
further_values rules gs =
    (argument.Server, text (option_map (λ s. s.now) rules.server)) ∷ (argument.Most, number rules.most) ∷ (argument.Warn, flag (is_wanted rules.advice)) ∷ gs

abbrev pub subject : Text → Given
subject word = (argument.Subject, given word)

-- ---- the table of jobs

-- what checks something, with the values after those of that
abbrev pub check_job : CheckSubject → List Given → JobOf
check_job (check.Policy policy against) gs = (
  command.Check,
  subject (codes "policy") ∷ (argument.CheckedPolicy, given policy.now) ∷ (argument.Against, text (option_map (λ p. p.now) against))
      ∷ (argument.Zones, text None) ∷ (argument.Reader, text None) ∷ gs,
)
check_job (check.PolicyZones policy zones reader) gs = (
  command.Check,
  subject (codes "policy") ∷ (argument.CheckedPolicy, given policy.now) ∷ (argument.Against, text None) ∷ (argument.Zones, given zones.now)
      ∷ (argument.Reader, text (option_map (λ r. r.now) reader)) ∷ gs,
)
check_job (check.Isolation policy caller) gs =
    (command.Check, subject (codes "isolation") ∷ (argument.CheckedPolicy, given policy.now) ∷ (argument.Isolated, given caller.now) ∷ gs)
check_job (check.Rights policy name) gs =
    (command.Check, subject (codes "rights") ∷ (argument.CheckedName, text (option_map (λ n. n.now) name)) ∷ (argument.CheckedPolicy, given policy.now) ∷ gs)
check_job (check.Expect policy file) gs =
    (command.Check, subject (codes "expect") ∷ (argument.CheckedName, text (option_map (λ f. f.now) file)) ∷ (argument.CheckedPolicy, given policy.now) ∷ gs)
check_job (check.Reach w) gs = (
  command.Check,
  subject (codes "reach") ∷ (argument.CheckedName, text (option_map (λ f. f.now) w.file)) ∷ (argument.CheckedPolicy, given w.policy.now)
      ∷ (argument.Isolated, given w.caller.now) ∷ (argument.CheckedOrigin, given w.origin.now) ∷ (argument.Example, flag (has_examples w.content)) ∷ gs,
)
check_job (check.Zone origin rules) gs =
    (command.Check, subject (codes "zone") ∷ (argument.CheckedOrigin, given origin.now) ∷ choice_values rules.choice (further_values rules gs))

abbrev pub asks_check : Check → JobOf
asks_check w = check_job w.subject ((argument.Json, flag (is_json w.form)) ∷ [])

-- the word of that from which a policy is printed
abbrev pub source_word : PolicySource → Text
source_word Groups = codes "build"
source_word Rules = codes "print"

abbrev pub asks_policy : PolicyText → JobOf
asks_policy w = (
  command.Policy,
  (argument.Source, given (source_word w.source)) ∷ (argument.SourceFile, text (option_map (λ f. f.now) w.file))
      ∷ (argument.Slice, text (option_map (λ z. z.now) w.zones)) ∷ [],
)

abbrev pub asks_text : TextJob → JobOf
asks_text text_job.Apply = (command.Apply, [])
asks_text (text_job.Canon w) = (command.Canon, (argument.Origin, given w.origin.now) ∷ (argument.Relative, flag (is_relative w.form)) ∷ [])
asks_text (text_job.Diff w) = (
  command.Diff,
  (argument.Origin, given w.origin.now) ∷ (argument.Guard, flag (is_guarded w.form.content)) ∷ (argument.GuardSets, flag (is_guarded_by_sets w.form.content))
      ∷ (argument.Answers, flag (is_of_answers w.form.content)) ∷ (argument.Json, flag (is_json w.form.text)) ∷ (argument.Old, given w.files.old.now) ∷ (argument.New, given w.files.new.now) ∷ [],
)
asks_text (text_job.Request w) = (command.Request, request_values w.form w.id.now)
asks_text (text_job.Rights w) = (
  command.Rights,
  (argument.Policy, given w.policy.now) ∷ (argument.Caller, given w.asked.caller.now) ∷ (argument.Name, given w.asked.name.now)
      ∷ (argument.Type, given w.asked.record_type.now) ∷ (argument.Action, given w.asked.action.now) ∷ (argument.Json, flag (is_json w.form)) ∷ [],
)
asks_text (text_job.Plan w) = (
  command.Plan,
  (argument.Policy, given w.policy.now) ∷ (argument.Caller, given w.caller.now) ∷ (argument.Answers, flag (tells_answers w.form)) ∷ (argument.Explain, flag (explains w.form))
      ∷ (argument.Json, flag (is_object w.form)) ∷ [],
)
asks_text (text_job.Check w) = asks_check w
asks_text (text_job.Policy w) = asks_policy w
asks_text (text_job.Answer w) = (
  command.Answer,
  (argument.Origin, given w.origin.now) ∷ (argument.File, given w.file.now) ∷ (argument.AskedName, given w.name.now)
      ∷ (argument.AskedType, text (option_map (λ t. t.now) w.asked)) ∷ (argument.Json, flag (is_json w.form)) ∷ [],
)
asks_text (text_job.Reverse w) = (command.Reverse, (argument.Origin, given w.origin.now) ∷ (argument.File, given w.file.now) ∷ [])
asks_text (text_job.Split w) = (
  command.Split,
  (argument.Origin, given w.origin.now) ∷ (argument.Rest, flag (is_rest w.part)) ∷ (argument.Signer, flag (is_of_signer w.part)) ∷ (argument.File, given w.file.now) ∷ [],
)
asks_text (text_job.Explain w) =
    (command.Explain, (argument.Number, text (option_map (λ n. n.now) w.number)) ∷ (argument.Json, flag (is_json w.form)) ∷ [])

abbrev pub stored : StoredZone → List Given → List Given
stored zone gs = (argument.Store, given zone.store.now) ∷ (argument.Origin, given zone.origin.now) ∷ gs

abbrev pub asks_store : StoreJob → JobOf
asks_store (store_job.Import w) = (
  command.Import,
  (argument.Store, given w.zone.store.now) ∷ (argument.ImportedOrigin, given w.zone.origin.now) ∷ (argument.List, text None)
      ∷ (argument.Replace, flag (is_replaced w.existing)) ∷ [],
)
asks_store (store_job.ImportList w) = (
  command.Import,
  (argument.Store, given w.store.now) ∷ (argument.ImportedOrigin, text None) ∷ (argument.List, given w.list.now)
      ∷ (argument.Replace, flag (is_replaced w.existing)) ∷ [],
)
asks_store (store_job.Export w) = (command.Export, stored w.zone ((argument.At, number w.at) ∷ (argument.Relative, flag (is_relative w.form)) ∷ []))
asks_store (store_job.Zones w) = (command.Zones, (argument.Store, given w.store.now) ∷ [])
asks_store (store_job.Log w) = (
  command.Log,
  stored w.zone ((argument.From, number w.choice.from) ∷ (argument.Within, text (option_map (λ n. n.now) w.choice.name))
      ∷ (argument.Asker, text (option_map (λ c. c.now) w.choice.caller)) ∷ (argument.Json, flag (is_json w.choice.form)) ∷ []),
)
asks_store (store_job.Blame w) =
    (command.Blame, stored w.zone ((argument.Within, text (option_map (λ n. n.now) w.name)) ∷ (argument.Receipts, flag (has_receipts w.form)) ∷ []))
asks_store (store_job.Undo w) = (command.Undo, stored w.zone ((argument.Changed, number w.first) ∷ (argument.To, number w.last) ∷ []))
asks_store (store_job.Migrate w) = (command.Migrate, (argument.Store, given w.store.now) ∷ [])
asks_store (store_job.Remove w) = (command.Remove, stored w.zone [])
asks_store (store_job.Serve w) = (
  command.Serve,
  (argument.Store, given w.store.now) ∷ (argument.Policy, given w.policy.now) ∷ (argument.Listen, given w.listen.now)
      ∷ (argument.Connections, number w.connections) ∷ (argument.Patience, number w.patience) ∷ (argument.Longest, number w.longest)
      ∷ (argument.Memory, number w.memory) ∷ [],
)

abbrev pub asks : Job → JobOf
asks (job.Text j) = asks_text j
asks (job.Store j) = asks_store j
