-- What `diff` prints: the items that lead from one zone to another of the same origin, and in a form prerequisites before them; or which
-- questions a server answers otherwise from the other.
use Rattle.std.specs.Prelude.{◌≡◌, ◌≢◌, ◌↔◌, ◌⊎◌, ℕ, ◌≤◌, List, [], length, true, if◌then◌else◌, Option, Result, Ok, Err}
use Rattle.std.specs.List.{Contains}
use Rattle.dns_data.specs.declared.record.Record.{Record}
use Rattle.dns_data.specs.declared.record_type.RecordType.TheVariants as types
use Rattle.dns_data.specs.Rdata.{type_of}
use Rattle.zone_core.specs.declared.update.Operation.{Operation}
use Rattle.zone_core.specs.declared.update.Prerequisite.{Prerequisite}
use Rattle.zone_core.specs.declared.update.Prerequisite.TheVariants.{RrsetAbsent}
use Rattle.zone_core.specs.Sets.{IsIn}
use Rattle.zone_core.specs.Zones.{ZoneOf, IsZone}
use Rattle.zone_core.specs.Updates.{UpdateOf}
use Rattle.zone_core.specs.Effects.{zone_after}
use Rattle.zone_core.specs.Met.{AreMet}
use Rattle.zone_tools.specs.Differences.{operations, target}
use Rattle.update_lines.specs.Reading.{items_of}
use Rattle.update_lines.specs.Texts.{update_text}
use Rattle.cli_core.specs.declared.job.DiffForm.{DiffForm}
use Rattle.cli_core.specs.declared.job.DiffContent.{DiffContent}
use Rattle.cli_core.specs.declared.job.DiffContent.TheVariants.{Items, Answers}
use Rattle.cli_text.specs.declared.line_objects.LineKind.{LineKind}
use Rattle.cli_text.specs.declared.line_objects.LineKind.TheVariants as kind
use Rattle.cli_text.specs.LineObjects.{IsPrintedAs}
use Rattle.cli_core.specs.declared.job.ItemForm.{ItemForm}
use Rattle.cli_core.specs.declared.job.ItemForm.TheVariants.{Bare, Guarded}
use Rattle.cli_core.specs.declared.job.GuardScope.{GuardScope}
use Rattle.cli_core.specs.declared.job.GuardScope.TheVariants.{Sets}
use Rattle.cli_core.specs.declared.refusal.Refusal.{Refusal}
use Rattle.cli_core.specs.declared.line_fault.JobFault.{JobFault}
use Rattle.cli_updates.specs.declared.diff_fault.DiffFault.{DiffFault}
use Rattle.cli_updates.specs.declared.diff_fault.DiffFault.TheVariants.{Old, New}
use Rattle.cli_core.specs.LineFaults.{◌>>=◌, limited, Makes}
use Rattle.cli_core.specs.Replies.{Answered}
use Rattle.cli_text.specs.Canon.{zone_of_file, zone_read}
use Rattle.cli_text.specs.Apply.{updated, zone_lines}
use Rattle.cli_text.specs.ChangedAnswerLines.{AreAnswerLines}
use Rattle.cli_updates.specs.Texts.{Told}
use Rattle.cli_updates.specs.Guards.{changes_set, guards_of}
use Rattle.cli_core.specs.Inputs.{InputOf}
use Rattle.cli_updates.specs.GuardPromises.{HaveSameSet, HasRoom, IsOfNoSet, IsOfOperation, IsTestFor}

-- the prerequisites before operations between two zones, in a form
abbrev pub prerequisites_in : ItemForm → ZoneOf → ZoneOf → List Operation → List Prerequisite
prerequisites_in Bare old new ops = []
prerequisites_in (Guarded scope) old new ops = guards_of scope old.records new.records ops

-- the update that leads from one zone to another, in a form
abbrev pub update_in : ItemForm → ZoneOf → ZoneOf → UpdateOf
update_in form old new =
    let ops = operations old.origin old.records new.records in record { prerequisites = prerequisites_in form old new ops; operations = ops }

-- the items that lead from one zone to another
abbrev pub items_between : ItemForm → ZoneOf → ZoneOf → List ℕ
items_between form old new = update_text (update_in form old new)

-- the lines of what is printed of two zones
abbrev pub AreDiffLines : DiffContent → ZoneOf → ZoneOf → List ℕ → Type 0
AreDiffLines (Items form) old new text = text ≡ items_between form old new
AreDiffLines Answers old new text = AreAnswerLines old new text

-- of what they are
abbrev pub kind_of : DiffContent → LineKind
kind_of (Items form) = kind.Items
kind_of Answers = kind.Questions

-- what is printed of two zones: the lines, or their objects
abbrev pub IsDiffText : DiffForm → ZoneOf → ZoneOf → List ℕ → Type 0
IsDiffText form old new text = IsPrintedAs form.text (kind_of form.content) (AreDiffLines form.content old new) text

-- the zone of an input that is its master file, of the origin of another
abbrev pub new_read : ZoneOf → List ℕ → Result ZoneOf Refusal
new_read old input = limited input >>= zone_of_file old.origin

-- ---- two inputs

-- what is printed of the input that is the old zone's file, by itself: nothing, if it has a zone
abbrev pub old_text : List ℕ → List ℕ → Result (List ℕ) Refusal
old_text word input = zone_read word input >>= λ zone. Ok []

-- The word of the origin, what was left to read of the old zone's file, what the writer held before and after, how it went, that the input
-- did not fail, that it did, and the writer's failures before and after: the zone that was read, and nothing is written; or its refusal is.
abbrev pub IsOldRead : List ℕ → Option (List ℕ) → Option (List ℕ) → Option (List ℕ) → Result ZoneOf JobFault → Type 0 → Type 0 → ℕ → ℕ → Type 0
IsOldRead word left before after (Ok zone) fine failed writes writes_after =
    Makes left (zone_read word) (Ok zone) × fine × (after ≡ before) × (writes_after ≡ writes)
IsOldRead word left before after (Err fault) fine failed writes writes_after =
    Answered left (old_text word) before after (Err fault) fine failed writes writes_after

-- what is answered to the new zone's file, where the old zone was read
abbrev pub IsDiff : DiffForm → List ℕ → InputOf → InputOf → Option (List ℕ) → Option (List ℕ) → Result (Unit {0}) JobFault → ℕ → ℕ → Type 0
IsDiff form word old new before after result writes writes_after =
    (zone : ZoneOf) × Makes old.left (zone_read word) (Ok zone) × old.fine
    × Told (IsDiffText form zone) (new_read zone) new.left before after result new.fine new.failed writes writes_after

-- The form, the word of the origin, what is known of the old zone's file and of the new one's, what the writer held before and after, how
-- it went, and the writer's failures before and after: the old zone was refused, or not read, and the new one's file was let be; or
-- else the new one's file was answered.
abbrev pub Differs : DiffForm → List ℕ → InputOf → InputOf → Option (List ℕ) → Option (List ℕ) → Result (Unit {0}) DiffFault → ℕ → ℕ → Type 0
Differs form word old new before after (Err (Old fault)) writes writes_after =
    Answered old.left (old_text word) before after (Err fault) old.fine old.failed writes writes_after × new.fine
Differs form word old new before after (Err (New fault)) writes writes_after = IsDiff form word old new before after (Err fault) writes writes_after
Differs form word old new before after (Ok done) writes writes_after = IsDiff form word old new before after (Ok done) writes writes_after

-- ---- where the items lead

-- the update of the operations between two zones, which has no prerequisites
abbrev pub update_between : ZoneOf → ZoneOf → UpdateOf
update_between old new = record { prerequisites = []; operations = operations old.origin old.records new.records }

-- the zone to which they lead: the new one, with a serial that is greater than the old one's
abbrev pub target_of : ZoneOf → ZoneOf → ZoneOf
target_of old new = record old { records = target old.origin old.records new.records }

-- the operations, made in order in the old zone, give that zone
abbrev pub DiffsLead : Type 0
DiffsLead = (old new : ZoneOf) → IsZone old → IsZone new → new.origin ≡ old.origin → zone_after old (update_between old new) ≡ target_of old new

-- its operations
abbrev pub operations_of : ZoneOf → ZoneOf → List Operation
operations_of old new = (update_between old new).operations

-- the prerequisites of a diff are met in the old zone
abbrev pub DiffsAreMet : Type 0
DiffsAreMet = (form : ItemForm) (old new : ZoneOf) → IsZone old → IsZone new → AreMet old.records (update_in form old new).prerequisites

-- the prerequisites of a scope before the operations from one zone to another are met in a third of their origin
pub record Meets (scope : GuardScope) (old new now : ZoneOf) : Type 0 where
  pub is_old : IsZone old
  pub is_new : IsZone new
  pub is_now : IsZone now
  pub new_origin : new.origin ≡ old.origin
  pub now_origin : now.origin ≡ old.origin
  pub met : AreMet now.records (update_in (Guarded scope) old new).prerequisites

-- there, each record set that the operations change has the data that it has in the old zone
abbrev pub DiffsTell : Type 0
DiffsTell =
    (scope : GuardScope) (old new now : ZoneOf) → Meets scope old new now → (r : Record) → IsIn r old.records ⊎ IsIn r new.records
    → changes_set old.records new.records (operations_of old new) r ≡ true → HaveSameSet now.records old.records r

-- and so has the set of each record that an operation adds or deletes
abbrev pub OperationsTell : Type 0
OperationsTell = (scope : GuardScope) (old new now : ZoneOf) → Meets scope old new now → (r : Record) → IsOfOperation (operations_of old new) r → HaveSameSet now.records old.records r

-- no record is there for which a record of a new set is left out
abbrev pub DiffsHaveRoom : Type 0
DiffsHaveRoom = (scope : GuardScope) (old new now : ZoneOf) → Meets scope old new now → (r : Record) → IsIn r new.records → IsOfNoSet old.records r → HasRoom old.records now.records r

-- and so the operations make of each record set that they change what it is in the new zone, and leave each other as it was there; but for
-- the SOA
abbrev pub DiffsAreMadeBeside : Type 0
DiffsAreMadeBeside =
    (scope : GuardScope) (old new now : ZoneOf) → Meets scope old new now → (r : Record) → type_of r.rdata ≢ types.Soa
    → HaveSameSet (zone_after now (update_in (Guarded scope) old new)).records
    (if changes_set old.records new.records (operations_of old new) r then new.records else now.records) r

-- there are prerequisites exactly where there are operations
abbrev pub OperationsAreGuarded : Type 0
OperationsAreGuarded =
    (scope : GuardScope) (old new : ZoneOf) → IsZone old → IsZone new → new.origin ≡ old.origin
    → ((update_in (Guarded scope) old new).prerequisites ≡ []) ↔ (operations_of old new ≡ [])

-- ---- tests of sets only

-- a zone of an origin in which the record sets that change have the data of the old zone, and no record keeps out what comes
pub record IsReadyFor (old new now : ZoneOf) : Type 0 where
  pub is_old : IsZone old
  pub is_new : IsZone new
  pub is_now : IsZone now
  pub new_origin : new.origin ≡ old.origin
  pub now_origin : now.origin ≡ old.origin
  pub same : (r : Record) → IsIn r old.records ⊎ IsIn r new.records → changes_set old.records new.records (operations_of old new) r ≡ true → HaveSameSet now.records old.records r
  pub room : (r : Record) → IsIn r new.records → IsOfNoSet old.records r → HasRoom old.records now.records r

-- in such a zone the prerequisites on sets are met, whatever else it has
abbrev pub SetsAreEnough : Type 0
SetsAreEnough = (old new now : ZoneOf) → IsReadyFor old new now → AreMet now.records (update_in (Guarded Sets) old new).prerequisites

-- each of them is on a set that changes: it tests that set, or what keeps it out
abbrev pub SetsAreTested : Type 0
SetsAreTested =
    (old new : ZoneOf) → IsZone old → IsZone new → new.origin ≡ old.origin → (p : Prerequisite) → Contains (update_in (Guarded Sets) old new).prerequisites p
    → (r : Record) × (IsIn r old.records ⊎ IsIn r new.records) × (changes_set old.records new.records (operations_of old new) r ≡ true) × IsTestFor r p

-- and no prerequisite of any scope tests that there is no SOA
abbrev pub NoSoaIsTestedFor : Type 0
NoSoaIsTestedFor =
    (scope : GuardScope) (old new : ZoneOf) → IsZone old → IsZone new → new.origin ≡ old.origin
    → (name : List (List ℕ)) → ¬ Contains (update_in (Guarded scope) old new).prerequisites (RrsetAbsent name types.Soa)

-- ---- what is read

-- if there are no more items than an update may have, they are read as the update, and `apply` prints of the old zone the zone to which
-- the operations lead
abbrev pub DiffsAreApplied : Type 0
DiffsAreApplied =
    (form : ItemForm) (old new : ZoneOf) → IsZone old → IsZone new → new.origin ≡ old.origin → length (update_in form old new).prerequisites ≤ 64
    → length (update_in form old new).operations ≤ 256
    → (items_of (items_between form old new) ≡ Ok (update_in form old new)) × (updated old (update_in form old new) ≡ Ok (zone_lines (target_of old new)))
