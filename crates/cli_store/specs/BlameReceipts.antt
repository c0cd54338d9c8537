-- What `blame` prints with receipts: each record of a zone of a store after the change that brought it, and the receipts of the updates
-- that may have made that change.
use Rattle.std.specs.Prelude.{◌≡◌, ◌⊎◌, ℕ, ◌-◌, List, [], ◌∷◌, ◌++◌, Bool, true, false, ◌&&◌, if◌then◌else◌, Option, Some, None, unwrap_or, length, map, slice_get, decimal, Result, Ok, Err}
use Rattle.std.specs.List.{filter, flat_map}
use Rattle.sqlite.specs.State.{State as Shown, HasCleanDisk}
use Rattle.dns_names.specs.Labels.{is_within}
use Rattle.dns_names.specs.Order.{same_name}
use Rattle.dns_data.specs.declared.record.Record.{Record}
use Rattle.dns_data.specs.Text.{record_line}
use Rattle.zone_core.specs.Sets.{key_of, listing}
use Rattle.zone_core.specs.Zones.{ZoneOf}
use Rattle.zone_core.specs.Updates.{UpdateOf}
use Rattle.zone_core.specs.Changes.{ChangeOf, change_in}
use Rattle.zone_tools.specs.History.{bringer}
use Rattle.zone_tools.specs.Makers.{AreMakersByParts}
use Rattle.office_model.specs.declared.reply.UpdateReply.{UpdateReply}
use Rattle.office_model.specs.declared.reply.UpdateReply.TheVariants.{NoError}
use Rattle.office_model.specs.States.{State, zone_at, changes_at}
use Rattle.store_rows.specs.declared.ordered.KeptReceipt.{KeptReceipt}
use Rattle.store_rows.specs.Listed.{AreReceiptsOf}
use Rattle.store_faults.specs.declared.store_fault.StoreFault.{StoreFault}
use Rattle.store_faults.specs.declared.store_fault.StoreFault.TheVariants.{NoZone}
use Rattle.store_faults.specs.StoreFaults.{IsFailure}
use Rattle.office_store.specs.Holds.{HoldsState}
use Rattle.office_store.specs.Queries.{AsksOnly}
use Rattle.cli_core.specs.declared.job.BlameForm.{BlameForm}
use Rattle.cli_core.specs.declared.job.BlameForm.TheVariants.{Changes, Receipts}
use Rattle.cli_core.specs.declared.line_fault.LineFault.{LineFault}
use Rattle.cli_core.specs.declared.line_fault.LineFault.TheVariants.{NoMemory}
use Rattle.cli_core.specs.declared.line_fault.JobFault.{JobFault}
use Rattle.cli_core.specs.LineFaults.{of_store, Gives}
use Rattle.cli_store.specs.declared.zone_makers.Sender.{Sender}
use Rattle.cli_store.specs.declared.zone_makers.ZoneReceipts.{ZoneReceipts}
use Rattle.cli_store.specs.declared.zone_blame.BlameAsked.{BlameAsked}
use Rattle.cli_store.specs.Log.{passes}
use Rattle.cli_store.specs.Reports.{IsReported}
use Rattle.cli_store.specs.Stores.{StoresOf, IsGot}
use Rattle.cli_store.specs.ZoneHistory.{blame_asked, BlamePrinted}

-- ---- what a store has

-- the zone of an origin, its changes, and all receipts of the store
pub record ReceiptsOf : Type 0 where
  pub zone : ZoneOf
  pub changes : List ChangeOf
  pub kept : List KeptReceipt

-- as a state has them; or that there is no such zone, or a failure of the store
abbrev pub HasReceipts : State → List (List ℕ) → Result ReceiptsOf StoreFault → Type 0
HasReceipts s origin (Ok read) = (zone_at s origin ≡ Some read.zone) × (changes_at s origin ≡ Some read.changes) × AreReceiptsOf s read.kept
HasReceipts s origin (Err fault) = ((fault ≡ NoZone) × (s.zones origin ≡ None)) ⊎ IsFailure fault

-- what is read is that of the one state that the store holds, which stays as it is
abbrev pub AreReceiptsRead : List (List ℕ) → Shown → Shown → Result ReceiptsOf StoreFault → Type 0
AreReceiptsRead origin now after result = AsksOnly now after result × (HasCleanDisk after → (s : State) → HoldsState now s → HasReceipts s origin result)

-- what the program sees of what it has read
abbrev pub receipts_in : ZoneReceipts → ReceiptsOf
receipts_in read = record { zone = read.history.zone; changes = map change_in read.history.changes.items; kept = read.kept.items }

-- ---- the receipts of updates that were made

-- An update was made if it was answered with NOERROR: it changed the zone, or there was nothing to change.
abbrev pub is_made : UpdateReply → Bool
is_made NoError = true
is_made reply = false

-- the receipt of such an update of the zone of an origin
abbrev pub is_made_of : List (List ℕ) → KeptReceipt → Bool
is_made_of origin k = same_name k.receipt.origin origin && is_made k.receipt.reply

-- those receipts, in the order in which they come: by caller, and then by identifier. A zone that was taken out has left its receipts, so
-- those of an earlier zone of the origin are among them.
abbrev pub made_of : List (List ℕ) → List KeptReceipt → List KeptReceipt
made_of origin kept = filter (is_made_of origin) kept

-- their updates
abbrev pub updates_of : List KeptReceipt → List UpdateOf
updates_of kept = map (λ k. k.receipt.update) kept

-- who sent an update, and under which identifier
abbrev pub sender_of : KeptReceipt → Sender
sender_of k = record { caller = k.caller; id = k.id }

-- ---- the text

-- a caller and an identifier, each after a space
abbrev pub sender_text : Option Sender → List ℕ
sender_text None = []
sender_text (Some sender) = 32 ∷ (sender.caller ++ 32 ∷ sender.id)

-- how many updates there are at places, and who sent each
abbrev pub makers_text : List Sender → List ℕ → List ℕ
makers_text senders places = decimal (length places) ++ flat_map (λ place. sender_text (slice_get senders place)) places

-- the list that goes with the change of a number, from 1; an empty one with none
abbrev pub list_at : List (List ℕ) → Option ℕ → List ℕ
list_at lists None = []
list_at lists (Some number) = unwrap_or (slice_get lists (number - 1)) []

-- A record that is within the name that is given, after the number of the change that brought it, and after 0 where none did; and between
-- them the updates that may have made that change. With each change goes a list of their places.
abbrev pub receipts_line : Option (List (List ℕ)) → List Sender → List (List ℕ) → Record → Option ℕ → List ℕ
receipts_line name senders lists r change =
    if passes (λ top. is_within r.owner top) name then decimal (unwrap_or change 0) ++ (32 ∷ (makers_text senders (list_at lists change) ++ (32 ∷ (record_line r ++ 10 ∷ []))))
    else []

-- The lines of the records of a zone, in record order, by lists of the receipts whose updates may have made each change.
abbrev pub IsReceiptsText : BlameAsked → ReceiptsOf → List ℕ → Type 0
IsReceiptsText asked read text =
    let made = made_of read.zone.origin read.kept in
    (lists : List (List ℕ)) × AreMakersByParts read.zone.origin (updates_of made) read.changes read.zone.records lists
    × (text ≡ flat_map (λ r. receipts_line asked.name (map sender_of made) lists r (bringer read.changes (key_of r))) (listing read.zone.records))

-- that of what was read, unless memory runs out; or the store's refusal
abbrev pub IsTextOfReceipts : BlameAsked → Result ReceiptsOf StoreFault → Result (List ℕ) LineFault → Type 0
IsTextOfReceipts asked (Ok read) (Ok text) = IsReceiptsText asked read text
IsTextOfReceipts asked (Ok read) (Err fault) = fault ≡ NoMemory
IsTextOfReceipts asked (Err refusal) made = made ≡ Err (of_store refusal)

-- ---- the job

-- What connections show, the words, what the files say of the path, the connection that is handed back, and the text that was made: of what
-- the store of the path has; or a word was refused, with no store touched; or memory ran out for the text; or the store refused it.
abbrev pub AreReceiptsTold : {C : Type 0} → (C → Shown) → List ℕ → Option (List ℕ) → (Bool → Type 0) → (StoreFault → Type 0) → (C → Type 0) → Option C → Result (List ℕ) LineFault → Type 0
AreReceiptsTold shows word name finds refuses connects conn (Ok text) =
    (asked : BlameAsked) × (blame_asked word name ≡ Ok asked)
    × ((read : ReceiptsOf) × IsGot shows finds refuses connects (AreReceiptsRead asked.origin) conn (Ok read) × IsReceiptsText asked read text)
AreReceiptsTold shows word name finds refuses connects conn (Err fault) =
    (Gives {X = BlameAsked} (λ asked. asked) (Err fault) (blame_asked word name) × (conn ≡ None))
    ⊎ ((asked : BlameAsked) × (blame_asked word name ≡ Ok asked)
    × (((fault ≡ NoMemory) × ((read : ReceiptsOf) × IsGot shows finds refuses connects (AreReceiptsRead asked.origin) conn (Ok read)))
    ⊎ ((refusal : StoreFault) × (fault ≡ of_store refusal) × IsGot shows finds refuses connects (AreReceiptsRead asked.origin) conn (Err refusal))))

-- The stores of paths, the path, the words, the connection that is handed back, what the writer held before and after, how it went, and the
-- writer's failures before and after: this text is written, or the line of this fault.
abbrev pub ReceiptsPrinted : {C : Type 0} → StoresOf C → List ℕ → List ℕ → Option (List ℕ) → Option C → Option (List ℕ) → Option (List ℕ) → Result (Unit {0}) JobFault → ℕ → ℕ → Type 0
ReceiptsPrinted s path word name conn old new result writes writes_after =
    (made : Result (List ℕ) LineFault) × AreReceiptsTold s.shows word name (s.finds path) (s.refuses path) (s.connects path) conn made
    × IsReported made old new result writes writes_after

-- the same in the form that is asked for
abbrev pub BlameEnds : {C : Type 0} → StoresOf C → List ℕ → List ℕ → Option (List ℕ) → BlameForm → Option C → Option (List ℕ) → Option (List ℕ) → Result (Unit {0}) JobFault → ℕ → ℕ → Type 0
BlameEnds s path word name Changes conn old new result writes writes_after = BlamePrinted s path word name conn old new result writes writes_after
BlameEnds s path word name Receipts conn old new result writes writes_after = ReceiptsPrinted s path word name conn old new result writes writes_after
