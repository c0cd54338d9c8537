-- What is printed of the zones of a store.
use Rattle.std.specs.Prelude.{◌≡◌, ℕ, List, length, map, Option, Some, Result, Ok, Err}
use Rattle.std.specs.List.{AllByRecursion}
use Rattle.sqlite.specs.State.{State as Shown, HasCleanDisk}
use Rattle.zone_core.specs.Sets.{listing}
use Rattle.zone_core.specs.Zones.{serial_of}
use Rattle.office_model.specs.States.{Held, State, zone_held}
use Rattle.store_rows.specs.declared.ordered.KeptReceipt.{KeptReceipt}
use Rattle.store_faults.specs.declared.store_fault.StoreFault.{StoreFault}
use Rattle.store_rows.specs.Listed.{AreOriginsOf, AreReceiptsOf}
use Rattle.store_faults.specs.StoreFaults.{IsFailure}
use Rattle.office_store.specs.Holds.{HoldsState}
use Rattle.office_store.specs.Queries.{AsksOnly}
use Rattle.cli_core.specs.declared.line_fault.LineFault.{LineFault}
use Rattle.cli_core.specs.declared.line_fault.LineFault.TheVariants.{NoMemory}
use Rattle.cli_core.specs.declared.line_fault.JobFault.{JobFault}
use Rattle.cli_core.specs.LineFaults.{of_store}
use Rattle.cli_store.specs.declared.zone_list.ZoneSummary.{ZoneSummary}
use Rattle.cli_store.specs.declared.store_list.StoreList.{StoreList}
use Rattle.cli_store.specs.ZoneList.{zones_text}
use Rattle.cli_store.specs.Reports.{IsReported}
use Rattle.cli_store.specs.Stores.{StoresOf, IsGot}

-- ---- what a store has

-- the zone of an origin is held with this serial, so many records, and so many changes
abbrev pub IsSummary : State → ZoneSummary → Type 0
IsSummary s z =
    (held : Held) × (s.zones z.origin ≡ Some held)
    × (z.serial ≡ serial_of (zone_held z.origin held)) × (z.records ≡ length (listing held.records)) × (z.changes ≡ length held.changes)

-- all zones, and all receipts
pub record ListOf : Type 0 where
  pub zones : List ZoneSummary
  pub kept : List KeptReceipt

-- a summary of each zone, in canonical order of the origins
pub record AreZonesOf (s : State) (zones : List ZoneSummary) : Type 0 where
  pub origins : AreOriginsOf s (map (λ z. z.origin) zones)
  pub summaries : AllByRecursion (IsSummary s) zones

abbrev pub HasList : State → Result ListOf StoreFault → Type 0
HasList s (Ok all) = AreZonesOf s all.zones × AreReceiptsOf s all.kept
HasList s (Err fault) = IsFailure fault

-- what is read is that of the state that the store holds, which stays as it is
abbrev pub IsListRead : Shown → Shown → Result ListOf StoreFault → Type 0
IsListRead now after result = AsksOnly now after result × (HasCleanDisk after → (s : State) → HoldsState now s → HasList s result)

-- what the program sees of what it has read
abbrev pub list_in : StoreList → ListOf
list_in all = record { zones = all.zones.items; kept = all.kept.items }

-- ---- the text

-- that of what was read, unless memory runs out; or the store's refusal
abbrev pub IsListText : Result ListOf StoreFault → Result (List ℕ) LineFault → Type 0
IsListText (Ok all) (Ok text) = text ≡ zones_text all.zones all.kept
IsListText (Ok all) (Err fault) = fault ≡ NoMemory
IsListText (Err refusal) made = made ≡ Err (of_store refusal)

-- ---- the job

-- The stores of paths, the path, the connection that is handed back, what the writer held before and after, how it went, and the writer's
-- failures before and after: what was read of the store of the path is written as a text, or the line of the fault.
abbrev pub ZonesPrinted : {C : Type 0} → StoresOf C → List ℕ → Option C → Option (List ℕ) → Option (List ℕ) → Result (Unit {0}) JobFault → ℕ → ℕ → Type 0
ZonesPrinted s path conn old new result writes writes_after =
    (read : Result ListOf StoreFault) × IsGot s.shows (s.finds path) (s.refuses path) (s.connects path) IsListRead conn read
    × ((made : Result (List ℕ) LineFault) × IsListText read made × IsReported made old new result writes writes_after)
