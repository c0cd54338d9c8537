-- When rows are a state, table by table, and how that is checked: rows are read and put in order, and then taken zone by zone.
use Rattle.std.specs.Prelude.{◌≡◌, ◌≢◌, ◌↔◌, ℕ, ℤ, List, [], ◌∷◌, map, take, drop, true, not, Result, Ok, Err}
use Rattle.std.specs.List.{AllByRecursion, AllPairs, flat_map, position_or_len}
use Rattle.std.specs.List.Sorted.{IsPermutation}
use Rattle.std.specs.declared.cmp.Ordering.{Ordering}
use Rattle.std.specs.Cmp.{IsTotalOrder, on_total, then_total}
use Rattle.std.specs.Cmp.Lexicographic.{slice_cmp, nat_list_cmp_total}
use Rattle.std.specs.Ordering.{nat_cmp, on, then_cmp}
use Rattle.dns_names.specs.Labels.{IsName}
use Rattle.dns_names.specs.Order.{canonical_cmp, canonical_total, same_name}
use Rattle.dns_names.specs.Spelling.{name_text}
use Rattle.dns_data.specs.Rdata.{IsRecord}
use Rattle.dns_data.specs.RecordOrder.{record_order, record_order_total}
use Rattle.zone_core.specs.Views.{AreOfZone}
use Rattle.office_model.specs.States.{State}
use Rattle.store_sql.specs.Rows.{RecordRowOf, ReceiptRowOf, ChangeRowOf, RowsOf}
use Rattle.store_rows.specs.declared.changes.ChangedRecord.{ChangedRecord}
use Rattle.store_rows.specs.declared.row_fault.RowFault.{RowFault}
use Rattle.store_rows.specs.declared.row_fault.RowFault.TheVariants.{BadRow, NoMemory}
use Rattle.store_rows.specs.RecordRows.{record_row}
use Rattle.store_rows.specs.ChangeRows.{are_numbered, IsChange}
use Rattle.store_rows.specs.Contents.{ZoneRows, ReceiptAt, zone_records, zone_changes, row_of_receipt, IsZoneRows, IsReceiptAt, AreOfState}
use Rattle.store_rows.specs.Orders.{rises}
use Rattle.store_rows.specs.declared.ordered.ReceiptKey.{ReceiptKey}
use Rattle.store_rows.specs.declared.ordered.ZoneRecord.{ZoneRecord}

-- ---- table by table

-- origins, records and changes are those of zones of which no two have one origin
pub record AreZoneRows (origins : List (List ℕ)) (records : List RecordRowOf) (changes : List ChangeRowOf) : Type 0 where
  pub zones : List ZoneRows
  pub apart : AllPairs (λ a b. a.origin ≢ b.origin) zones
  pub each : AllByRecursion IsZoneRows zones
  pub same_origins : IsPermutation (map (λ z. name_text z.origin) zones) origins
  pub same_records : IsPermutation (flat_map zone_records zones) records
  pub same_changes : IsPermutation (flat_map zone_changes zones) changes

-- names in canonical order, none twice
pub record AreOrigins (origins : List (List (List ℕ))) : Type 0 where
  pub each : AllByRecursion IsName origins
  pub order : rises canonical_cmp origins ≡ true

-- rows are the texts of these origins
pub record AreOriginRows (origins : List (List (List ℕ))) (rows : List (List ℕ)) : Type 0 where
  pub are : AreOrigins origins
  pub same : IsPermutation (map name_text origins) rows

-- the records of a zone are those of its origin
pub record HasItsRecords (z : ZoneRows) : Type 0 where
  pub origin : IsName z.origin
  pub zone : AreOfZone z.origin z.records

-- rows are those of the records of zones of these origins, whatever their changes
pub record AreRecordsOf (origins : List (List (List ℕ))) (rows : List RecordRowOf) : Type 0 where
  pub zones : List ZoneRows
  pub origins_are : map (λ z. z.origin) zones ≡ origins
  pub each : AllByRecursion HasItsRecords zones
  pub same : IsPermutation (flat_map zone_records zones) rows

-- the changes of a zone are changes
pub record HasItsChanges (z : ZoneRows) : Type 0 where
  pub origin : IsName z.origin
  pub changes : AllByRecursion IsChange z.changes

-- rows are those of the changes of zones of these origins, whatever their records
pub record AreChangesOf (origins : List (List (List ℕ))) (rows : List ChangeRowOf) : Type 0 where
  pub zones : List ZoneRows
  pub origins_are : map (λ z. z.origin) zones ≡ origins
  pub each : AllByRecursion HasItsChanges zones
  pub same : IsPermutation (flat_map zone_changes zones) rows

-- rows of each of the three tables are those of zones of the same origins
pub record AreRowsByTable (texts : List (List ℕ)) (record_rows : List RecordRowOf) (change_rows : List ChangeRowOf) : Type 0 where
  pub origins : List (List (List ℕ))
  pub zones : AreOriginRows origins texts
  pub records : AreRecordsOf origins record_rows
  pub changes : AreChangesOf origins change_rows

-- Rows of three tables are those of zones exactly where each table has rows of the zones of the same origins.
abbrev pub RowsAreByTable : Type 0
RowsAreByTable = (texts : List (List ℕ)) (records : List RecordRowOf) (changes : List ChangeRowOf) → AreZoneRows texts records changes ↔ AreRowsByTable texts records changes

-- rows are those of receipts of which no two of one caller have one identifier
pub record AreReceiptRows (rows : List ReceiptRowOf) : Type 0 where
  pub receipts : List ReceiptAt
  pub apart : AllPairs (λ a b. ¬ ((a.caller ≡ b.caller) × (a.id ≡ b.id))) receipts
  pub each : AllByRecursion IsReceiptAt receipts
  pub same : IsPermutation (map row_of_receipt receipts) rows

-- rows are those of some state, in tables of this version
pub record AreStateRows (version : ℤ) (rows : RowsOf) : Type 0 where
  pub versions : rows.versions ≡ version ∷ []
  pub zones : AreZoneRows rows.zones rows.records rows.changes
  pub receipts : AreReceiptRows rows.receipts

-- There is a state of these rows exactly where they are the one version, the rows of zones and those of receipts.
abbrev pub StatesAreByTable : Type 0
StatesAreByTable = (version : ℤ) (rows : RowsOf) → AreStateRows version rows ↔ ((s : State) × AreOfState version rows s)

-- a check passes only where this holds, and refuses a row only where it doesn't; out of memory says nothing of it
abbrev pub Checks : {X : Type 0} → Type 0 → Result X RowFault → Type 0
Checks P (Ok x) = P
Checks P (Err BadRow) = ¬ P
Checks P (Err NoMemory) = Unit {0}

-- ---- rows as they are read

-- the text of an origin
abbrev pub IsOriginText : List ℕ → Type 0
IsOriginText text = (origin : List (List ℕ)) × IsName origin × (text ≡ name_text origin)

-- the row of a record of a zone
abbrev pub row_of_record : ZoneRecord → RecordRowOf
row_of_record r = record_row r.origin r.rr

-- what every record of a zone is: of a name and a record
pub record IsZoneRecord (r : ZoneRecord) : Type 0 where
  pub origin : IsName r.origin
  pub rr : IsRecord r.rr

-- a row of such a record
abbrev pub IsZoneRecordRow : RecordRowOf → Type 0
IsZoneRecordRow row = (r : ZoneRecord) × IsZoneRecord r × (row ≡ row_of_record r)

-- by origin, and then in record order
abbrev pub zone_record_order : ZoneRecord → ZoneRecord → Ordering
zone_record_order = then_cmp (on (λ r. r.origin) canonical_cmp) (on (λ r. r.rr) record_order)

-- which is a total order
pub zone_record_total : IsTotalOrder zone_record_order
zone_record_total = then_total (on_total (λ r. r.origin) canonical_total) (on_total (λ r. r.rr) record_order_total)

-- a row of a receipt
abbrev pub IsReceiptRow : ReceiptRowOf → Type 0
IsReceiptRow row = (r : ReceiptAt) × IsReceiptAt r × (row ≡ row_of_receipt r)

-- the caller and the identifier of a row
abbrev pub row_key : ReceiptRowOf → ReceiptKey
row_key row = record { caller = row.caller; id = row.id }

-- by caller, and then by identifier
abbrev pub receipt_key_order : ReceiptKey → ReceiptKey → Ordering
receipt_key_order = then_cmp (on (λ k. k.caller) (slice_cmp nat_cmp)) (on (λ k. k.id) (slice_cmp nat_cmp))

-- which is a total order
pub receipt_key_total : IsTotalOrder receipt_key_order
receipt_key_total = then_total (on_total (λ k. k.caller) nat_list_cmp_total) (on_total (λ k. k.id) nat_list_cmp_total)

-- ---- zone by zone

-- how many records stand first that are of the zone of an origin
abbrev pub records_first : List (List ℕ) → List ZoneRecord → ℕ
records_first origin records = position_or_len (λ r. not (same_name r.origin origin)) records

-- how many of what changes have stand first that are of the zone of an origin
abbrev pub changes_first : List (List ℕ) → List ChangedRecord → ℕ
changes_first origin changes = position_or_len (λ c. not (same_name c.origin origin)) changes

-- one zone after the other, each of the next origin, of what stands first; and nothing after the last
abbrev pub AreInTurn : {X : Type 0} → (List (List ℕ) → List X → ℕ) → (List (List ℕ) → List X → Type 0) → List (List (List ℕ)) → List X → Type 0
AreInTurn first P [] xs = xs ≡ []
AreInTurn first P (origin ∷ origins) xs = P origin (take (first origin xs) xs) × AreInTurn first P origins (drop (first origin xs) xs)

-- the records of one zone, in record order
abbrev pub AreRecordsIn : List (List ℕ) → List ZoneRecord → Type 0
AreRecordsIn origin records = AreOfZone origin (map (λ r. r.rr) records)

abbrev pub AreRecordsInTurn : List (List (List ℕ)) → List ZoneRecord → Type 0
AreRecordsInTurn = AreInTurn records_first AreRecordsIn

-- the changes of one zone, numbered from 1 without a gap
abbrev pub AreChangesIn : List (List ℕ) → List ChangedRecord → Type 0
AreChangesIn origin changes = are_numbered changes ≡ true

abbrev pub AreChangesInTurn : List (List (List ℕ)) → List ChangedRecord → Type 0
AreChangesInTurn = AreInTurn changes_first AreChangesIn
