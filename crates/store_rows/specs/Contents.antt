-- What rows mean: zones with their changes, and receipts; and the state that these are.
use Rattle.std.specs.Prelude.{◌≡◌, ◌≢◌, ℕ, ℤ, List, [], ◌∷◌, map, ◌&&◌, Option, option_map, bytes_eq}
use Rattle.std.specs.List.{AllByRecursion, AllPairs, find, flat_map}
use Rattle.dns_names.specs.Labels.{IsName}
use Rattle.dns_names.specs.Order.{same_name}
use Rattle.dns_names.specs.Spelling.{name_text}
use Rattle.dns_data.specs.declared.record.Record.{Record}
use Rattle.grant_policy.specs.Identifiers.{IsIdentifier}
use Rattle.zone_core.specs.Sets.{set_of}
use Rattle.zone_core.specs.Views.{AreOfZone}
use Rattle.zone_core.specs.Changes.{ChangeOf}
use Rattle.office_model.specs.declared.receipt.Receipt.{Receipt}
use Rattle.office_model.specs.States.{Held, State}
use Rattle.store_sql.specs.Rows.{RecordRowOf, ReceiptRowOf, ChangeRowOf, RowsOf}
use Rattle.store_sql.specs.Holds.{SameRows}
use Rattle.store_rows.specs.RecordRows.{record_row}
use Rattle.office_model.specs.ReplyWords.{Wording, Current}
use Rattle.store_rows.specs.ReceiptRows.{receipt_row_in, IsReceipt}
use Rattle.store_rows.specs.ChangeRows.{changes_rows, IsChange}
use Rattle.store_rows.specs.declared.ordered.KeptReceipt.{KeptReceipt}

-- a zone as rows have it: its origin, its records in record order, and its changes, the oldest first
pub record ZoneRows : Type 0 where
  pub origin : List (List ℕ)
  pub records : List Record
  pub changes : List ChangeOf

-- a receipt, with the caller and the identifier under which it is kept, and the wording of its reply
pub record ReceiptAt : Type 0 where
  pub caller : List ℕ
  pub id : List ℕ
  pub receipt : Receipt
  pub wording : Wording

-- as it is written
abbrev pub receipt_under : List ℕ → List ℕ → Receipt → ReceiptAt
receipt_under caller id receipt = record { caller = caller; id = id; receipt = receipt; wording = Current }

-- as it is handed out, in whichever wording its row is
abbrev pub kept_of : ReceiptAt → KeptReceipt
kept_of r = record { caller = r.caller; id = r.id; receipt = r.receipt }

pub record ContentOf : Type 0 where
  pub zones : List ZoneRows
  pub receipts : List ReceiptAt

-- ---- its rows

-- the rows of a zone's records
abbrev pub zone_records : ZoneRows → List RecordRowOf
zone_records z = map (record_row z.origin) z.records

-- the rows of a zone's changes, which are numbered from 1
abbrev pub zone_changes : ZoneRows → List ChangeRowOf
zone_changes z = changes_rows z.origin 1 z.changes

-- the row of a receipt
abbrev pub row_of_receipt : ReceiptAt → ReceiptRowOf
row_of_receipt r = receipt_row_in r.wording r.caller r.id r.receipt

-- the rows of a content, in tables of this version
abbrev pub rows_of : ℤ → ContentOf → RowsOf
rows_of version content = record {
  versions = version ∷ [];
  zones = map (λ z. name_text z.origin) content.zones;
  records = flat_map zone_records content.zones;
  receipts = map row_of_receipt content.receipts;
  changes = flat_map zone_changes content.zones;
}

-- ---- the state that it is

-- what is held of a zone's origin
abbrev pub held_of : ZoneRows → Held
held_of z = record { records = set_of z.records; changes = z.changes }

-- the zone of an origin, if there is one
abbrev pub zone_among : List ZoneRows → List (List ℕ) → Option ZoneRows
zone_among zones origin = find (λ z. same_name z.origin origin) zones

-- the receipt of a caller under an identifier, if there is one
abbrev pub receipt_among : List ReceiptAt → List ℕ → List ℕ → Option ReceiptAt
receipt_among receipts caller id = find (λ r. bytes_eq r.caller caller && bytes_eq r.id id) receipts

-- a content is this state
pub record Means (content : ContentOf) (s : State) : Type 0 where
  pub zones : (origin : List (List ℕ)) → s.zones origin ≡ option_map held_of (zone_among content.zones origin)
  pub receipts : (caller id : List ℕ) → s.receipts caller id ≡ option_map (λ r. r.receipt) (receipt_among content.receipts caller id)

-- ---- what every content is

-- the records make a zone, in record order, and each change is one
pub record IsZoneRows (z : ZoneRows) : Type 0 where
  pub origin : IsName z.origin
  pub zone : AreOfZone z.origin z.records
  pub changes : AllByRecursion IsChange z.changes

-- caller and identifier are such, and the receipt is one
pub record IsReceiptAt (r : ReceiptAt) : Type 0 where
  pub caller : IsIdentifier r.caller
  pub id : IsIdentifier r.id
  pub receipt : IsReceipt r.receipt

-- no two zones have one origin, and no two receipts of a caller have one identifier
pub record IsContent (content : ContentOf) : Type 0 where
  pub zones_apart : AllPairs (λ a b. a.origin ≢ b.origin) content.zones
  pub zones : AllByRecursion IsZoneRows content.zones
  pub receipts_apart : AllPairs (λ a b. ¬ ((a.caller ≡ b.caller) × (a.id ≡ b.id))) content.receipts
  pub receipts : AllByRecursion IsReceiptAt content.receipts

-- ---- rows that are a state

-- Rows in tables of this version are a state: those of a content that is it, in any order.
pub record AreOfState (version : ℤ) (rows : RowsOf) (s : State) : Type 0 where
  pub content : ContentOf
  pub is_content : IsContent content
  pub means : Means content s
  pub same : SameRows (rows_of version content) rows
