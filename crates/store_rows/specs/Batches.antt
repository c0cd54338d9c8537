-- The states that batches lead to.
use Rattle.std.specs.Prelude.{◌≡◌, ℕ, ℤ, pos, suc, List, [], ◌∷◌, ◌++◌, length, map, Some, None}
use Rattle.dns_names.specs.Spelling.{name_text}
use Rattle.zone_core.specs.Sets.{listing}
use Rattle.zone_core.specs.Zones.{ZoneOf}
use Rattle.zone_core.specs.Changes.{ChangeOf, change_between}
use Rattle.office_model.specs.States.{Held, State, hold}
use Rattle.office_model.specs.Tables.{AdditionOf}
use Rattle.store_sql.specs.Rows.{BatchOf, ReceiptRowOf, RowsOf, written}
use Rattle.store_sql.specs.Holds.{made_rows}
use Rattle.store_rows.specs.ChangeRows.{change_rows}
use Rattle.store_rows.specs.Contents.{ReceiptAt, receipt_under, row_of_receipt, AreOfState}
use Rattle.store_rows.specs.RecordRows.{record_row}

-- a batch turns rows that are one state, in tables of whatever version, into rows that are another
abbrev pub Leads : BatchOf → State → State → Type 0
Leads w s t = (version : ℤ) (rows : RowsOf) → AreOfState version rows s → AreOfState version (written w rows) t

-- the number of the next change of a zone, where there is the zone
abbrev pub IsNext : State → List (List ℕ) → ℤ → Type 0
IsNext s origin number = (held : Held) → s.zones origin ≡ Some held → number ≡ pos (suc (length held.changes))

-- the state with a zone of an origin that had none
abbrev pub with_zone : State → ZoneOf → State
with_zone s zone = hold s zone.origin (Some (record { records = zone.records; changes = [] }))

-- the state with a zone in the place of the one of its origin, and with the change that this is
abbrev pub with_zone_replaced : State → ZoneOf → Held → State
with_zone_replaced s zone held =
    hold s zone.origin (Some (record { records = zone.records; changes = held.changes ++ change_between held.records zone.records ∷ [] }))

-- the state without zones and receipts
abbrev pub nothing_held : State
nothing_held = record { zones = λ origin. None; receipts = λ caller id. None }

-- tables that were just made are that state
abbrev pub NewTablesHoldNothing : Type 0
NewTablesHoldNothing = (version : ℤ) → AreOfState version (made_rows version) nothing_held

-- ---- what is written

-- the receipt of an addition, as it is kept
abbrev pub receipt_at : AdditionOf → ReceiptAt
receipt_at a = receipt_under a.caller a.id a.receipt

-- the row of the receipt of an addition
abbrev pub receipt_rows : AdditionOf → List ReceiptRowOf
receipt_rows a = row_of_receipt (receipt_at a) ∷ []

-- receipts alone
abbrev pub receipts_batch : List ReceiptRowOf → BatchOf
receipts_batch receipts = record { version = None; zones = []; removed = []; added = []; changes = []; receipts = receipts }

-- a change of the zone of an origin, under its number, beside receipts
abbrev pub change_batch : List (List ℕ) → ℕ → ChangeOf → List ReceiptRowOf → BatchOf
change_batch origin number c receipts = record {
  version = None;
  zones = [];
  removed = map (record_row origin) c.removed;
  added = map (record_row origin) c.added;
  changes = change_rows origin number c;
  receipts = receipts;
}

-- a zone of which nothing was changed yet
abbrev pub zone_batch : ZoneOf → BatchOf
zone_batch zone = record {
  version = None;
  zones = name_text zone.origin ∷ [];
  removed = [];
  added = map (record_row zone.origin) (listing zone.records);
  changes = [];
  receipts = [];
}
