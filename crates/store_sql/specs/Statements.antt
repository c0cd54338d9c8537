-- What each statement makes of all rows.
use Rattle.std.specs.Prelude.{ℤ, ℕ, Bool, true, false, List, [], ◌∷◌, ◌++◌, not, filter, bytes_eq}
use Rattle.store_sql.specs.Rows.{RecordRowOf, ReceiptRowOf, ChangeRowOf, RowsOf, same_key, without}

abbrev pub with_version : ℤ → RowsOf → RowsOf
with_version version rows = record rows { versions = rows.versions ++ version ∷ [] }

abbrev pub with_zone : List ℕ → RowsOf → RowsOf
with_zone origin rows = record rows { zones = rows.zones ++ origin ∷ [] }

abbrev pub with_record : RecordRowOf → RowsOf → RowsOf
with_record r rows = record rows { records = rows.records ++ r ∷ [] }

abbrev pub with_receipt : ReceiptRowOf → RowsOf → RowsOf
with_receipt r rows = record rows { receipts = rows.receipts ++ r ∷ [] }

abbrev pub with_change : ChangeRowOf → RowsOf → RowsOf
with_change r rows = record rows { changes = rows.changes ++ r ∷ [] }

-- the rows once each of these has come, in turn
abbrev pub with_each : {X : Type 0} → (X → RowsOf → RowsOf) → List X → RowsOf → RowsOf
with_each with [] rows = rows
with_each with (x ∷ xs) rows = with_each with xs (with x rows)

abbrev pub without_record : RecordRowOf → RowsOf → RowsOf
without_record gone rows = record rows { records = filter (λ r. not (same_key gone r)) rows.records }

abbrev pub without_records : List RecordRowOf → RowsOf → RowsOf
without_records gone rows = record rows { records = without gone rows.records }

-- the rows once a row came in the place of the one that had the key of another, if there was one
abbrev pub with_replaced : Bool → RecordRowOf → RecordRowOf → RowsOf → RowsOf
with_replaced true gone new rows = with_record new (without_record gone rows)
with_replaced false gone new rows = without_record gone rows

-- the rows without those of the records of an origin, of its changes, and of its zone
abbrev pub without_records_of : List ℕ → RowsOf → RowsOf
without_records_of origin rows = record rows { records = filter (λ r. not (bytes_eq r.origin origin)) rows.records }

abbrev pub without_changes_of : List ℕ → RowsOf → RowsOf
without_changes_of origin rows = record rows { changes = filter (λ r. not (bytes_eq r.origin origin)) rows.changes }

abbrev pub without_zone : List ℕ → RowsOf → RowsOf
without_zone origin rows = record rows { zones = filter (λ z. not (bytes_eq z origin)) rows.zones }
