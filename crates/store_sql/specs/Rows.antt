-- The rows of the tables, as their columns have them.
use Rattle.std.specs.Prelude.{ℕ, ℤ, List, [], ◌∷◌, ◌++◌, not, ◌&&◌, Bool, Option, Some, None, bytes_eq, refl}
use Rattle.std.specs.List.{filter, list_any}
use Rattle.std.specs.Ordering.{int_eq}
use Rattle.std.specs.Coded.{Coded, code_by, coded×, coded_ℕ, coded_ℤ, coded_list, coded_option}

-- a record of the zone of an origin
pub record RecordRowOf : Type 0 where
  pub origin : List ℕ
  pub owner : List ℕ
  pub record_type : ℤ
  pub rdata : List ℕ
  pub ttl : ℤ
  pub owner_key : List ℕ

-- the receipt of a caller under an identifier
pub record ReceiptRowOf : Type 0 where
  pub caller : List ℕ
  pub id : List ℕ
  pub origin : List ℕ
  pub request : List ℕ
  pub reply : List ℕ

-- a record that a change took away (side 0) or brought (side 1)
pub record ChangeRowOf : Type 0 where
  pub origin : List ℕ
  pub number : ℤ
  pub side : ℤ
  pub owner : List ℕ
  pub record_type : ℤ
  pub rdata : List ℕ
  pub ttl : ℤ

-- the rows of all tables
pub record RowsOf : Type 0 where
  pub versions : List ℤ
  pub zones : List (List ℕ)
  pub records : List RecordRowOf
  pub receipts : List ReceiptRowOf
  pub changes : List ChangeRowOf

-- what is written at once
pub record BatchOf : Type 0 where
  pub version : Option ℤ
  pub zones : List (List ℕ)
  pub removed : List RecordRowOf
  pub added : List RecordRowOf
  pub changes : List ChangeRowOf
  pub receipts : List ReceiptRowOf

-- ---- how they are stored

abbrev coded_text : Coded (List ℕ)
coded_text = coded_list coded_ℕ

abbrev pub record_row_code : Coded RecordRowOf
record_row_code =
    code_by (List ℕ × (List ℕ × (ℤ × (List ℕ × (ℤ × List ℕ))))) (coded× coded_text (coded× coded_text (coded× coded_ℤ (coded× coded_text (coded× coded_ℤ coded_text)))))
    (λ r. (r.origin, (r.owner, (r.record_type, (r.rdata, (r.ttl, r.owner_key))))))
    (λ p. record { origin = p.0; owner = p.1.0; record_type = p.1.1.0; rdata = p.1.1.1.0; ttl = p.1.1.1.1.0; owner_key = p.1.1.1.1.1 }) (λ _. refl)

abbrev pub receipt_row_code : Coded ReceiptRowOf
receipt_row_code =
    code_by (List ℕ × (List ℕ × (List ℕ × (List ℕ × List ℕ)))) (coded× coded_text (coded× coded_text (coded× coded_text (coded× coded_text coded_text))))
    (λ r. (r.caller, (r.id, (r.origin, (r.request, r.reply)))))
    (λ p. record { caller = p.0; id = p.1.0; origin = p.1.1.0; request = p.1.1.1.0; reply = p.1.1.1.1 }) (λ _. refl)

abbrev pub change_row_code : Coded ChangeRowOf
change_row_code =
    code_by (List ℕ × (ℤ × (ℤ × (List ℕ × (ℤ × (List ℕ × ℤ)))))) (coded× coded_text (coded× coded_ℤ (coded× coded_ℤ (coded× coded_text (coded× coded_ℤ (coded× coded_text coded_ℤ))))))
    (λ r. (r.origin, (r.number, (r.side, (r.owner, (r.record_type, (r.rdata, r.ttl)))))))
    (λ p. record { origin = p.0; number = p.1.0; side = p.1.1.0; owner = p.1.1.1.0; record_type = p.1.1.1.1.0; rdata = p.1.1.1.1.1.0; ttl = p.1.1.1.1.1.1 }) (λ _. refl)

abbrev pub batch_code : Coded BatchOf
batch_code =
    code_by (Option ℤ × (List (List ℕ) × (List RecordRowOf × (List RecordRowOf × (List ChangeRowOf × List ReceiptRowOf)))))
    (coded× (coded_option coded_ℤ) (coded× (coded_list coded_text) (coded× (coded_list record_row_code) (coded× (coded_list record_row_code) (coded× (coded_list change_row_code) (coded_list receipt_row_code))))))
    (λ w. (w.version, (w.zones, (w.removed, (w.added, (w.changes, w.receipts))))))
    (λ p. record { version = p.0; zones = p.1.0; removed = p.1.1.0; added = p.1.1.1.0; changes = p.1.1.1.1.0; receipts = p.1.1.1.1.1 }) (λ _. refl)

abbrev pub rows_code : Coded RowsOf
rows_code =
    code_by (List ℤ × (List (List ℕ) × (List RecordRowOf × (List ReceiptRowOf × List ChangeRowOf))))
    (coded× (coded_list coded_ℤ) (coded× (coded_list coded_text) (coded× (coded_list record_row_code) (coded× (coded_list receipt_row_code) (coded_list change_row_code)))))
    (λ r. (r.versions, (r.zones, (r.records, (r.receipts, r.changes)))))
    (λ p. record { versions = p.0; zones = p.1.0; records = p.1.1.0; receipts = p.1.1.1.0; changes = p.1.1.1.1 }) (λ _. refl)

-- ---- what a batch makes of rows

-- whether two rows of `records` have one key: origin, owner, type and data
abbrev pub same_key : RecordRowOf → RecordRowOf → Bool
same_key a b = bytes_eq a.origin b.origin && (bytes_eq a.owner b.owner && (int_eq a.record_type b.record_type && bytes_eq a.rdata b.rdata))

-- whether two receipts have one key: they are of one caller, under one identifier
abbrev pub same_receipt_key : ReceiptRowOf → ReceiptRowOf → Bool
same_receipt_key a b = bytes_eq a.caller b.caller && bytes_eq a.id b.id

-- the rows without those that have the key of one of some rows
abbrev pub without : List RecordRowOf → List RecordRowOf → List RecordRowOf
without gone rows = filter (λ r. not (list_any (λ g. same_key g r) gone)) rows

-- another version, if there is one
abbrev pub versions_with : Option ℤ → List ℤ → List ℤ
versions_with None versions = versions
versions_with (Some version) versions = version ∷ []

-- the rows once some went and others came
abbrev pub written : BatchOf → RowsOf → RowsOf
written w rows = record {
  versions = versions_with w.version rows.versions;
  zones = rows.zones ++ w.zones;
  records = without w.removed rows.records ++ w.added;
  receipts = rows.receipts ++ w.receipts;
  changes = rows.changes ++ w.changes;
}

-- the rows without the zone of an origin: its row, those of its records and those of its changes
abbrev pub without_origin : List ℕ → RowsOf → RowsOf
without_origin origin rows = record rows {
  zones = filter (λ z. not (bytes_eq z origin)) rows.zones;
  records = filter (λ r. not (bytes_eq r.origin origin)) rows.records;
  changes = filter (λ r. not (bytes_eq r.origin origin)) rows.changes;
}
