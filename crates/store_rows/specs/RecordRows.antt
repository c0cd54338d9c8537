-- The rows of `records`.
use Rattle.std.specs.Prelude.{◌≡◌, ◌↔◌, ℕ, List, true, pos}
use Rattle.dns_names.specs.Labels.{IsName}
use Rattle.dns_names.specs.Keys.{key_of}
use Rattle.dns_names.specs.Spelling.{name_text}
use Rattle.dns_data.specs.declared.record.Record.{Record}
use Rattle.dns_data.specs.Rdata.{type_of, IsRecord, SameRecord}
use Rattle.dns_data.specs.Types.{type_number}
use Rattle.dns_data.specs.Text.{data_text}
use Rattle.store_sql.specs.Rows.{RecordRowOf, same_key}

-- a record of the zone of an origin: names and data in canonical text, the type by its number, and the key of the owner
abbrev pub record_row : List (List ℕ) → Record → RecordRowOf
record_row origin r = record {
  origin = name_text origin;
  owner = name_text r.owner;
  record_type = pos (type_number (type_of r.rdata));
  rdata = data_text r.rdata;
  ttl = pos r.ttl;
  owner_key = key_of r.owner;
}

-- a row is of one origin and one record
abbrev pub RecordRowsAreApart : Type 0
RecordRowsAreApart =
    (o p : List (List ℕ)) (r s : Record) → IsName o → IsName p → IsRecord r → IsRecord s → record_row o r ≡ record_row p s → (o ≡ p) × (r ≡ s)

-- rows have one key exactly where they are of one origin and of the same record
abbrev pub KeysAreOfRecords : Type 0
KeysAreOfRecords =
    (o p : List (List ℕ)) (r s : Record) → IsName o → IsName p → IsRecord r → IsRecord s
    → (same_key (record_row o r) (record_row p s) ≡ true) ↔ ((o ≡ p) × SameRecord r s)
