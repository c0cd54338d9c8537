-- The rows of records: what is written is read, and what is read was written so.
use Rattle.std.proofs.Common.{◌≡◌, ℕ, true, List, Ok, sym, ap, ◌∙◌, ◌&&◌}
use Rattle.std.proofs.lemmas.Bool.{and_parts, and_from}
use Rattle.std.proofs.lemmas.Bool.Decides.{Decides-int_eq}
use Rattle.std.specs.Prelude.{pos, bytes_eq}
use Rattle.std.specs.Ordering.{int_eq}
use Rattle.dns_names.specs.Keys.{key_of}
use Rattle.dns_names.specs.Labels.{IsName}
use Rattle.dns_names.specs.Spelling.{name_text}
use Rattle.dns_data.specs.declared.rdata.Data.{Data}
use Rattle.dns_data.specs.declared.record.Record.{Record}
use Rattle.dns_data.specs.declared.record_type.RecordType.{RecordType}
use Rattle.dns_data.specs.Rdata.{type_of, IsRecord, SameRecord}
use Rattle.dns_data.specs.Text.{data_text}
use Rattle.dns_data.specs.Types.{type_number}
use Rattle.dns_data.proofs.ApartLaws.{one_text}
use Rattle.store_sql.specs.Rows.{RecordRowOf, same_key}
use Rattle.store_rows.specs.RecordRows.{record_row, RecordRowsAreApart, KeysAreOfRecords}
use Rattle.store_rows.specs.declared.ordered.ZoneRecord.{ZoneRecord}
use Rattle.store_rows.specs.Checks.{row_of_record, IsZoneRecord}
use Rattle.store_rows.specs.RowFaults.{◌>>=◌, canonical}
use Rattle.store_rows.specs.RowReading.{name_in, type_in, record_at, record_in, zone_record_in}
use Rattle.store_rows.proofs.RowSteps.{ok_is, step_ok, canonical_again, canonical_ok}
use Rattle.store_rows.proofs.ColumnLaws.{name_read, name_found, type_read, record_read, record_found}
use Rattle.store_rows.proofs.StoredLaws.{row_read}
use Rattle.store_rows.proofs.NameLemmas.{bytes_is, bytes_same, text_one}

abbrev Labels : Type 0
Labels = List (List ℕ)

-- ---- rows apart

pub record_rows_are_apart : RecordRowsAreApart
record_rows_are_apart o p r s is also rec other e =
    (text_one o p is also (ap (λ (x : RecordRowOf). x.origin) e), ok_is r s (sym (row_read o r rec) ∙ ap record_in e ∙ row_read p s other))

-- ---- records of zones

pub zone_record_again : (r : ZoneRecord) → IsZoneRecord r → zone_record_in (row_of_record r) ≡ Ok r
zone_record_again r is =
    let row = row_of_record r in
    ap (λ x. x >>= λ origin. record_at row.owner row.record_type row.rdata row.ttl >>= λ rr. canonical (key_of rr.owner) row.owner_key (record { origin = origin; rr = rr })) (name_read r.origin is.origin)
    ∙ ap (λ x. x >>= λ (rr : Record). canonical (key_of rr.owner) row.owner_key (record { origin = r.origin; rr = rr })) (record_read r.rr is.rr)
    ∙ canonical_again row.owner_key r

pub zone_record_found : (row : RecordRowOf) (r : ZoneRecord) → zone_record_in row ≡ Ok r → row ≡ row_of_record r
zone_record_found row r e =
    let o = step_ok (name_in row.origin) (λ origin. record_at row.owner row.record_type row.rdata row.ttl >>= λ rr. canonical (key_of rr.owner) row.owner_key (record { origin = origin; rr = rr })) r e in
    let rr = step_ok (record_at row.owner row.record_type row.rdata row.ttl) (λ rr. canonical (key_of rr.owner) row.owner_key (record { origin = o.0; rr = rr })) r o.2 in
    let made : ZoneRecord = record { origin = o.0; rr = rr.0 } in
    let key = canonical_ok (key_of rr.0.owner) row.owner_key made r rr.2 in
    let name = name_found row.origin o.0 o.1 in
    let columns = record_found row.owner row.record_type row.rdata row.ttl rr.0 rr.1 in
    let is : row ≡ row_of_record made =
    λ i. record { origin = name i; owner = columns.owner_is i; record_type = columns.type_is i; rdata = columns.rdata_is i; ttl = columns.ttl_is i; owner_key = sym key.0 i } in
    is ∙ ap row_of_record key.1

-- ---- keys

-- a type by its number
type_one : (t u : RecordType) → pos (type_number t) ≡ pos (type_number u) → t ≡ u
type_one t u e = ok_is t u (sym (type_read t) ∙ ap type_in e ∙ type_read u)

one_of_keys : (o p : Labels) (r s : Record) → IsName o → IsName p → IsRecord r → IsRecord s → same_key (record_row o r) (record_row p s) ≡ true → (o ≡ p) × SameRecord r s
one_of_keys o p r s is also rec other e =
    let a = record_row o r in
    let b = record_row p s in
    let first = and_parts (bytes_eq a.origin b.origin) (bytes_eq a.owner b.owner && (int_eq a.record_type b.record_type && bytes_eq a.rdata b.rdata)) e in
    let second = and_parts (bytes_eq a.owner b.owner) (int_eq a.record_type b.record_type && bytes_eq a.rdata b.rdata) first.1 in
    let third = and_parts (int_eq a.record_type b.record_type) (bytes_eq a.rdata b.rdata) second.1 in
    let types = type_one (type_of r.rdata) (type_of s.rdata) ((Decides-int_eq a.record_type b.record_type).0 third.0) in (
      text_one o p is also (bytes_is a.origin b.origin first.0),
      (text_one r.owner s.owner rec.owner other.owner (bytes_is a.owner b.owner second.0), one_text r.rdata s.rdata rec.rdata other.rdata types (bytes_is a.rdata b.rdata third.1)),
    )

key_of_one : (o p : Labels) (r s : Record) → (o ≡ p) × SameRecord r s → same_key (record_row o r) (record_row p s) ≡ true
key_of_one o p r s h =
    let a = record_row o r in
    let b = record_row p s in
    and_from (bytes_eq a.origin b.origin) (bytes_eq a.owner b.owner && (int_eq a.record_type b.record_type && bytes_eq a.rdata b.rdata)) (bytes_same a.origin b.origin (ap name_text h.0))
    (and_from (bytes_eq a.owner b.owner) (int_eq a.record_type b.record_type && bytes_eq a.rdata b.rdata) (bytes_same a.owner b.owner (ap name_text h.1.0))
    (and_from (int_eq a.record_type b.record_type) (bytes_eq a.rdata b.rdata)
    ((Decides-int_eq a.record_type b.record_type).1 (ap (λ (d : Data). pos (type_number (type_of d))) h.1.1))
    (bytes_same a.rdata b.rdata (ap data_text h.1.1))))

pub keys_are_of_records : KeysAreOfRecords
keys_are_of_records o p r s is also rec other = (one_of_keys o p r s is also rec other, key_of_one o p r s)
