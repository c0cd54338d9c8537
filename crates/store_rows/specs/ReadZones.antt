-- A zone that was read of rows.
use Rattle.std.specs.Prelude.{◌≡◌, ℕ, List, map, filter, true, Ok, IsPermutation, bytes_eq}
use Rattle.std.specs.List.{list_any}
use Rattle.sqlite_rules.specs.Lists.{Has}
use Rattle.dns_names.specs.Labels.{IsName}
use Rattle.dns_names.specs.Order.{same_name}
use Rattle.dns_names.specs.Spelling.{name_text}
use Rattle.dns_data.specs.declared.record.Record.{Record}
use Rattle.zone_core.specs.Zones.{ZoneOf}
use Rattle.store_sql.specs.Rows.{RecordRowOf, RowsOf}
use Rattle.store_sql.specs.Lookups.{records_of}
use Rattle.store_rows.specs.declared.ordered.ZoneRecord.{ZoneRecord}
use Rattle.store_rows.specs.RowReading.{zone_by}

-- the records of an origin among those of zones
abbrev pub own_records : List (List ℕ) → List ZoneRecord → List Record
own_records origin rs = map (λ r. r.rr) (filter (λ r. same_name origin r.origin) rs)

-- a zone is read of the rows of its origin, in some order
abbrev pub IsReadOf : List RecordRowOf → ZoneOf → Type 0
IsReadOf rows zone = (own : List RecordRowOf) × IsPermutation (records_of (name_text zone.origin) rows) own × (zone_by zone.origin own ≡ Ok zone)

-- a zone is one of these origins, read of its rows
abbrev pub IsReadAmong : List (List (List ℕ)) → List RecordRowOf → ZoneOf → Type 0
IsReadAmong origins rows zone = Has origins zone.origin × IsReadOf rows zone

-- a zone is read of its rows in tables that list its origin
pub record IsReadIn (rows : RowsOf) (zone : ZoneOf) : Type 0 where
  pub named : IsName zone.origin
  pub listed : list_any (bytes_eq (name_text zone.origin)) rows.zones ≡ true
  pub read : IsReadOf rows.records zone
