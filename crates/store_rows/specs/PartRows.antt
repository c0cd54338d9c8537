-- Which rows of a state are asked for.
use Rattle.std.specs.Prelude.{ℕ, List, map, filter, ◌&&◌, Option, Some, None, bytes_eq}
use Rattle.std.specs.List.{AllByRecursion, Contains, list_any}
use Rattle.dns_names.specs.Keys.{key_of, key_end}
use Rattle.dns_data.specs.declared.record.Record.{Record}
use Rattle.store_sql.specs.Rows.{RecordRowOf}
use Rattle.store_sql.specs.Lookups.{records_of, records_between}
use Rattle.store_rows.specs.RecordRows.{record_row}

-- the rows of a zone's records at owners that have one of these keys
abbrev pub rows_at : List ℕ → List (List ℕ) → List RecordRowOf → List RecordRowOf
rows_at origin keys = filter (λ r. bytes_eq r.origin origin && list_any (bytes_eq r.owner_key) keys)

-- rows are those, in any order, and each as often as it comes
pub record AreRowsAt (origin : List ℕ) (keys : List (List ℕ)) (all rows : List RecordRowOf) : Type 0 where
  pub inside : AllByRecursion (λ r. Contains (rows_at origin keys all) r) rows
  pub whole : AllByRecursion (λ r. Contains rows r) (rows_at origin keys all)

-- the rows of a zone's records whose owners' keys stand from the first on and before the end, where there is one
abbrev pub rows_from : List ℕ → List ℕ → Option (List ℕ) → List RecordRowOf → List RecordRowOf
rows_from origin first None = records_of origin
rows_from origin first (Some end) = records_between origin first end

-- the rows of a zone's records within a name
abbrev pub rows_within : List ℕ → List (List ℕ) → List RecordRowOf → List RecordRowOf
rows_within origin top = rows_from origin (key_of top) (key_end top)

-- rows are those of some records of the zone of an origin, in any order, and each as often as it comes
pub record AreRowsOf (origin : List (List ℕ)) (rs : List Record) (rows : List RecordRowOf) : Type 0 where
  pub inside : AllByRecursion (λ r. Contains (map (record_row origin) rs) r) rows
  pub whole : AllByRecursion (λ r. Contains rows r) (map (record_row origin) rs)
