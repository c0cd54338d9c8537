-- The migration zone by zone: rows are read and put in order, and then taken one zone after the other.
use Rattle.std.specs.Prelude.{◌≡◌, ◌≢◌, ℕ, suc, ◌+◌, List, [], ◌∷◌, ◌++◌, length, map, take, drop, filter, true, is_some, if◌then◌else◌, Option}
use Rattle.std.specs.List.{AllByRecursion, AllPairs, flat_map, fold}
use Rattle.std.specs.List.Sorted.{IsPermutation}
use Rattle.dns_names.specs.Spelling.{name_text}
use Rattle.zone_core.specs.Changes.{ChangeOf}
use Rattle.store_sql.specs.Rows.{RecordRowOf, ChangeRowOf}
use Rattle.store_rows.specs.declared.changes.ChangedRecord.{ChangedRecord}
use Rattle.store_rows.specs.ChangeRows.{are_numbered, gathered}
use Rattle.store_rows.specs.Contents.{ZoneRows, zone_records, zone_changes}
use Rattle.store_rows.specs.declared.ordered.ZoneRecord.{ZoneRecord}
use Rattle.store_rows.specs.Checks.{records_first, changes_first}
use Rattle.office_store.specs.declared.migration_steps.MigrationSteps.{MigrationSteps}
use Rattle.office_store.specs.OldZones.{AreOfOldZone, IsOldZoneRows}
use Rattle.office_store.specs.MigratedContents.{change_for, is_changed, rows_gone, rows_come, rows_made, zone_gone, zone_come, zone_made}

-- origins, records and changes are those of zones of which no two have one origin
pub record AreOldZoneRows (origins : List (List ℕ)) (records : List RecordRowOf) (changes : List ChangeRowOf) : Type 0 where
  pub zones : List ZoneRows
  pub apart : AllPairs (λ a b. a.origin ≢ b.origin) zones
  pub each : AllByRecursion IsOldZoneRows zones
  pub same_origins : IsPermutation (map (λ z. name_text z.origin) zones) origins
  pub same_records : IsPermutation (flat_map zone_records zones) records
  pub same_changes : IsPermutation (flat_map zone_changes zones) changes

-- one zone: its records, and its changes, numbered from 1 without a gap
abbrev pub IsOldZoneOf : List (List ℕ) → List ZoneRecord → List ChangedRecord → Type 0
IsOldZoneOf origin records changes = AreOfOldZone origin (map (λ r. r.rr) records) × (are_numbered changes ≡ true)

-- one zone after the other, each of the next origin, and nothing after the last
abbrev pub AreOldZonesInTurn : List (List (List ℕ)) → List ZoneRecord → List ChangedRecord → Type 0
AreOldZonesInTurn [] records changes = (records ≡ []) × (changes ≡ [])
AreOldZonesInTurn (origin ∷ origins) records changes =
    IsOldZoneOf origin (take (records_first origin records) records) (take (changes_first origin changes) changes)
    × AreOldZonesInTurn origins (drop (records_first origin records) records) (drop (changes_first origin changes) changes)

-- the zone that records and changes are
abbrev pub zone_rows_in : List (List ℕ) → List ZoneRecord → List ChangedRecord → ZoneRows
zone_rows_in origin records changes = record { origin = origin; records = map (λ r. r.rr) records; changes = gathered changes }

-- the zones that records and changes are, one after the other
abbrev pub zones_in_turn : List (List (List ℕ)) → List ZoneRecord → List ChangedRecord → List ZoneRows
zones_in_turn [] records changes = []
zones_in_turn (origin ∷ origins) records changes =
    zone_rows_in origin (take (records_first origin records) records) (take (changes_first origin changes) changes)
    ∷ zones_in_turn origins (drop (records_first origin records) records) (drop (changes_first origin changes) changes)

-- the number of the last of what changes have, and 0 for no changes
abbrev pub last_number : List ChangedRecord → ℕ
last_number changes = fold (λ (n : ℕ) c. c.number) 0 changes

-- what is written, with what is written of one more zone
pub record Goes (old new : MigrationSteps) (origin : List (List ℕ)) (number : ℕ) (change : Option ChangeOf) : Type 0 where
  pub removed : new.removed.items ≡ old.removed.items ++ rows_gone origin change
  pub added : new.added.items ≡ old.added.items ++ rows_come origin change
  pub changes : new.changes.items ≡ old.changes.items ++ rows_made origin number change
  pub zones : new.zones ≡ (if is_some change then old.zones + 1 else old.zones)

abbrev pub GoesOn : MigrationSteps → MigrationSteps → ZoneRows → Type 0
GoesOn old new z = Goes old new z.origin (suc (length z.changes)) (change_for z.origin z.records)

-- what is written of zones
pub record AreSteps (steps : MigrationSteps) (of : List ZoneRows) : Type 0 where
  pub removed : steps.removed.items ≡ flat_map zone_gone of
  pub added : steps.added.items ≡ flat_map zone_come of
  pub changes : steps.changes.items ≡ flat_map zone_made of
  pub zones : steps.zones ≡ length (filter is_changed of)
