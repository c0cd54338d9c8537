-- What the migration makes of a content, and what it writes.
use Rattle.std.specs.Prelude.{◌≡◌, ℕ, pos, suc, Bool, List, [], ◌∷◌, ◌++◌, length, map, filter, is_some, if◌then◌else◌, Option, Some, None}
use Rattle.std.specs.List.{flat_map}
use Rattle.dns_data.specs.declared.record.Record.{Record}
use Rattle.zone_core.specs.Sets.{set_of, listing, is_same}
use Rattle.zone_core.specs.Zones.{ZoneOf, soa_at, zone_of}
use Rattle.zone_core.specs.Effects.{with_next}
use Rattle.zone_core.specs.Changes.{ChangeOf, change_between}
use Rattle.store_sql.specs.Rows.{RecordRowOf, ChangeRowOf, RowsOf, BatchOf, written}
use Rattle.store_sql.specs.Holds.{SameRows}
use Rattle.store_rows.specs.RecordRows.{record_row}
use Rattle.store_rows.specs.ChangeRows.{change_rows}
use Rattle.store_rows.specs.Contents.{ZoneRows, ContentOf, IsContent, rows_of}
use Rattle.office_store.specs.OldZones.{IsOldContent}

-- a zone with its serial one further (RFC 1982 section 3.1)
abbrev pub advanced : ZoneOf → ZoneOf
advanced zone = record zone { records = with_next zone.records (soa_at zone.origin zone.records) }

-- the zone that records make once each set has its least TTL, with its serial one further
unfoldable pub next_zone : List (List ℕ) → List Record → ZoneOf
next_zone origin rs = advanced (zone_of origin rs)

-- What is changed in a zone of these records: nothing where each set has its least TTL already; else the records that go, with the
-- SOA, and those that come in their place.
unfoldable pub change_for : List (List ℕ) → List Record → Option ChangeOf
change_for origin rs = if is_same (set_of rs) (zone_of origin rs).records then None else Some (change_between (set_of rs) (next_zone origin rs).records)

-- a zone after a change, if there is one: that zone in record order, and the change after the earlier ones
abbrev pub after : ZoneRows → Option ChangeOf → ZoneRows
after z None = z
after z (Some c) = record z { records = listing (next_zone z.origin z.records).records; changes = z.changes ++ c ∷ [] }

-- a zone after the migration
abbrev pub migrated : ZoneRows → ZoneRows
migrated z = after z (change_for z.origin z.records)

-- a content after the migration: its zones are migrated, and its receipts stay
abbrev pub migrated_content : ContentOf → ContentOf
migrated_content content = record content { zones = map migrated content.zones }

-- whether a zone is changed
abbrev pub is_changed : ZoneRows → Bool
is_changed z = is_some (change_for z.origin z.records)

-- how many zones are changed
abbrev pub changed_count : ContentOf → ℕ
changed_count content = length (filter is_changed content.zones)

-- ---- what is written

-- the rows of the records that go out of the zone of an origin
abbrev pub rows_gone : List (List ℕ) → Option ChangeOf → List RecordRowOf
rows_gone origin None = []
rows_gone origin (Some c) = map (record_row origin) c.removed

-- the rows of those that come
abbrev pub rows_come : List (List ℕ) → Option ChangeOf → List RecordRowOf
rows_come origin None = []
rows_come origin (Some c) = map (record_row origin) c.added

-- the rows of the change under its number
abbrev pub rows_made : List (List ℕ) → ℕ → Option ChangeOf → List ChangeRowOf
rows_made origin number None = []
rows_made origin number (Some c) = change_rows origin number c

-- of one zone
abbrev pub zone_gone : ZoneRows → List RecordRowOf
zone_gone z = rows_gone z.origin (change_for z.origin z.records)

abbrev pub zone_come : ZoneRows → List RecordRowOf
zone_come z = rows_come z.origin (change_for z.origin z.records)

-- its change is the one after the earlier ones
abbrev pub zone_made : ZoneRows → List ChangeRowOf
zone_made z = rows_made z.origin (suc (length z.changes)) (change_for z.origin z.records)

-- of a content: the version, and of each zone that is changed what differs; nothing else
abbrev pub migration_batch : ContentOf → BatchOf
migration_batch content = record {
  version = Some (pos 2);
  zones = [];
  removed = flat_map zone_gone content.zones;
  added = flat_map zone_come content.zones;
  changes = flat_map zone_made content.zones;
  receipts = [];
}

-- Rows are those of a content of version 1, and what is written makes of them those of that content migrated, which is one of version 2.
pub record Migrates (rows : RowsOf) (batch : BatchOf) (changed : ℕ) : Type 0 where
  pub content : ContentOf
  pub is_old : IsOldContent content
  pub same : SameRows (rows_of (pos 1) content) rows
  pub is_content : IsContent (migrated_content content)
  pub now : SameRows (rows_of (pos 2) (migrated_content content)) (written batch rows)
  pub least : batch ≡ migration_batch content
  pub counted : changed ≡ changed_count content
