-- The records of a zone after the migration, one by one.
use Rattle.std.specs.Prelude.{◌≡◌, true, false}
use Rattle.zone_core.specs.Sets.{set_of, listing}
use Rattle.zone_core.specs.Zones.{zone_of}
use Rattle.zone_core.specs.Views.{min_ttl_rows}
use Rattle.store_rows.specs.Contents.{ZoneRows}
use Rattle.office_store.specs.OldZones.{IsOldZoneRows}
use Rattle.office_store.specs.MigratedContents.{advanced, is_changed, migrated}

-- Each record has its owner, its data and the least TTL of its set: without a change all had it before, and with one they have it now,
-- in a zone whose serial is one further.
pub record IsEven (z : ZoneRows) : Type 0 where
  pub zone : listing (zone_of z.origin z.records).records ≡ min_ttl_rows z.records
  pub unchanged : is_changed z ≡ false → (z.records ≡ min_ttl_rows z.records) × ((migrated z).records ≡ z.records)
  pub changed : is_changed z ≡ true → (migrated z).records ≡ listing (advanced (record { origin = z.origin; records = set_of (min_ttl_rows z.records) })).records

abbrev pub MigratedZonesAreEven : Type 0
MigratedZonesAreEven = (z : ZoneRows) → IsOldZoneRows z → IsEven z
