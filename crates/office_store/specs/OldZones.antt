-- What tables of version 1 hold: in them the records of one owner and type could have different TTLs.
use Rattle.std.specs.Prelude.{◌≡◌, ◌≢◌, ℕ, List}
use Rattle.std.specs.List.{AllByRecursion, AllPairs}
use Rattle.dns_names.specs.Labels.{IsName}
use Rattle.dns_data.specs.declared.record.Record.{Record}
use Rattle.dns_data.specs.Rdata.{IsRecord}
use Rattle.zone_core.specs.Sets.{InOrder}
use Rattle.zone_core.specs.Zones.{IsZone, zone_of}
use Rattle.store_rows.specs.ChangeRows.{IsChange}
use Rattle.store_rows.specs.Contents.{ZoneRows, ContentOf, IsReceiptAt}

-- Records in record order, no two the same, which make a zone of their origin once each set has its least TTL.
pub record AreOfOldZone (origin : List (List ℕ)) (rs : List Record) : Type 0 where
  pub order : InOrder rs
  pub each : AllByRecursion IsRecord rs
  pub zone : IsZone (zone_of origin rs)

-- the records make such a zone, and each change is one
pub record IsOldZoneRows (z : ZoneRows) : Type 0 where
  pub origin : IsName z.origin
  pub zone : AreOfOldZone z.origin z.records
  pub changes : AllByRecursion IsChange z.changes

-- no two zones have one origin, and no two receipts of a caller have one identifier
pub record IsOldContent (content : ContentOf) : Type 0 where
  pub zones_apart : AllPairs (λ a b. a.origin ≢ b.origin) content.zones
  pub zones : AllByRecursion IsOldZoneRows content.zones
  pub receipts_apart : AllPairs (λ a b. ¬ ((a.caller ≡ b.caller) × (a.id ≡ b.id))) content.receipts
  pub receipts : AllByRecursion IsReceiptAt content.receipts
