-- The records of a zone, in whatever order and however often they come.
use Rattle.std.specs.Prelude.{◌≡◌, List, Ok}
use Rattle.std.specs.List.{AllByRecursion, Contains}
use Rattle.dns_data.specs.declared.record.Record.{Record}
use Rattle.zone_core.specs.Sets.{Records, IsIn}
use Rattle.zone_core.specs.Zones.{ZoneOf, IsZone, built}

-- records are those of a set: each is in it with its TTL, and each that is in it is among them
pub record AreAllOf (rs : List Record) (set : Records) : Type 0 where
  pub inside : AllByRecursion (λ r. IsIn r set) rs
  pub whole : (r : Record) → IsIn r set → Contains rs r

-- the records of a zone are built as that zone
abbrev pub ZonesAreRebuilt : Type 0
ZonesAreRebuilt = (zone : ZoneOf) (rs : List Record) → IsZone zone → AreAllOf rs zone.records → built zone.origin rs ≡ Ok zone
