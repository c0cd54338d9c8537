-- What an update makes of a zone.
use Rattle.std.specs.Prelude.{◌≡◌, ◌⊎◌}
use Rattle.std.specs.List.{Contains}
use Rattle.dns_data.specs.declared.record.Record.{Record}
use Rattle.zone_core.specs.declared.update.Operation.TheVariants.{Add}
use Rattle.zone_core.specs.Serials.{serial_sum, IsLess}
use Rattle.zone_core.specs.Zones.{ZoneOf, IsZone, IsSoaOf, serial_of}
use Rattle.zone_core.specs.Updates.{UpdateOf, IsUpdate, ActsWithin}
use Rattle.zone_core.specs.Effects.{zone_after}

-- the zone after an update within its origin is a zone
abbrev pub UpdatesKeepZones : Type 0
UpdatesKeepZones = (zone : ZoneOf) (update : UpdateOf) → IsZone zone → IsUpdate update → ActsWithin zone.origin update → IsZone (zone_after zone update)

-- the SOA of a zone is one that an update adds
abbrev pub IsSoaTaken : ZoneOf → UpdateOf → Type 0
IsSoaTaken zone update = (soa : Record) × Contains update.operations (Add soa) × IsSoaOf zone soa

-- A zone after an update is the zone before; or its SOA is one that the update adds, or its serial is one further (RFC 2136
-- section 3.6, RFC 1982 section 3.1), and in both cases the serial is greater (RFC 1982 section 3.2).
abbrev pub Advances : ZoneOf → UpdateOf → ZoneOf → Type 0
Advances zone update after =
    (after ≡ zone) ⊎ (IsLess (serial_of zone) (serial_of after) × (IsSoaTaken after update ⊎ (serial_of after ≡ serial_sum (serial_of zone) 1)))

abbrev pub UpdatesAdvance : Type 0
UpdatesAdvance = (zone : ZoneOf) (update : UpdateOf) → IsZone zone → IsUpdate update → ActsWithin zone.origin update → Advances zone update (zone_after zone update)
