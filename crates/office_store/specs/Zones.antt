-- What is answered where a zone is imported, put in the place of another, taken out, and exported, and the state after that.
use Rattle.std.specs.Prelude.{ℕ, List, if◌then◌else◌, Option, Some, None, Result, Ok, Err}
use Rattle.dns_data.specs.declared.record.Record.{Record}
use Rattle.zone_core.specs.Sets.{listing}
use Rattle.zone_core.specs.Serials.{is_less}
use Rattle.zone_core.specs.Zones.{ZoneOf, built, serial_of}
use Rattle.office_model.specs.States.{Held, State, zone_held}
use Rattle.store_rows.specs.Batches.{with_zone, with_zone_replaced}
use Rattle.store_faults.specs.declared.store_fault.StoreFault.{StoreFault}
use Rattle.store_faults.specs.declared.store_fault.StoreFault.TheVariants.{ZoneExists, NoZone, SerialNotGreater}
use Rattle.store_faults.specs.StoreFaults.{of_zones, ◌>>=◌}

-- ---- a zone of an origin that has none

-- a zone, unless one is held of its origin
abbrev pub if_free : Option Held → ZoneOf → Result ZoneOf StoreFault
if_free None zone = Ok zone
if_free (Some held) zone = Err ZoneExists

-- the zone of records, which is imported
abbrev pub imported : State → List (List ℕ) → List Record → Result ZoneOf StoreFault
imported s origin rs = of_zones (built origin rs) >>= λ zone. if_free (s.zones origin) zone

-- the state with what is imported
abbrev pub with_imported : State → Result ZoneOf StoreFault → State
with_imported s (Ok zone) = with_zone s zone
with_imported s (Err fault) = s

-- ---- a zone in the place of another

-- a zone, if its serial is greater than that of the one that is held of its origin (RFC 1982 section 3.2)
abbrev pub if_later : Option Held → ZoneOf → Result ZoneOf StoreFault
if_later None zone = Err NoZone
if_later (Some held) zone = if is_less (serial_of (zone_held zone.origin held)) (serial_of zone) then Ok zone else Err SerialNotGreater

-- the zone of records, which is put in the place of the one that is held
abbrev pub replaced : State → List (List ℕ) → List Record → Result ZoneOf StoreFault
replaced s origin rs = of_zones (built origin rs) >>= λ zone. if_later (s.zones origin) zone

-- the state with a zone in the place of what is held of its origin, if something is
abbrev pub with_place_taken : State → ZoneOf → Option Held → State
with_place_taken s zone None = s
with_place_taken s zone (Some held) = with_zone_replaced s zone held

-- the state with what is put in place
abbrev pub with_replaced : State → Result ZoneOf StoreFault → State
with_replaced s (Ok zone) = with_place_taken s zone (s.zones zone.origin)
with_replaced s (Err fault) = s

-- ---- a zone that goes

-- whether a zone is held of an origin, which is taken out then
abbrev pub removed : Option Held → Result (Unit {0}) StoreFault
removed None = Err NoZone
removed (Some held) = Ok tt

-- ---- the records of a zone

-- the records of the zone of an origin, in record order
abbrev pub exported : Option Held → Result (List Record) StoreFault
exported None = Err NoZone
exported (Some held) = Ok (listing held.records)
