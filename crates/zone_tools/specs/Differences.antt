-- The operations that lead from one zone to another of the same origin (RFC 2136 section 2.5).
use Rattle.std.specs.Prelude.{ℕ, List, [], ◌∷◌, ◌++◌, length, map, Bool, not, ◌&&◌, ◌||◌, ◌==◌, if◌then◌else◌, Option, Some, None, is_some}
use Rattle.std.specs.List.{filter}
use Rattle.std.specs.FinMap.{get}
use Rattle.dns_data.specs.declared.record.Record.{Record}
use Rattle.dns_data.specs.declared.record_type.RecordType.TheVariants as types
use Rattle.dns_data.specs.declared.rdata.Data.{Data}
use Rattle.dns_data.specs.declared.rdata.Data.TheVariants.{Soa}
use Rattle.zone_core.specs.declared.update.Operation.{Operation}
use Rattle.zone_core.specs.declared.update.Operation.TheVariants.{Add, DeleteRecord}
use Rattle.zone_core.specs.Serials.{serial_sum, is_less}
use Rattle.zone_core.specs.Sets.{Records, Key, key_of, same_key, listing, cut, at, put, minus, is_same}
use Rattle.zone_core.specs.Zones.{is_soa, soa_at, serial_in, serial_at}
use Rattle.zone_core.specs.Effects.{next_version}

-- ---- where they lead

-- SOA data with a serial, and others as they are
abbrev pub data_at : ℕ → Data → Data
data_at serial (Soa soa) = Soa (record soa { serial = record { 0 = serial } })
data_at serial rdata = rdata

-- an SOA with a serial
abbrev pub at_serial : ℕ → Record → Record
at_serial serial r = record r { rdata = data_at serial r.rdata }

-- the set with an SOA in the place of the one at its name
abbrev pub with_soa : Records → Record → Records
with_soa set soa = put (cut set (at soa.owner types.Soa)) soa

-- the set with an SOA at a serial in its place, where there is one
abbrev pub with_soa_at : ℕ → Records → Option Record → Records
with_soa_at serial set None = set
with_soa_at serial set (Some soa) = with_soa set (at_serial serial soa)

-- the records of an origin with a serial
abbrev pub with_serial : List (List ℕ) → ℕ → Records → Records
with_serial origin serial set = with_soa_at serial set (soa_at origin set)

-- The records to which the operations from one zone to another lead: those of the other, where its serial is greater (RFC 1982
-- section 3.2); else those of the one, where the two differ in nothing but the serial; else those of the other with the serial
-- one further than that of the one (RFC 2136 section 3.6).
abbrev pub target : List (List ℕ) → Records → Records → Records
target origin old new =
    if is_less (serial_at origin old) (serial_at origin new) then new
    else (if is_same old (with_serial origin (serial_at origin old) new) then old
    else with_serial origin (serial_sum (serial_at origin old) 1) new)

-- ---- the records

-- a key of an NS at the origin
abbrev pub is_server : List (List ℕ) → Key → Bool
is_server origin k = at origin types.Ns k

-- a key of another record than an SOA and such an NS
abbrev pub is_other : List (List ℕ) → Key → Bool
is_other origin k = not (is_soa k) && not (is_server origin k)

-- a key of a record that is no SOA and is not in a set
abbrev pub is_gone : Records → Key → Bool
is_gone new k = not (is_soa k) && not (is_some (get new k))

-- the addition of a record
abbrev pub addition : Record → Operation
addition r = Add r

-- the deletion of a record
abbrev pub deletion : Record → Operation
deletion r = DeleteRecord r.owner r.rdata

-- the servers of the origin that come, or whose TTL changes
abbrev pub servers : List (List ℕ) → Records → Records → List Record
servers origin old new = filter (λ r. is_server origin (key_of r)) (listing (minus new old))

-- the records that go
abbrev pub gone : Records → Records → List Record
gone old new = filter (λ r. is_gone new (key_of r)) (listing (minus old new))

-- the other records that come, or whose TTL changes
abbrev pub others : List (List ℕ) → Records → Records → List Record
others origin old new = filter (λ r. is_other origin (key_of r)) (listing (minus new old))

-- The operations for all records but the SOA. The servers of the origin come before others go, since its last NS stays; and all
-- others come after, since a CNAME stands alone at its name.
abbrev pub edits : List (List ℕ) → Records → Records → List Operation
edits origin old new = (map addition (servers origin old new) ++ map deletion (gone old new)) ++ map addition (others origin old new)

-- ---- the SOA

-- whether two records are equal, TTLs counted
abbrev pub is_equal : Record → Record → Bool
is_equal a b = same_key (key_of a) (key_of b) && (a.ttl == b.ttl)

-- the SOA to which the operations lead, where the zones differ in more than the serial
abbrev pub next_soa : Record → Record → Record
next_soa old new = if is_less (serial_in old) (serial_in new) then new else at_serial (serial_sum (serial_in old) 1) new

-- Whether the SOA is added: it is not the next version of the old one, or it is and nothing else changes that would advance the
-- serial.
abbrev pub needs_soa : Bool → Record → Record → Bool
needs_soa bare old new = not (is_equal (next_soa old new) (next_version old)) || bare && is_less (serial_in old) (serial_in new)

-- the addition of the SOA, where it is needed
abbrev pub soa_additions : Bool → Record → Record → List Operation
soa_additions bare old new = if needs_soa bare old new then Add (next_soa old new) ∷ [] else []

-- operations, and after them the addition of the SOA, where it is needed
abbrev pub with_soa_addition : List Operation → Option Record → Option Record → List Operation
with_soa_addition ops None new = ops
with_soa_addition ops (Some old) None = ops
with_soa_addition ops (Some old) (Some new) = ops ++ soa_additions (length ops == 0) old new

-- the operations from one zone to another
abbrev pub operations : List (List ℕ) → Records → Records → List Operation
operations origin old new = with_soa_addition (edits origin old new) (soa_at origin old) (soa_at origin new)
