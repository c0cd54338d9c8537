-- What operations do to the records of a zone (RFC 2136 sections 2.5 and 3.4.2).
use Rattle.std.specs.Prelude.{ℕ, List, [], ◌∷◌, Bool, false, not, ◌&&◌, ◌||◌, ◌==◌, if◌then◌else◌, Option, Some, None}
use Rattle.dns_names.specs.Order.{same_name}
use Rattle.dns_data.specs.declared.record.Record.{Record}
use Rattle.dns_data.specs.declared.record_type.RecordType.{RecordType}
use Rattle.dns_data.specs.declared.record_type.RecordType.TheVariants as types
use Rattle.dns_data.specs.declared.rdata.Data.{Data}
use Rattle.dns_data.specs.declared.rdata.Data.TheVariants.{Soa}
use Rattle.dns_data.specs.declared.soa.SoaFields.{SoaFields}
use Rattle.dns_data.specs.Rdata.{type_of}
use Rattle.dns_data.specs.Text.{data_text}
use Rattle.zone_core.specs.declared.update.Operation.{Operation}
use Rattle.zone_core.specs.declared.update.Operation.TheVariants.{Add, DeleteRrset, DeleteName, DeleteRecord}
use Rattle.zone_core.specs.Serials.{serial_sum, is_less}
use Rattle.zone_core.specs.Sets.{Records, Key, key_of, rank_of, same_key, cut, has, at_name, at, put, with_ttl, is_same}
use Rattle.zone_core.specs.Zones.{ZoneOf, is_soa, is_cname, soa_at, serial_in, serial_at}
use Rattle.zone_core.specs.Updates.{UpdateOf}

-- ---- adding (RFC 2136 section 3.4.2.2)

-- a record of another type than CNAME at a name
abbrev pub is_other_type : List (List ℕ) → Key → Bool
is_other_type name k = at_name name k && not (is_cname k)

-- whether an SOA takes the place of this one: its serial is greater (RFC 1982)
abbrev pub takes_over : Record → Option Record → Bool
takes_over r None = false
takes_over r (Some old) = is_less (serial_in old) (serial_in r)

-- an SOA: in the place of the one at its name, where there is one with a lesser serial
abbrev pub add_soa : Records → Record → Records
add_soa set r = if takes_over r (soa_at r.owner set) then put (cut set (at r.owner types.Soa)) r else set

-- a CNAME: in the place of the one at its name, where there is no record of another type
abbrev pub add_cname : Records → Record → Records
add_cname set r = if has set (is_other_type r.owner) then set else put (cut set (at_name r.owner)) r

-- a record of another type: in the place of the same one, where there is no CNAME. Its set has its TTL then (RFC 2181
-- section 5.2)
abbrev pub add_other : Records → Record → Records
add_other set r = if has set (at r.owner types.Cname) then set else put (with_ttl set (at r.owner (type_of r.rdata)) r.ttl) r

-- a DS at the origin, which is put nowhere (RFC 4034 section 5)
abbrev pub is_misplaced : List (List ℕ) → Record → Bool
is_misplaced origin r = same_name r.owner origin && (rank_of (type_of r.rdata) == rank_of types.Ds)

-- a record, by its type; a DS at the origin is left out
abbrev pub add : List (List ℕ) → Records → Record → Records
add origin set r =
    if is_soa (key_of r) then add_soa set r
    else (if is_cname (key_of r) then add_cname set r
    else (if is_misplaced origin r then set else add_other set r))

-- ---- deleting (RFC 2136 sections 3.4.2.3 and 3.4.2.4)

-- SOA and NS, which stay at the origin
abbrev pub is_guarded : ℕ → Bool
is_guarded rank = (rank == rank_of types.Soa) || (rank == rank_of types.Ns)

-- a set: but of SOA and of NS at the origin
abbrev pub delete_rrset : List (List ℕ) → Records → List (List ℕ) → RecordType → Records
delete_rrset origin set name record_type = if same_name name origin && is_guarded (rank_of record_type) then set else cut set (at name record_type)

-- a record that goes when all at a name do: at the origin neither an SOA nor an NS
abbrev pub goes : List (List ℕ) → List (List ℕ) → Key → Bool
goes origin name k = at_name name k && not (same_name name origin && is_guarded k.1)

-- all sets at a name: but of SOA and of NS at the origin
abbrev pub delete_name : List (List ℕ) → Records → List (List ℕ) → Records
delete_name origin set name = cut set (goes origin name)

-- the key of a record with this owner and these data
abbrev pub key_at : List (List ℕ) → Data → Key
key_at name rdata = (name, rank_of (type_of rdata), data_text rdata)

-- another NS at the name
abbrev pub is_other_ns : Key → Key → Bool
is_other_ns key k = at key.0 types.Ns k && not (same_key key k)

-- a record that is never deleted: at the origin an SOA, and an NS beside which there is no other
abbrev pub stays : List (List ℕ) → Records → Key → Bool
stays origin set key = same_name key.0 origin && ((key.1 == rank_of types.Soa) || ((key.1 == rank_of types.Ns) && not (has set (is_other_ns key))))

-- a record, but for those that stay
abbrev pub delete_record : List (List ℕ) → Records → Key → Records
delete_record origin set key = if stays origin set key then set else cut set (same_key key)

-- ---- operations in turn

-- one operation, in a zone of this origin
abbrev pub effect : List (List ℕ) → Records → Operation → Records
effect origin set (Add r) = add origin set r
effect origin set (DeleteRrset name record_type) = delete_rrset origin set name record_type
effect origin set (DeleteName name) = delete_name origin set name
effect origin set (DeleteRecord name rdata) = delete_record origin set (key_at name rdata)

-- one after the other
abbrev pub effects : List (List ℕ) → Records → List Operation → Records
effects origin set [] = set
effects origin set (op ∷ ops) = effects origin (effect origin set op) ops

-- ---- the serial (RFC 2136 section 3.6)

-- the fields of an SOA with its serial one further (RFC 1982 section 3.1)
abbrev pub next_soa : SoaFields → SoaFields
next_soa soa = record soa { serial = record { 0 = serial_sum soa.serial.0 1 } }

-- data of an SOA with its serial one further, and others as they are
abbrev pub next_data : Data → Data
next_data (Soa soa) = Soa (next_soa soa)
next_data rdata = rdata

-- an SOA with its serial one further
abbrev pub next_version : Record → Record
next_version r = record r { rdata = next_data r.rdata }

-- the set with the next version of an SOA in its place, where there is one
abbrev pub with_next : Records → Option Record → Records
with_next set None = set
with_next set (Some soa) = put (cut set (at soa.owner types.Soa)) (next_version soa)

-- The records of an origin after operations took them from one set to another: where nothing changed, TTLs counted, they are
-- those before; where an SOA was taken its serial stands; else it is one further.
abbrev pub serial_advanced : List (List ℕ) → Records → Records → Records
serial_advanced origin before after =
    if is_same before after then before
    else (if serial_at origin before == serial_at origin after then with_next after (soa_at origin after) else after)

-- the zone after an update
abbrev pub zone_after : ZoneOf → UpdateOf → ZoneOf
zone_after zone update = record zone { records = serial_advanced zone.origin zone.records (effects zone.origin zone.records update.operations) }
