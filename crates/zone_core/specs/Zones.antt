-- What a zone is: an origin and a set of records (RFC 1034 section 4.2, RFC 1035 section 5.2, RFC 2181 section 5.2).
use Rattle.std.specs.Prelude.{◌≡◌, ℕ, ◌<◌, List, [], ◌∷◌, length, map, reverse, Bool, not, ◌&&◌, ◌||◌, ◌==◌, nat_lt, min, if◌then◌else◌, Option, Some, None, Result, Ok, Err}
use Rattle.std.specs.FinMap.{get, entries, from_entries}
use Rattle.std.specs.Option.{option_map_or}
use Rattle.dns_names.specs.Labels.{IsWithin, IsBelow, is_within}
use Rattle.dns_names.specs.Order.{same_name}
use Rattle.dns_data.specs.declared.record.Record.{Record}
use Rattle.dns_data.specs.declared.record_type.RecordType.TheVariants as types
use Rattle.dns_data.specs.declared.rdata.Data.{Data}
use Rattle.dns_data.specs.declared.rdata.Data.TheVariants.{Soa}
use Rattle.dns_data.specs.declared.soa.SoaFields.{SoaFields}
use Rattle.dns_data.specs.Rdata.{type_of, IsRecord}
use Rattle.zone_core.specs.declared.faults.ZoneFault.{ZoneFault}
use Rattle.zone_core.specs.declared.faults.ZoneFault.TheVariants.{RootOrigin, OutOfZone, SoaNotAtOrigin, NoSoa, TwoSoa, NoOriginNs, TwoCnames, CnameAndOther}
use Rattle.zone_core.specs.Sets.{Records, Key, key_of, rank_of, set_of, listing, IsIn, part, count, has, at_name, at}

-- an origin and a set of records
pub record ZoneOf : Type 0 where
  pub origin : List (List ℕ)
  pub records : Records

-- each record stands under its own key, and is a record
abbrev pub AreKept : Records → Type 0
AreKept set = (k : Key) (r : Record) → get set k ≡ Some r → (key_of r ≡ k) × IsRecord r

-- the one SOA of a zone: it is at the origin, and no other record is an SOA (RFC 1035 section 5.2)
pub record IsSoaOf (zone : ZoneOf) (soa : Record) : Type 0 where
  pub here : IsIn soa zone.records
  pub origin : soa.owner ≡ zone.origin
  pub type : type_of soa.rdata ≡ types.Soa
  pub alone : (r : Record) → IsIn r zone.records → type_of r.rdata ≡ types.Soa → r ≡ soa

-- an NS at the origin (RFC 1034 section 4.2.1)
pub record IsOriginNs (zone : ZoneOf) (ns : Record) : Type 0 where
  pub here : IsIn ns zone.records
  pub origin : ns.owner ≡ zone.origin
  pub type : type_of ns.rdata ≡ types.Ns

-- What a zone is. The root is no zone's origin here.
pub record IsZone (zone : ZoneOf) : Type 0 where
  pub not_root : 0 < length zone.origin
  pub kept : AreKept zone.records
  -- one SOA, which is at the origin (RFC 1035 section 5.2)
  pub soa : (soa : Record) × IsSoaOf zone soa
  -- an NS at the origin (RFC 1034 section 4.2.1)
  pub servers : (ns : Record) × IsOriginNs zone ns
  -- a CNAME stands alone at its name (RFC 1034 section 3.6.2)
  pub cnames : (r s : Record) → IsIn r zone.records → IsIn s zone.records → type_of r.rdata ≡ types.Cname → s.owner ≡ r.owner → s ≡ r
  -- all owners are within the origin (RFC 1035 section 5.2)
  pub owners : (r : Record) → IsIn r zone.records → IsWithin r.owner zone.origin
  -- a DS stands at a delegation, below the origin (RFC 4034 section 5)
  pub signers : (r : Record) → IsIn r zone.records → type_of r.rdata ≡ types.Ds → IsBelow r.owner zone.origin
  -- the records of one owner and type have one TTL (RFC 2181 section 5.2)
  pub ttls : (r s : Record) → IsIn r zone.records → IsIn s zone.records → s.owner ≡ r.owner → type_of s.rdata ≡ type_of r.rdata → s.ttl ≡ r.ttl

-- ---- building a zone

-- of records that are the same, the last one
abbrev pub latest : List Record → Records
latest rs = set_of (reverse rs)

-- the least of a TTL and those of records
abbrev pub least_below : ℕ → List Record → ℕ
least_below ttl [] = ttl
least_below ttl (r ∷ rs) = least_below (min ttl r.ttl) rs

-- the least TTL of records
abbrev pub least_ttl : List Record → ℕ
least_ttl [] = 0
least_ttl (r ∷ rs) = least_below r.ttl rs

-- whether two keys are of one set: of one owner and type (RFC 2181 section 5)
abbrev pub beside : Key → Key → Bool
beside k other = same_name other.0 k.0 && (other.1 == k.1)

-- a record with the least TTL of its set
abbrev pub min_rrset_ttl : Records → Key × Record → Key × Record
min_rrset_ttl set e = (e.0, record e.1 { ttl = least_ttl (listing (part set (beside e.0))) })

-- each set with its least TTL (RFC 2181 section 5.2)
abbrev pub min_rrset_ttls : Records → Records
min_rrset_ttls set = from_entries (map (min_rrset_ttl set) (entries set))

-- a key of an SOA
abbrev pub is_soa : Key → Bool
is_soa k = k.1 == rank_of types.Soa

-- a key of a CNAME
abbrev pub is_cname : Key → Bool
is_cname k = k.1 == rank_of types.Cname

-- an owner outside the origin, or a DS at it
abbrev pub is_outside : List (List ℕ) → Key → Bool
is_outside origin k = not (is_within k.0 origin) || (k.1 == rank_of types.Ds) && same_name k.0 origin

-- a CNAME beside another
abbrev pub is_of_two_cnames : Records → Key → Bool
is_of_two_cnames set k = is_cname k && nat_lt 1 (count set (at k.0 types.Cname))

-- a CNAME beside a record of another type
abbrev pub is_cname_beside_other : Records → Key → Bool
is_cname_beside_other set k = is_cname k && nat_lt (count set (at k.0 types.Cname)) (count set (at_name k.0))

-- What is wrong with a set of records as a zone, the first of: the origin is the root; an owner is outside the origin, or
-- that of a DS is not below it; an SOA stands elsewhere; there is no SOA; there are several; there is no NS at the origin;
-- a name has two CNAMEs; a name has a CNAME and another record.
abbrev pub fault_in : List (List ℕ) → Records → Option ZoneFault
fault_in origin set =
    if length origin == 0 then Some RootOrigin
    else (if has set (is_outside origin) then Some OutOfZone
    else (if has set (λ k. is_soa k && not (at_name origin k)) then Some SoaNotAtOrigin
    else (if count set is_soa == 0 then Some NoSoa
    else (if nat_lt 1 (count set is_soa) then Some TwoSoa
    else (if not (has set (at origin types.Ns)) then Some NoOriginNs
    else (if has set (is_of_two_cnames set) then Some TwoCnames
    else (if has set (is_cname_beside_other set) then Some CnameAndOther else None)))))))

-- the zone of a set, unless something is wrong with it
abbrev pub unless_fault : List (List ℕ) → Records → Option ZoneFault → Result ZoneOf ZoneFault
unless_fault origin set None = Ok (record { origin = origin; records = set })
unless_fault origin set (Some fault) = Err fault

-- the zone of an origin and records: a repeated record with its last TTL, and then each set with its least
abbrev pub built : List (List ℕ) → List Record → Result ZoneOf ZoneFault
built origin rs = unless_fault origin (min_rrset_ttls (latest rs)) (fault_in origin (min_rrset_ttls (latest rs)))

-- the zone that records of an origin would be
abbrev pub zone_of : List (List ℕ) → List Record → ZoneOf
zone_of origin rs = record { origin = origin; records = min_rrset_ttls (latest rs) }

-- ---- its SOA

-- the fields of SOA data (RFC 1035 section 3.3.13)
abbrev pub soa_in : Data → Option SoaFields
soa_in (Soa soa) = Some soa
soa_in rdata = None

-- the serial of an SOA (RFC 1035 section 3.3.13), and 0 of another record
abbrev pub serial_in : Record → ℕ
serial_in r = option_map_or (λ soa. soa.serial.0) (soa_in r.rdata) 0

-- the first of records
abbrev pub first_of : List Record → Option Record
first_of [] = None
first_of (r ∷ rs) = Some r

-- the SOA at a name
abbrev pub soa_at : List (List ℕ) → Records → Option Record
soa_at name set = first_of (listing (part set (at name types.Soa)))

-- the serial of the SOA at a name, and 0 for a name without SOA
abbrev pub serial_at : List (List ℕ) → Records → ℕ
serial_at name set = option_map_or serial_in (soa_at name set) 0

-- the serial of a zone
abbrev pub serial_of : ZoneOf → ℕ
serial_of zone = serial_at zone.origin zone.records
