-- What operations take away from a set of records, and what they put there, record by record (RFC 2136 section 3.4.2).
use Rattle.std.specs.Prelude.{◌≡◌, ◌≢◌, ◌↔◌, ◌⊎◌, ℕ, List, [], ◌∷◌, Some}
use Rattle.dns_data.specs.declared.record.Record.{Record}
use Rattle.dns_data.specs.declared.record_type.RecordType.{RecordType}
use Rattle.dns_data.specs.declared.record_type.RecordType.TheVariants as types
use Rattle.dns_data.specs.Rdata.{type_of}
use Rattle.zone_core.specs.declared.update.Operation.{Operation}
use Rattle.zone_core.specs.declared.update.Operation.TheVariants.{Add, DeleteRrset, DeleteName, DeleteRecord}
use Rattle.zone_core.specs.Serials.{IsLess}
use Rattle.zone_core.specs.Sets.{Records, IsIn}
use Rattle.zone_core.specs.Zones.{ZoneOf, AreKept, IsZone, serial_in, soa_at, serial_at}
use Rattle.zone_core.specs.Updates.{UpdateOf, IsUpdate, ActsWithin}
use Rattle.zone_core.specs.Effects.{effect, next_version, zone_after}

-- a record of a set that has this owner and type
abbrev pub Stands : Records → List (List ℕ) → RecordType → Record → Type 0
Stands set name record_type r = IsIn r set × (r.owner ≡ name) × (type_of r.rdata ≡ record_type)

-- An addition is ignored, by its type: an SOA, unless one with a lesser serial stands at its name; a CNAME, where a record of
-- another type does; any other, where a CNAME does, and a DS at the origin (RFC 2136 section 3.4.2.2, RFC 4034 section 5).
abbrev pub IsIgnoredAs : RecordType → List (List ℕ) → Records → Record → Type 0
IsIgnoredAs types.Soa origin set r = (old : Record) → Stands set r.owner types.Soa old → ¬ IsLess (serial_in old) (serial_in r)
IsIgnoredAs types.Cname origin set r = (s : Record) × IsIn s set × (s.owner ≡ r.owner) × (type_of s.rdata ≢ types.Cname)
IsIgnoredAs record_type origin set r = ((s : Record) × Stands set r.owner types.Cname s) ⊎ ((record_type ≡ types.Ds) × (r.owner ≡ origin))

abbrev pub IsIgnored : List (List ℕ) → Records → Record → Type 0
IsIgnored origin set r = IsIgnoredAs (type_of r.rdata) origin set r

-- types that stay at the origin
abbrev pub IsKept : RecordType → Type 0
IsKept record_type = (record_type ≡ types.Soa) ⊎ (record_type ≡ types.Ns)

-- The records of a set that an operation takes away: an addition those of its set; a deletion those that it names, but at the
-- origin neither an SOA nor an NS, of which a deletion by itself takes all but the last.
abbrev pub Takes : List (List ℕ) → Records → Operation → Record → Type 0
Takes origin set (Add x) r = ¬ IsIgnored origin set x × (r.owner ≡ x.owner) × (type_of r.rdata ≡ type_of x.rdata)
Takes origin set (DeleteRrset name record_type) r = (r.owner ≡ name) × (type_of r.rdata ≡ record_type) × ¬ ((name ≡ origin) × IsKept record_type)
Takes origin set (DeleteName name) r = (r.owner ≡ name) × ¬ ((name ≡ origin) × IsKept (type_of r.rdata))
Takes origin set (DeleteRecord name rdata) r =
    (r.owner ≡ name) × (r.rdata ≡ rdata)
    × ¬ ((name ≡ origin) × ((type_of rdata ≡ types.Soa) ⊎ ((type_of rdata ≡ types.Ns) × ((other : Record) → Stands set name types.Ns other → other.rdata ≡ rdata))))

-- a record of the set of another, with that one's TTL (RFC 2181 section 5.2)
abbrev pub TakesTtl : Records → Record → Record → Type 0
TakesTtl set x r =
    (type_of x.rdata ≢ types.Soa) × (type_of x.rdata ≢ types.Cname) × ((s : Record) × Stands set x.owner (type_of x.rdata) s × (s.rdata ≢ x.rdata) × (r ≡ record s { ttl = x.ttl }))

-- The records that an operation puts there: an addition that is not ignored its own, and with its TTL the others of its set.
abbrev pub Puts : List (List ℕ) → Records → Operation → Record → Type 0
Puts origin set (Add x) r = ¬ IsIgnored origin set x × ((r ≡ x) ⊎ TakesTtl set x r)
Puts origin set op r = ⊥

-- ---- operations in turn

-- none of the operations takes the record away
abbrev pub Stays : List (List ℕ) → Records → List Operation → Record → Type 0
Stays origin set [] r = Unit {0}
Stays origin set (op ∷ ops) r = ¬ Takes origin set op r × Stays origin (effect origin set op) ops r

-- one of the operations puts the record there, and none later takes it away
abbrev pub IsPut : List (List ℕ) → Records → List Operation → Record → Type 0
IsPut origin set [] r = ⊥
IsPut origin set (op ∷ ops) r = (Puts origin set op r × Stays origin (effect origin set op) ops r) ⊎ IsPut origin (effect origin set op) ops r

-- it was put there, or it was there and none took it away
abbrev pub IsLeft : List (List ℕ) → Records → List Operation → Record → Type 0
IsLeft origin set ops r = IsPut origin set ops r ⊎ (IsIn r set × Stays origin set ops r)

-- the records of a zone after an update, but for its SOA, are those that the operations leave
abbrev pub Leaves : ZoneOf → UpdateOf → ZoneOf → Type 0
Leaves zone update after = (r : Record) → type_of r.rdata ≢ types.Soa → IsIn r after.records ↔ IsLeft zone.origin zone.records update.operations r

abbrev pub UpdatesLeave : Type 0
UpdatesLeave = (zone : ZoneOf) (update : UpdateOf) → IsZone zone → IsUpdate update → ActsWithin zone.origin update → Leaves zone update (zone_after zone update)

-- ---- one operation after the other

-- an operation makes a set of another: in it is what the operation puts there, and what was there and it does not take away
abbrev pub Makes : List (List ℕ) → Records → Operation → Records → Type 0
Makes origin before op after = (r : Record) → IsIn r after ↔ (Puts origin before op r ⊎ (IsIn r before × ¬ Takes origin before op r))

-- operations make a set of another in turn, each from what the one before it made
abbrev pub AllMake : List (List ℕ) → Records → List Operation → Records → Type 0
AllMake origin before [] after = (r : Record) → IsIn r after ↔ IsIn r before
AllMake origin before (op ∷ ops) after = (between : Records) × AreKept between × Makes origin before op between × AllMake origin between ops after

-- a set is another with the next serial: its SOA is that of the other, one version further, and all other records are the same (RFC
-- 2136 section 3.6)
abbrev pub IsNextOf : List (List ℕ) → Records → Records → Type 0
IsNextOf origin before after =
    ((soa : Record) × (soa_at origin before ≡ Some soa) × (soa_at origin after ≡ Some (next_version soa)))
    × ((r : Record) → type_of r.rdata ≢ types.Soa → IsIn r after ↔ IsIn r before)

-- What stays of the set that operations made of the one before: the set itself, where it is the one before or has another serial,
-- and else that with the next serial (RFC 2136 section 3.6).
abbrev pub IsAdvancedTo : List (List ℕ) → Records → Records → Records → Type 0
IsAdvancedTo origin before made after =
    (((made ≡ before) ⊎ (serial_at origin made ≢ serial_at origin before)) × (after ≡ made))
    ⊎ ((made ≢ before) × (serial_at origin made ≡ serial_at origin before) × IsNextOf origin made after)

-- the records of a zone after an update are those that the operations make of the records before it in turn, with the next serial
-- where that is due (RFC 2136 sections 3.4.2 and 3.6)
abbrev pub IsMadeBy : ZoneOf → UpdateOf → ZoneOf → Type 0
IsMadeBy zone update after =
    (made : Records) × AreKept made × AllMake zone.origin zone.records update.operations made × IsAdvancedTo zone.origin zone.records made after.records

-- so it is after each update of a zone within its origin
abbrev pub UpdatesMake : Type 0
UpdatesMake = (zone : ZoneOf) (update : UpdateOf) → IsZone zone → IsUpdate update → ActsWithin zone.origin update → IsMadeBy zone update (zone_after zone update)
