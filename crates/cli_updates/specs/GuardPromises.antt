-- What the prerequisites before a diff say of a zone in which they are met.
use Rattle.std.specs.Prelude.{◌≡◌, ◌≢◌, ◌↔◌, ◌⊎◌, List}
use Rattle.std.specs.List.{Contains}
use Rattle.dns_data.specs.declared.record.Record.{Record}
use Rattle.dns_data.specs.declared.record_type.RecordType.TheVariants as types
use Rattle.dns_data.specs.declared.rdata.Data.{Data}
use Rattle.dns_data.specs.Rdata.{type_of}
use Rattle.zone_core.specs.declared.update.Operation.{Operation}
use Rattle.zone_core.specs.declared.update.Operation.TheVariants.{Add, DeleteRecord}
use Rattle.zone_core.specs.declared.update.Prerequisite.{Prerequisite}
use Rattle.zone_core.specs.declared.update.Prerequisite.TheVariants.{RrsetEquals, RrsetAbsent}
use Rattle.zone_core.specs.Sets.{Records, IsIn}
use Rattle.zone_core.specs.Accounts.{Stands}

-- a record at a record's owner, and of its type, has these data
abbrev pub HasThere : Records → Record → Data → Type 0
HasThere set r d = (s : Record) × Stands set r.owner (type_of r.rdata) s × (s.rdata ≡ d)

-- the set of a record's owner and type has the same data in two zones; TTLs do not count (RFC 2136 section 2.4.2)
abbrev pub HaveSameSet : Records → Records → Record → Type 0
HaveSameSet a b r = (d : Data) → HasThere a r d ↔ HasThere b r d

-- one of the operations adds a record, or deletes it
abbrev pub IsOfOperation : List Operation → Record → Type 0
IsOfOperation ops r = Contains ops (Add r) ⊎ Contains ops (DeleteRecord r.owner r.rdata)

-- no record is at a record's owner and of its type
abbrev pub IsOfNoSet : Records → Record → Type 0
IsOfNoSet set r = (s : Record) → ¬ Stands set r.owner (type_of r.rdata) s

-- a prerequisite on the set of a record: it tests that set; or, since a CNAME is left out beside any other set and any other set beside a
-- CNAME (RFC 2136 section 3.4.2.2), that there is no CNAME, or of a CNAME that there is no set of another type but SOA
abbrev pub IsTestFor : Record → Prerequisite → Type 0
IsTestFor r (RrsetEquals name rdata) = (name ≡ r.owner) × (type_of rdata ≡ type_of r.rdata)
IsTestFor r (RrsetAbsent name t) =
    (name ≡ r.owner) × ((t ≡ type_of r.rdata) ⊎ ((t ≡ types.Cname) ⊎ ((type_of r.rdata ≡ types.Cname) × (t ≢ types.Soa))))
IsTestFor r p = ⊥

-- No record is there for which a record that comes is left out (RFC 2136 section 3.4.2.2). At the name of a CNAME, each record is of a type
-- that the old zone has there, and goes. At the name of another record there is no CNAME, unless the old zone has one there, which goes.
pub record HasRoom (old now : Records) (r : Record) : Type 0 where
  pub alias : type_of r.rdata ≡ types.Cname → (s : Record) → IsIn s now → s.owner ≡ r.owner → (t : Record) × Stands old r.owner (type_of s.rdata) t
  pub other : type_of r.rdata ≢ types.Cname → ((t : Record) → ¬ Stands old r.owner types.Cname t) → (s : Record) → ¬ Stands now r.owner types.Cname s
