-- The prerequisites before the operations between two zones (RFC 2136 section 2.4): the record sets that change are as in the old zone, and
-- no record is there for which section 3.4.2.2 leaves out what comes.
use Rattle.std.specs.Prelude.{ℕ, List, [], ◌∷◌, ◌++◌, map, length, Bool, true, false, not, ◌&&◌, ◌==◌, if◌then◌else◌, Option, Some, None}
use Rattle.std.specs.List.{filter, find, flat_map, list_all, list_any, zip}
use Rattle.dns_data.specs.declared.record.Record.{Record}
use Rattle.dns_data.specs.declared.record_type.RecordType.{RecordType}
use Rattle.dns_data.specs.declared.record_type.RecordType.TheVariants as types
use Rattle.dns_data.specs.Rdata.{type_of}
use Rattle.dns_data.specs.Types.{kept_types}
use Rattle.zone_core.specs.declared.update.Operation.{Operation}
use Rattle.zone_core.specs.declared.update.Prerequisite.{Prerequisite}
use Rattle.zone_core.specs.declared.update.Prerequisite.TheVariants.{RrsetEquals, RrsetAbsent, NameUnused}
use Rattle.zone_core.specs.Sets.{Records, key_of, same_key, listing, part, at_name, at}
use Rattle.zone_core.specs.Zones.{is_soa, is_cname}
use Rattle.zone_core.specs.Updates.{adds_soa}
use Rattle.zone_tools.specs.Differences.{is_equal}
use Rattle.cli_core.specs.declared.job.GuardScope.{GuardScope}
use Rattle.cli_core.specs.declared.job.GuardScope.TheVariants.{Names, Sets}

-- ---- record sets (RFC 2181 section 5)

-- the record set of a record's owner and type, in record order
abbrev pub set_like : Records → Record → List Record
set_like set r = listing (part set (at r.owner (type_of r.rdata)))

-- whether records begin with this one, its TTL not counted
abbrev pub begins_with : List Record → Record → Bool
begins_with [] r = false
begins_with (s ∷ rs) r = same_key (key_of s) (key_of r)

-- whether a record is the first of its set
abbrev pub is_first : Records → Record → Bool
is_first set r = begins_with (set_like set r) r

-- ---- the sets that operations change

-- whether records are as many as others, and each equal to that in its place, TTLs counted
abbrev pub are_equal : List Record → List Record → Bool
are_equal rs others = (length rs == length others) && list_all (λ p. is_equal p.0 p.1) (zip rs others)

-- Whether the operations between two sets of records change the record set of a record: the two differ there; or it is the SOA, and
-- the operations add one.
abbrev pub changes_set : Records → Records → List Operation → Record → Bool
changes_set old new ops r =
    if is_soa (key_of r) then list_any adds_soa ops else not (are_equal (set_like old r) (set_like new r))

-- the records with which the record sets begin that are there and change
abbrev pub changed_firsts : Records → Records → List Operation → List Record
changed_firsts old new ops = filter (λ r. is_first old r && changes_set old new ops r) (listing old)

-- ---- the sets that come

-- whether no record is at a name
abbrev pub is_unused : Records → List (List ℕ) → Bool
is_unused set name = length (listing (part set (at_name name))) == 0

-- whether no record of a type is at a name
abbrev pub lacks : Records → List (List ℕ) → RecordType → Bool
lacks set name t = length (listing (part set (at name t))) == 0

-- whether the old zone has no set of a record's owner and type
abbrev pub is_new : Records → Record → Bool
is_new old r = lacks old r.owner (type_of r.rdata)

-- the records with which the record sets begin that come
abbrev pub new_firsts : Records → Records → List Record
new_firsts old new = filter (λ r. is_first new r && is_new old r) (listing new)

-- whether a record is this one, its TTL not counted
abbrev pub is_this : Option Record → Record → Bool
is_this None r = false
is_this (Some s) r = same_key (key_of s) (key_of r)

-- whether a record is the first at its name of the records of new sets
abbrev pub comes_first : Records → Records → Record → Bool
comes_first old new r = is_this (find (is_new old) (listing (part new (at_name r.owner)))) r

-- ---- prerequisites

abbrev pub there : Record → Prerequisite
there r = RrsetEquals r.owner r.rdata

abbrev pub absent : List (List ℕ) → RecordType → Prerequisite
absent name t = RrsetAbsent name t

-- a type of which a record can be below the origin: an SOA is at the origin only (RFC 1035 section 5.2)
abbrev pub is_below_origin : RecordType → Bool
is_below_origin types.Soa = false
is_below_origin t = true

-- The types of which no record may be at the name of a set that comes (RFC 2136 section 3.4.2.2). A CNAME is left out beside any other set:
-- all types that the old zone does not have there, but SOA, since a CNAME is below the origin. Another set is left out beside a CNAME: its
-- own type and, once for a name, CNAME, unless the old zone has a CNAME there, which goes.
abbrev pub types_absent : Records → Records → Record → List RecordType
types_absent old new r =
    if is_cname (key_of r) then filter (λ t. is_below_origin t && lacks old r.owner t) kept_types
    else (if lacks old r.owner types.Cname && comes_first old new r then type_of r.rdata ∷ types.Cname ∷ [] else type_of r.rdata ∷ [])

-- whether names that the old zone does not use are tested whole
abbrev pub tests_names : GuardScope → Bool
tests_names Names = true
tests_names Sets = false

-- whether it is tested that nobody uses a name
abbrev pub tests_name : GuardScope → Records → List (List ℕ) → Bool
tests_name scope old name = tests_names scope && is_unused old name

-- The prerequisites for a set that comes: that its name is not in use, once for the name, if names are tested and the old zone does not use
-- it; else that no record of these types is there.
abbrev pub not_there : GuardScope → Records → Records → Record → List Prerequisite
not_there scope old new r =
    if tests_name scope old r.owner then (if comes_first old new r then NameUnused r.owner ∷ [] else [])
    else map (absent r.owner) (types_absent old new r)

-- that each record set of the old zone that changes has its data, and then those for the sets that come; both in record order
abbrev pub guards_of : GuardScope → Records → Records → List Operation → List Prerequisite
guards_of scope old new ops =
    flat_map (λ r. map there (set_like old r)) (changed_firsts old new ops) ++ flat_map (not_there scope old new) (new_firsts old new)
