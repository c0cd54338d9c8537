-- An update: prerequisites and operations (RFC 2136 sections 2.4 and 2.5).
use Rattle.std.specs.Prelude.{◌≡◌, ◌↔◌, ◌⊎◌, ℕ, ◌<◌, ◌≤◌, List, map, ◌++◌, length, Bool, true, false, not, ◌&&◌, ◌||◌, ◌==◌, nat_lt, if◌then◌else◌, Option, Some, Result, Ok, Err, slice_get}
use Rattle.std.specs.List.{filter, AllByRecursion, position}
use Rattle.std.specs.Option.{option_map, option_or}
use Rattle.std.specs.Cmp.Lexicographic.{pointwise}
use Rattle.dns_names.specs.Labels.{IsName, IsWithin, is_within}
use Rattle.dns_names.specs.Order.{same_name}
use Rattle.dns_data.specs.declared.record_type.RecordType.{RecordType}
use Rattle.dns_data.specs.Rdata.{IsRecord, IsRdata}
use Rattle.zone_core.specs.declared.update.Prerequisite.{Prerequisite}
use Rattle.zone_core.specs.declared.update.Prerequisite.TheVariants.{RrsetExists, RrsetEquals, RrsetAbsent, NameUsed, NameUnused}
use Rattle.zone_core.specs.declared.update.Operation.{Operation}
use Rattle.zone_core.specs.declared.update.Operation.TheVariants.{Add, DeleteRrset, DeleteName, DeleteRecord}
use Rattle.zone_core.specs.declared.update.ItemList.{ItemList}
use Rattle.zone_core.specs.declared.update.ItemList.TheVariants as lists
use Rattle.zone_core.specs.declared.update.Place.{Place}
use Rattle.zone_core.specs.declared.faults.UpdateFault.{UpdateFault}
use Rattle.zone_core.specs.declared.faults.UpdateFault.TheVariants.{TooManyItems, TwoSoa}
use Rattle.zone_core.specs.Sets.{key_of, rank_of}
use Rattle.zone_core.specs.Zones.{is_soa}
use Rattle.zone_core.specs.Prerequisites.{same_data}

-- prerequisites and operations
pub record UpdateOf : Type 0 where
  pub prerequisites : List Prerequisite
  pub operations : List Operation

-- the name that a prerequisite tests
abbrev pub tested_name : Prerequisite → List (List ℕ)
tested_name (RrsetExists name record_type) = name
tested_name (RrsetEquals name rdata) = name
tested_name (RrsetAbsent name record_type) = name
tested_name (NameUsed name) = name
tested_name (NameUnused name) = name

-- the name at which an operation acts
abbrev pub acted_name : Operation → List (List ℕ)
acted_name (Add r) = r.owner
acted_name (DeleteRrset name record_type) = name
acted_name (DeleteName name) = name
acted_name (DeleteRecord name rdata) = name

-- the names of the items of an update
abbrev pub item_names : UpdateOf → List (List (List ℕ))
item_names update = map tested_name update.prerequisites ++ map acted_name update.operations

-- whether an operation adds an SOA
abbrev pub adds_soa : Operation → Bool
adds_soa (Add r) = is_soa (key_of r)
adds_soa op = false

-- ---- what an update is

-- the names and the data of a prerequisite are such
abbrev pub IsPrerequisite : Prerequisite → Type 0
IsPrerequisite (RrsetExists name record_type) = IsName name
IsPrerequisite (RrsetEquals name rdata) = IsName name × IsRdata rdata
IsPrerequisite (RrsetAbsent name record_type) = IsName name
IsPrerequisite (NameUsed name) = IsName name
IsPrerequisite (NameUnused name) = IsName name

-- the record, or the names and the data, of an operation are such
abbrev pub IsOperation : Operation → Type 0
IsOperation (Add r) = IsRecord r
IsOperation (DeleteRrset name record_type) = IsName name
IsOperation (DeleteName name) = IsName name
IsOperation (DeleteRecord name rdata) = IsName name × IsRdata rdata

-- at most 64 prerequisites and 256 operations, of which at most one adds an SOA
pub record IsUpdate (update : UpdateOf) : Type 0 where
  pub prerequisites : AllByRecursion IsPrerequisite update.prerequisites
  pub operations : AllByRecursion IsOperation update.operations
  pub few_prerequisites : length update.prerequisites ≤ 64
  pub few_operations : length update.operations ≤ 256
  pub one_soa : length (filter adds_soa update.operations) ≤ 1

-- the update of two lists, or the first fault
abbrev pub update_of : List Prerequisite → List Operation → Result UpdateOf UpdateFault
update_of prerequisites operations =
    if nat_lt 64 (length prerequisites) || nat_lt 256 (length operations) then Err TooManyItems
    else (if nat_lt 1 (length (filter adds_soa operations)) then Err TwoSoa
    else Ok (record { prerequisites = prerequisites; operations = operations }))

-- ---- names within the zone (RFC 2136 sections 3.2 and 3.4.1)

-- each item's name is within the origin
pub record ActsWithin (origin : List (List ℕ)) (update : UpdateOf) : Type 0 where
  pub prerequisites : AllByRecursion (λ p. IsWithin (tested_name p) origin) update.prerequisites
  pub operations : AllByRecursion (λ op. IsWithin (acted_name op) origin) update.operations

-- an item of a list, by its number
abbrev pub place_in : ItemList → ℕ → Place
place_in list i = record { list = list; item = i }

-- the first item whose name is not within the origin, prerequisites before operations
abbrev pub first_outside : List (List ℕ) → UpdateOf → Option Place
first_outside origin update =
    option_or (option_map (place_in lists.Prerequisites) (position (λ p. not (is_within (tested_name p) origin)) update.prerequisites))
    (option_map (place_in lists.Operations) (position (λ op. not (is_within (acted_name op) origin)) update.operations))

-- an item of a list of an update has this number and name
abbrev pub IsNamed : ItemList → UpdateOf → ℕ → List (List ℕ) → Type 0
IsNamed lists.Prerequisites update i name = (p : Prerequisite) × (slice_get update.prerequisites i ≡ Some p) × (tested_name p ≡ name)
IsNamed lists.Operations update i name = (op : Operation) × (slice_get update.operations i ≡ Some op) × (acted_name op ≡ name)

-- prerequisites come before operations, and the items of one list by their numbers
abbrev pub ComesBefore : Place → Place → Type 0
ComesBefore a b = ((a.list ≡ lists.Prerequisites) × (b.list ≡ lists.Operations)) ⊎ ((a.list ≡ b.list) × (a.item < b.item))

-- an item is the first whose name is not within the origin
pub record IsFirstOutside (origin : List (List ℕ)) (update : UpdateOf) (place : Place) : Type 0 where
  pub name : List (List ℕ)
  pub named : IsNamed place.list update place.item name
  pub outside : ¬ IsWithin name origin
  pub first : (earlier : Place) (other : List (List ℕ)) → ComesBefore earlier place → IsNamed earlier.list update earlier.item other → IsWithin other origin

-- what is told of items outside the origin is the first of them
abbrev pub OutsidesAreFirst : Type 0
OutsidesAreFirst = (origin : List (List ℕ)) (update : UpdateOf) (place : Place) → (first_outside origin update ≡ Some place) ↔ IsFirstOutside origin update place

-- ---- updates that are equal

-- whether two types are one
abbrev pub same_type : RecordType → RecordType → Bool
same_type record_type other = rank_of record_type == rank_of other

-- whether two prerequisites are equal
abbrev pub same_prerequisite : Prerequisite → Prerequisite → Bool
same_prerequisite (RrsetExists name record_type) (RrsetExists other other_type) = same_name name other && same_type record_type other_type
same_prerequisite (RrsetEquals name rdata) (RrsetEquals other other_rdata) = same_name name other && same_data rdata other_rdata
same_prerequisite (RrsetAbsent name record_type) (RrsetAbsent other other_type) = same_name name other && same_type record_type other_type
same_prerequisite (NameUsed name) (NameUsed other) = same_name name other
same_prerequisite (NameUnused name) (NameUnused other) = same_name name other
same_prerequisite p q = false

-- whether two operations are equal; the TTL of a record that is added counts
abbrev pub same_operation : Operation → Operation → Bool
same_operation (Add r) (Add s) = same_name r.owner s.owner && ((r.ttl == s.ttl) && same_data r.rdata s.rdata)
same_operation (DeleteRrset name record_type) (DeleteRrset other other_type) = same_name name other && same_type record_type other_type
same_operation (DeleteName name) (DeleteName other) = same_name name other
same_operation (DeleteRecord name rdata) (DeleteRecord other other_rdata) = same_name name other && same_data rdata other_rdata
same_operation op other = false

-- whether two updates have equal prerequisites and operations, in the same order
abbrev pub same_update : UpdateOf → UpdateOf → Bool
same_update a b = pointwise same_prerequisite a.prerequisites b.prerequisites && pointwise same_operation a.operations b.operations

-- updates are equal exactly where they are one
abbrev pub EqualUpdatesAreOne : Type 0
EqualUpdatesAreOne = (a b : UpdateOf) → IsUpdate a → IsUpdate b → (same_update a b ≡ true) ↔ (a ≡ b)
