-- Which operations of an update change nothing in a zone, and why (RFC 2136 sections 3.4.2.2 to 3.4.2.4).
use Rattle.std.specs.Prelude.{◌≡◌, ◌↔◌, ℕ, ◌+◌, ◌<◌, List, [], ◌∷◌, length, take, Bool, codes, if◌then◌else◌, Option, Some, None, is_some, IsSome, slice_get}
use Rattle.std.specs.FinMap.{get}
use Rattle.zone_core.specs.declared.update.Operation.{Operation}
use Rattle.zone_core.specs.declared.update.Operation.TheVariants.{Add, DeleteRrset, DeleteName, DeleteRecord}
use Rattle.zone_core.specs.Sets.{Records, Key, key_of, has, at_name, at}
use Rattle.zone_core.specs.Zones.{ZoneOf, IsZone, is_soa, is_cname}
use Rattle.zone_core.specs.Updates.{UpdateOf, IsUpdate, ActsWithin}
use Rattle.zone_core.specs.Parts.{part_of, Covers}
use Rattle.zone_core.specs.Effects.{is_misplaced, key_at, zone_after}
use Rattle.zone_core.specs.Changes.{change_between, is_empty}
use Rattle.zone_tools.specs.declared.idle.Idleness.{Idleness}
use Rattle.zone_tools.specs.declared.idle.Idleness.TheVariants.{Present, Absent, Alias, OtherTypes, OlderSerial, Kept, Misplaced}

-- the operations of an update before one of them
abbrev pub until : UpdateOf → ℕ → UpdateOf
until update i = record { prerequisites = []; operations = take i update.operations }

-- the zone in which an operation acts: the one that those before it leave, were they the whole update
abbrev pub zone_until : ZoneOf → UpdateOf → ℕ → ZoneOf
zone_until zone update i = zone_after zone (until update i)

-- Why an operation changes nothing of the records of a zone of an origin, where it does not: of an addition, that there is no SOA with a
-- lesser serial, that a DS does not stand at the origin, that the record is there, that other types are there, or that an alias is; of a
-- deletion, that what it is for stays at the origin, or is not there.
abbrev pub reason : List (List ℕ) → Records → Operation → Idleness
reason origin set (Add r) =
    if is_soa (key_of r) then OlderSerial
    else (if is_misplaced origin r then Misplaced
    else (if is_some (get set (key_of r)) then Present
    else (if is_cname (key_of r) then OtherTypes else Alias)))
reason origin set (DeleteRrset name record_type) = if has set (at name record_type) then Kept else Absent
reason origin set (DeleteName name) = if has set (at_name name) then Kept else Absent
reason origin set (DeleteRecord name rdata) = if is_some (get set (key_at name rdata)) then Kept else Absent

-- that in words
abbrev pub idleness_text : Idleness → List ℕ
idleness_text Present = codes "the record is there"
idleness_text Absent = codes "it is not there"
idleness_text Alias = codes "an alias is there"
idleness_text OtherTypes = codes "other types are there"
idleness_text OlderSerial = codes "no SOA with a lesser serial is there"
idleness_text Kept = codes "it stays at the origin"
idleness_text Misplaced = codes "a DS does not stand at the origin"

-- why an operation in its place of an update changes nothing, if it does not
abbrev pub idle_at : ZoneOf → UpdateOf → ℕ → Operation → Option Idleness
idle_at zone update i op =
    let set = (zone_until zone update i).records in
    if is_empty (change_between set (zone_until zone update (i + 1)).records) then Some (reason zone.origin set op) else None

-- of operations from a place on
abbrev pub idle_from : ZoneOf → UpdateOf → ℕ → List Operation → List (Option Idleness)
idle_from zone update i [] = []
idle_from zone update i (op ∷ ops) = idle_at zone update i op ∷ idle_from zone update (i + 1) ops

-- of all operations of an update
abbrev pub idle_operations : ZoneOf → UpdateOf → List (Option Idleness)
idle_operations zone update = idle_from zone update 0 update.operations

-- An operation changes nothing exactly where the zone with it is the zone without it.
abbrev pub IdleOperationsChangeNothing : Type 0
IdleOperationsChangeNothing =
    (zone : ZoneOf) (update : UpdateOf) → IsZone zone → IsUpdate update → ActsWithin zone.origin update
    → (i : ℕ) → i < length update.operations
    → (found : Option Idleness) × (slice_get (idle_operations zone update) i ≡ Some found)
    × (IsSome found ↔ (zone_until zone update (i + 1) ≡ zone_until zone update i))

-- Whether it does is the same in the part of a zone that the update reads as in the zone.
abbrev pub IdleOperationsNeedTheirPart : Type 0
IdleOperationsNeedTheirPart =
    (zone : ZoneOf) (update : UpdateOf) (test : Key → Bool) → IsZone zone → IsUpdate update → ActsWithin zone.origin update → Covers zone.origin update test
    → (i : ℕ)
    → (zone_until (part_of zone test) update (i + 1) ≡ zone_until (part_of zone test) update i) ↔ (zone_until zone update (i + 1) ≡ zone_until zone update i)
