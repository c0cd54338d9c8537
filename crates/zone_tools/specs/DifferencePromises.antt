-- What the operations from one zone to another are for, and that there are no more.
use Rattle.std.specs.Prelude.{◌≡◌, ◌≢◌, ◌⊎◌, ℕ, List, [], ◌∷◌, ◌++◌, Bool, true, false, Some}
use Rattle.std.specs.List.{AllByRecursion}
use Rattle.dns_names.specs.Labels.{IsWithin}
use Rattle.dns_data.specs.declared.record.Record.{Record}
use Rattle.dns_data.specs.declared.record_type.RecordType.TheVariants as types
use Rattle.zone_core.specs.declared.update.Operation.{Operation}
use Rattle.zone_core.specs.declared.update.Operation.TheVariants.{Add, DeleteRrset, DeleteName, DeleteRecord}
use Rattle.zone_core.specs.Sets.{Records, Key, key_of, same_key, at_name, at, IsIn, cut}
use Rattle.zone_core.specs.Serials.{IsLess}
use Rattle.zone_core.specs.Zones.{soa_at, serial_at}
use Rattle.zone_core.specs.Updates.{IsOperation, acted_name, adds_soa}
use Rattle.zone_core.specs.Effects.{key_at, next_version, effects, serial_advanced}
use Rattle.zone_tools.specs.Differences.{with_serial, target}

-- the operations, made in turn in the old zone, give the target (RFC 2136 sections 3.4.2 and 3.6)
abbrev pub Lead : List (List ℕ) → Records → Records → List Operation → Type 0
Lead origin old new ops = serial_advanced origin old (effects origin old ops) ≡ target origin old new

-- two zones differ in nothing but a serial, which in the new one is not greater (RFC 1982 section 3.2)
abbrev pub HaveNoNews : List (List ℕ) → Records → Records → Type 0
HaveNoNews origin old new = ¬ IsLess (serial_at origin old) (serial_at origin new) × (with_serial origin (serial_at origin old) new ≡ old)

-- the keys that a deletion names
abbrev pub deletes : Operation → Key → Bool
deletes (Add r) k = false
deletes (DeleteRrset name record_type) k = at name record_type k
deletes (DeleteName name) k = at_name name k
deletes (DeleteRecord name rdata) k = same_key (key_at name rdata) k

-- An operation is needed: an addition adds a record that is in the target with its TTL, and not so in the old zone; a deletion
-- names a record of the old zone, and none of the target.
abbrev pub IsNeeded : Records → Records → Operation → Type 0
IsNeeded old aim (Add r) = IsIn r aim × ¬ IsIn r old
IsNeeded old aim op =
    ((r : Record) × IsIn r old × (deletes op (key_of r) ≡ true)) × ((r : Record) → IsIn r aim → deletes op (key_of r) ≡ false)

-- An SOA of an update is needed: the target has another than the next version of the old one, or the two sets differ in nothing
-- else, so that nothing else would advance the serial.
abbrev pub NeedsSoa : List (List ℕ) → Records → Records → Record → Type 0
NeedsSoa origin old aim soa =
    ((before : Record) × (soa_at origin old ≡ Some before) × (soa ≢ next_version before))
    ⊎ (cut aim (at origin types.Soa) ≡ cut old (at origin types.Soa))

-- the last of the operations, or none, adds the SOA of the target, where it is needed; no other adds an SOA
abbrev pub AddsSoaLast : List (List ℕ) → Records → Records → List Operation → Type 0
AddsSoaLast origin old aim ops =
    (front : List Operation) × (AllByRecursion (λ op. adds_soa op ≡ false) front)
    × ((ops ≡ front) ⊎ ((soa : Record) × (ops ≡ front ++ Add soa ∷ []) × (soa_at origin aim ≡ Some soa) × NeedsSoa origin old aim soa))

-- each is an operation, at a name within the origin
abbrev pub AreWithin : List (List ℕ) → List Operation → Type 0
AreWithin origin ops = AllByRecursion (λ op. IsOperation op × IsWithin (acted_name op) origin) ops
