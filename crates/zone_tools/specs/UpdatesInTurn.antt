-- What updates come to that are made in turn, nobody else changing the zone between, beside one update that has all their operations.
use Rattle.std.specs.Prelude.{◌≡◌, ◌≢◌, ◌↔◌, ◌⊎◌, ℕ, ◌+◌, ◌<◌, ◌≤◌, List, [], ◌∷◌, ◌++◌, length, map, Bool, true, false, not, None}
use Rattle.std.specs.List.{AllByRecursion, filter, flat_map, list_any}
use Rattle.std.specs.List.Sorted.{IsPermutation}
use Rattle.std.specs.FinMap.{get}
use Rattle.dns_data.specs.declared.record_type.RecordType.{RecordType}
use Rattle.dns_data.specs.declared.record_type.RecordType.TheVariants as types
use Rattle.dns_data.specs.Rdata.{type_of}
use Rattle.zone_core.specs.declared.update.Prerequisite.{Prerequisite}
use Rattle.zone_core.specs.declared.update.Prerequisite.TheVariants.{RrsetEquals}
use Rattle.zone_core.specs.declared.update.Operation.{Operation}
use Rattle.zone_core.specs.declared.update.Operation.TheVariants.{Add}
use Rattle.zone_core.specs.Serials.{IsLess, serial_sum}
use Rattle.zone_core.specs.Sets.{Key, key_of}
use Rattle.zone_core.specs.Zones.{ZoneOf, IsZone, is_soa, serial_in, serial_of}
use Rattle.zone_core.specs.Updates.{UpdateOf, tested_name, acted_name, adds_soa}
use Rattle.zone_core.specs.Prerequisites.{given_for, verdict}
use Rattle.zone_core.specs.Effects.{zone_after}
use Rattle.zone_tools.specs.Differences.{at_serial, with_serial}
use Rattle.zone_tools.specs.DifferencePromises.{AreWithin}

-- ---- updates in turn

-- the zone after one update after the other
abbrev pub zone_after_parts : ZoneOf → List UpdateOf → ZoneOf
zone_after_parts zone [] = zone
zone_after_parts zone (u ∷ us) = zone_after_parts (zone_after zone u) us

-- their operations, in order
abbrev pub operations_of : List UpdateOf → List Operation
operations_of parts = flat_map (λ u. u.operations) parts

-- their prerequisites, in order
abbrev pub prerequisites_of : List UpdateOf → List Prerequisite
prerequisites_of parts = flat_map (λ u. u.prerequisites) parts

-- ---- what they make

abbrev pub adds_no_soa : Operation → Bool
adds_no_soa op = not (adds_soa op)

-- two zones of one origin have the same records, their SOAs aside
pub record SameButSoa (a b : ZoneOf) : Type 0 where
  pub origin : a.origin ≡ b.origin
  pub records : (k : Key) → is_soa k ≡ false → get a.records k ≡ get b.records k

-- a zone with another serial
abbrev pub zone_with_serial : ℕ → ZoneOf → ZoneOf
zone_with_serial serial zone = record zone { records = with_serial zone.origin serial zone.records }

-- two zones are one when they are given one serial
abbrev pub SameButSerial : ZoneOf → ZoneOf → Type 0
SameButSerial a b = (serial : ℕ) → zone_with_serial serial a ≡ zone_with_serial serial b

-- Updates with the operations of another in their order, whatever SOA they add, make its records, the SOA aside.
abbrev pub PartsMakeTheRecords : Type 0
PartsMakeTheRecords =
    (zone : ZoneOf) (parts : List UpdateOf) (whole : UpdateOf) → IsZone zone → AreWithin zone.origin (operations_of parts) → AreWithin zone.origin whole.operations
    → filter adds_no_soa (operations_of parts) ≡ filter adds_no_soa whole.operations → SameButSoa (zone_after_parts zone parts) (zone_after zone whole)

-- If no operation adds an SOA, they make its zone, the serial aside.
abbrev pub PartsMakeTheZone : Type 0
PartsMakeTheZone =
    (zone : ZoneOf) (parts : List UpdateOf) (whole : UpdateOf) → IsZone zone → AreWithin zone.origin whole.operations
    → operations_of parts ≡ whole.operations → AllByRecursion (λ op. adds_soa op ≡ false) whole.operations
    → SameButSerial (zone_after_parts zone parts) (zone_after zone whole)

-- ---- an SOA that one of them adds

-- an operation with the serial of an SOA that it adds so much further (RFC 1982 section 3.1)
abbrev pub further : ℕ → Operation → Operation
further n (Add r) = Add (at_serial (serial_sum (serial_in r) n) r)
further n op = op

-- updates after so many others, each with that serial further by one for each update before it
abbrev pub further_in_turn : ℕ → List UpdateOf → List UpdateOf
further_in_turn before [] = []
further_in_turn before (u ∷ us) = record u { operations = map (further before) u.operations } ∷ further_in_turn (before + 1) us

-- each update before one that adds an SOA changes the zone in which it is made
abbrev pub ChangeBeforeSoa : ZoneOf → List UpdateOf → Type 0
ChangeBeforeSoa zone [] = Unit {0}
ChangeBeforeSoa zone (u ∷ us) = (list_any adds_soa (operations_of us) ≡ true → zone_after zone u ≢ zone) × ChangeBeforeSoa (zone_after zone u) us

-- If at most one operation adds an SOA, its serial is further by one for each update before, and each of these changes the zone, they make
-- its zone too, the serial aside: the SOA is taken by both or by neither.
abbrev pub PartsTakeTheSoa : Type 0
PartsTakeTheSoa =
    (zone : ZoneOf) (parts : List UpdateOf) (whole : UpdateOf) → IsZone zone → AreWithin zone.origin whole.operations
    → operations_of parts ≡ whole.operations → length (filter adds_soa whole.operations) ≤ 1 → ChangeBeforeSoa zone (further_in_turn 0 parts)
    → SameButSerial (zone_after_parts zone (further_in_turn 0 parts)) (zone_after zone whole)

-- if an operation adds an SOA, the serial of this is greater than another, also where it goes further by less than so much (RFC 1982)
abbrev pub StaysNewer : ℕ → ℕ → Operation → Type 0
StaysNewer most serial (Add r) = is_soa (key_of r) ≡ true → (n : ℕ) → n < most → IsLess serial (serial_sum (serial_in r) n)
StaysNewer most serial op = Unit {0}

-- They make it too, whichever of them change the zone, if the serial of that SOA is greater than the zone's, also where it goes further by
-- less than there are updates: the SOA is taken by both.
abbrev pub PartsTakeANewerSoa : Type 0
PartsTakeANewerSoa =
    (zone : ZoneOf) (parts : List UpdateOf) (whole : UpdateOf) → IsZone zone → AreWithin zone.origin whole.operations
    → operations_of parts ≡ whole.operations → length (filter adds_soa whole.operations) ≤ 1
    → AllByRecursion (StaysNewer (length parts) (serial_of zone)) whole.operations
    → SameButSerial (zone_after_parts zone (further_in_turn 0 parts)) (zone_after zone whole)

-- ---- what they test

-- a prerequisite tests the data of an SOA, of which each change of a zone makes others (RFC 2136 section 3.6)
abbrev pub TestsSoaData : Prerequisite → Type 0
TestsSoaData (RrsetEquals name rdata) = type_of rdata ≡ types.Soa
TestsSoaData p = ⊥

-- Operations leave what a prerequisite tests: none is at its name, and there are none at all if it tests the data of an SOA.
abbrev pub LeaveTested : List Operation → Prerequisite → Type 0
LeaveTested ops p = AllByRecursion (λ op. acted_name op ≢ tested_name p) ops × (TestsSoaData p → ops ≡ [])

-- these operations, and those of the updates before it, leave what each prerequisite tests
abbrev pub AreTestedFirst : List Operation → List UpdateOf → Type 0
AreTestedFirst before [] = Unit {0}
AreTestedFirst before (u ∷ us) = AllByRecursion (LeaveTested before) u.prerequisites × AreTestedFirst (before ++ u.operations) us

-- an update gives of each record set all data that prerequisites give for it, in their order, or none (RFC 2136 section 3.2.3)
abbrev pub HasWholeSets : List Prerequisite → UpdateOf → Type 0
HasWholeSets tests u =
    (name : List (List ℕ)) (t : RecordType)
    → (flat_map (given_for name t) u.prerequisites ≡ []) ⊎ (flat_map (given_for name t) u.prerequisites ≡ flat_map (given_for name t) tests)

-- after updates that leave what prerequisites test, the verdict on these is that before
abbrev pub VerdictsStay : Type 0
VerdictsStay =
    (zone : ZoneOf) (parts : List UpdateOf) (tests : List Prerequisite) → IsZone zone → AreWithin zone.origin (operations_of parts)
    → AllByRecursion (LeaveTested (operations_of parts)) tests → verdict (zone_after_parts zone parts).records tests ≡ verdict zone.records tests

-- the prerequisites of each update are met in the zone after those before it
abbrev pub AreMetInTurn : ZoneOf → List UpdateOf → Type 0
AreMetInTurn zone [] = Unit {0}
AreMetInTurn zone (u ∷ us) = (verdict zone.records u.prerequisites ≡ None) × AreMetInTurn (zone_after zone u) us

-- If each prerequisite of an update is in one of the parts, where those before leave what it tests, and those of a record set are together,
-- all parts are met exactly where the update is.
abbrev pub PartsAreMet : Type 0
PartsAreMet =
    (zone : ZoneOf) (parts : List UpdateOf) (whole : UpdateOf) → IsZone zone → AreWithin zone.origin (operations_of parts)
    → IsPermutation whole.prerequisites (prerequisites_of parts) → AreTestedFirst [] parts → AllByRecursion (HasWholeSets whole.prerequisites) parts
    → AreMetInTurn zone parts ↔ (verdict zone.records whole.prerequisites ≡ None)
