-- What the parts of an update come to, if all are made in order and nobody else changes the zone between.
use Rattle.std.specs.Prelude.{◌≡◌, ◌↔◌, ◌⊎◌, ℕ, ◌+◌, ◌^◌, ◌≤◌, List, [], ◌∷◌, length, false, None, Ok}
use Rattle.std.specs.List.{AllByRecursion, filter}
use Rattle.zone_core.specs.declared.update.Prerequisite.{Prerequisite}
use Rattle.zone_core.specs.declared.update.Operation.{Operation}
use Rattle.zone_core.specs.Zones.{ZoneOf, IsZone, serial_of}
use Rattle.zone_core.specs.Updates.{UpdateOf, adds_soa}
use Rattle.zone_core.specs.Prerequisites.{verdict}
use Rattle.zone_core.specs.Effects.{zone_after}
use Rattle.zone_tools.specs.DifferencePromises.{AreWithin}
use Rattle.zone_tools.specs.UpdatesInTurn.{zone_after_parts, SameButSoa, SameButSerial, ChangeBeforeSoa, StaysNewer, AreMetInTurn}
use Rattle.cli_updates.specs.Pieces.{split_of}
use Rattle.cli_updates.specs.Split.{part_update}

-- updates are those of parts after so many others
abbrev pub ArePartUpdates : ℕ → List UpdateOf → List UpdateOf → Type 0
ArePartUpdates before [] updates = updates ≡ []
ArePartUpdates before (u ∷ us) [] = ⊥
ArePartUpdates before (u ∷ us) (v ∷ vs) = (part_update before u ≡ Ok v) × ArePartUpdates (before + 1) us vs

-- Updates in turn do to a zone what one update does: they make its records, the SOA aside, and are all met exactly where it is. They make its
-- zone, the serial aside, if no operation adds an SOA; and if one does, where each update before it changes the zone, or where its serial
-- is greater than the zone's, also if it goes further by less than there are updates.
pub record DoTheSame (zone : ZoneOf) (parts : List UpdateOf) (whole : UpdateOf) : Type 0 where
  pub records : SameButSoa (zone_after_parts zone parts) (zone_after zone whole)
  pub met : AreMetInTurn zone parts ↔ (verdict zone.records whole.prerequisites ≡ None)
  pub bare : AllByRecursion (λ op. adds_soa op ≡ false) whole.operations → SameButSerial (zone_after_parts zone parts) (zone_after zone whole)
  pub soa : length (filter adds_soa whole.operations) ≤ 1 → length parts ≤ 2 ^ 31
      → ChangeBeforeSoa zone parts ⊎ AllByRecursion (StaysNewer (length parts) (serial_of zone)) whole.operations
      → SameButSerial (zone_after_parts zone parts) (zone_after zone whole)

-- the updates of the parts do what the update does of which they are parts
abbrev pub SplitsDoTheSame : Type 0
SplitsDoTheSame =
    (id : List ℕ) (tests : List Prerequisite) (operations : List Operation) (updates : List UpdateOf) (zone : ZoneOf)
    → ArePartUpdates 0 (split_of id tests operations) updates → IsZone zone → AreWithin zone.origin operations
    → DoTheSame zone updates (record { prerequisites = tests; operations = operations })
