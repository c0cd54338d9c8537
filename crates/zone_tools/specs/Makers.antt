-- Which updates may have made a change of a zone (RFC 2136 section 3).
use Rattle.std.specs.Prelude.{◌≡◌, ◌↔◌, ℕ, List, [], ◌∷◌, ◌++◌, length, false, Some, slice_get}
use Rattle.std.specs.List.{Contains}
use Rattle.std.specs.List.Sorted.{IsStrictlyIncreasing}
use Rattle.zone_core.specs.Sets.{Records, part, listing}
use Rattle.zone_core.specs.Zones.{ZoneOf, IsZone, zone_of}
use Rattle.zone_core.specs.Updates.{UpdateOf, IsUpdate, ActsWithin, item_names}
use Rattle.zone_core.specs.Parts.{at_names}
use Rattle.zone_core.specs.Met.{AreMet}
use Rattle.zone_core.specs.Effects.{zone_after}
use Rattle.zone_core.specs.Changes.{ChangeOf, change_between, is_empty}
use Rattle.zone_tools.specs.History.{before, Leads}

-- An update may have made a change of a zone: its names are within the origin (RFC 2136 sections 3.2 and 3.4.1), its prerequisites are
-- met in the zone (section 3.2), and what it changes of it (sections 3.4.2 and 3.6) is the change, and something.
pub record MayHaveMade (zone : ZoneOf) (update : UpdateOf) (change : ChangeOf) : Type 0 where
  pub is_zone : IsZone zone
  pub inside : ActsWithin zone.origin update
  pub met : AreMet zone.records update.prerequisites
  pub something : is_empty change ≡ false
  pub makes : change_between zone.records (zone_after zone update).records ≡ change

-- the records that an update reads: those at the origin, and at its names
abbrev pub read_by : List (List ℕ) → UpdateOf → Records → Records
read_by origin update set = part set (at_names origin (item_names update))

-- the zone that these would be
abbrev pub zone_read : List (List ℕ) → Records → UpdateOf → ZoneOf
zone_read origin set update = zone_of origin (listing (read_by origin update set))

-- the indexes, in ascending order, of those updates that may have made a change, each of the zone that is told of it
pub record AreMakers (zone : UpdateOf → ZoneOf) (updates : List UpdateOf) (change : ChangeOf) (indexes : List ℕ) : Type 0 where
  pub ascending : IsStrictlyIncreasing indexes
  pub exact : (i : ℕ) → Contains indexes i ↔ ((update : UpdateOf) × (slice_get updates i ≡ Some update) × MayHaveMade (zone update) update change)

-- ---- of each change

-- Something holds of each change, the oldest first: of the records before it, of the change itself, and of a list that goes with it. The
-- set has the records after all changes.
abbrev pub EachHas : (Records → ChangeOf → List ℕ → Type 0) → List ChangeOf → Records → List (List ℕ) → Type 0
EachHas P [] set [] = Unit {0}
EachHas P [] set (is ∷ lists) = ⊥
EachHas P (c ∷ cs) set [] = ⊥
EachHas P (c ∷ cs) set (is ∷ lists) = P (before (c ∷ cs) set) c is × EachHas P cs set lists

-- the indexes of the updates that may have made each change, by the records that each reads
abbrev pub AreMakersByParts : List (List ℕ) → List UpdateOf → List ChangeOf → Records → List (List ℕ) → Type 0
AreMakersByParts origin updates = EachHas (λ set c is. AreMakers (zone_read origin set) updates c is)

-- the indexes of the updates that may have made each change of a zone
abbrev pub AreMakersOfZones : List (List ℕ) → List UpdateOf → List ChangeOf → Records → List (List ℕ) → Type 0
AreMakersOfZones origin updates =
    EachHas (λ set c is. let zone : ZoneOf = record { origin = origin; records = set } in IsZone zone → AreMakers (λ update. zone) updates c is)

-- ---- the laws

-- What an update reads of a zone tells whether it may have made a change of it.
abbrev pub MakersNeedTheirPart : Type 0
MakersNeedTheirPart =
    (zone : ZoneOf) (update : UpdateOf) (change : ChangeOf) → IsZone zone → IsUpdate update
    → MayHaveMade (zone_read zone.origin zone.records update) update change ↔ MayHaveMade zone update change

-- The update that made a change is among those that may have made it: if its prerequisites were met in the zone, and what it changed of it
-- was something, and if that and the changes after it led to the zone as it is.
abbrev pub MakersAreFound : Type 0
MakersAreFound =
    (zone : ZoneOf) (earlier later : List ChangeOf) (now : Records) (updates : List UpdateOf) (i : ℕ) (update : UpdateOf) (lists : List (List ℕ))
    → let change : ChangeOf = change_between zone.records (zone_after zone update).records in
    IsZone zone → ActsWithin zone.origin update → AreMet zone.records update.prerequisites → is_empty change ≡ false
    → Leads zone.records (change ∷ later) now → slice_get updates i ≡ Some update
    → AreMakersOfZones zone.origin updates (earlier ++ change ∷ later) now lists
    → (indexes : List ℕ) × (slice_get lists (length earlier) ≡ Some indexes) × Contains indexes i
