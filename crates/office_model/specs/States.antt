-- The state of the office: its zones with their changes, and the receipts of what it answered.
use Rattle.std.specs.Prelude.{◌≡◌, ℕ, List, ◌&&◌, if◌then◌else◌, Option, Some, option_map, bytes_eq}
use Rattle.dns_names.specs.Order.{same_name}
use Rattle.dns_data.specs.declared.record.Record.{Record}
use Rattle.zone_core.specs.Sets.{Records, listing, part, within}
use Rattle.zone_core.specs.Zones.{ZoneOf, IsZone}
use Rattle.zone_core.specs.Updates.{IsUpdate}
use Rattle.zone_core.specs.Changes.{ChangeOf}
use Rattle.zone_core.specs.Parts.{part_of, at_names}
use Rattle.office_model.specs.declared.receipt.Receipt.{Receipt}

-- what is held of an origin: the records of its zone, and the changes of the zone, the oldest first
pub record Held : Type 0 where
  pub records : Records
  pub changes : List ChangeOf

-- what is held of each origin, and the receipt of each caller and identifier, where there is one
pub record State : Type 0 where
  pub zones : List (List ℕ) → Option Held
  pub receipts : List ℕ → List ℕ → Option Receipt

-- the zone that is held of an origin
abbrev pub zone_held : List (List ℕ) → Held → ZoneOf
zone_held origin held = record { origin = origin; records = held.records }

-- the zone of an origin, where there is one
abbrev pub zone_at : State → List (List ℕ) → Option ZoneOf
zone_at s origin = option_map (zone_held origin) (s.zones origin)

-- what is held of each origin is a zone
abbrev pub AreZones : State → Type 0
AreZones s = (origin : List (List ℕ)) (held : Held) → s.zones origin ≡ Some held → IsZone (zone_held origin held)

-- each receipt is of an update
abbrev pub AreReceipts : State → Type 0
AreReceipts s = (caller id : List ℕ) (receipt : Receipt) → s.receipts caller id ≡ Some receipt → IsUpdate receipt.update

-- ---- what is read of it

-- the part of a zone that has the records at its origin and at some names
abbrev pub part_at : State → List (List ℕ) → List (List (List ℕ)) → Option ZoneOf
part_at s origin names = option_map (λ zone. part_of zone (at_names origin names)) (zone_at s origin)

-- the records of a zone within a name, in record order
abbrev pub subtree_at : State → List (List ℕ) → List (List ℕ) → Option (List Record)
subtree_at s origin top = option_map (λ zone. listing (part zone.records (within top))) (zone_at s origin)

-- the changes of a zone, the oldest first
abbrev pub changes_at : State → List (List ℕ) → Option (List ChangeOf)
changes_at s origin = option_map (λ held. held.changes) (s.zones origin)

-- ---- a state with something else in it

-- another thing is held of an origin
abbrev pub hold : State → List (List ℕ) → Option Held → State
hold s origin held = record s { zones = λ o. if same_name o origin then held else s.zones o }

-- a receipt is kept
abbrev pub keep : State → List ℕ → List ℕ → Receipt → State
keep s caller id receipt = record s { receipts = λ c i. if bytes_eq c caller && bytes_eq i id then Some receipt else s.receipts c i }
