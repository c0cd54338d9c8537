-- What a table in memory holds.
use Rattle.std.specs.Prelude.{◌≡◌, ℕ, ◌<◌, List, [], ◌∷◌, ◌++◌, slice_index_or, slice_set, vec_len, vec_capacity, map, Bool, Option, None, option_map, option_and_then, refl}
use Rattle.std.specs.Coded.{Coded, code_by, coded×, coded_ℕ, coded_list}
use Rattle.std.specs.List.{AllByRecursion, find}
use Rattle.std.specs.Map.{lookup}
use Rattle.std.specs.BTreeMap.{BTreeMap, get, is_at}
use Rattle.std.specs.Cmp.Lexicographic.{slice_cmp}
use Rattle.std.specs.Ordering.{nat_cmp}
use Rattle.dns_names.specs.Order.{same_name}
use Rattle.zone_core.specs.Zones.{ZoneOf, IsZone}
use Rattle.zone_core.specs.declared.change.Change.{Change}
use Rattle.zone_core.specs.Changes.{change_in}
use Rattle.office_model.specs.declared.receipt.Receipt.{Receipt}
use Rattle.office_model.specs.contracts.receipt.Receipt as of_receipt
use Rattle.office_model.specs.States.{Held, State, AreZones, AreReceipts}
use Rattle.office_core.specs.declared.memory.HeldZone.{HeldZone}
use Rattle.office_core.specs.contracts.memory.HeldZone as of_held

-- ---- zones

-- the first zone of an origin
abbrev pub zone_among : List ZoneOf → List (List ℕ) → Option ZoneOf
zone_among zones origin = find (λ zone. same_name zone.origin origin) zones

-- a zone of which no change is known
abbrev pub without_changes : ZoneOf → Held
without_changes zone = record { records = zone.records; changes = [] }

-- the state of some zones of which nothing was changed and nothing answered
abbrev pub state_of : List ZoneOf → State
state_of zones = record { zones = λ origin. option_map without_changes (zone_among zones origin); receipts = λ caller id. None }

-- ---- what is in the table

-- its zones with their changes; and the receipts of each caller, each under its identifier
pub record MemoryOf : Type 0 where
  pub zones : List HeldZone
  pub receipts : List (List ℕ × List (List ℕ × Receipt))

-- such a table is stored as its parts
abbrev pub memory_code : Coded MemoryOf
memory_code =
    code_by (List HeldZone × List (List ℕ × List (List ℕ × Receipt)))
    (coded× (coded_list of_held.the_row.coded) (coded_list (coded× (coded_list coded_ℕ) (coded_list (coded× (coded_list coded_ℕ) of_receipt.the_row.coded)))))
    (λ m. (m.zones, m.receipts)) (λ p. record { zones = p.0; receipts = p.1 }) (λ _. refl)

-- whether a zone is that of an origin
abbrev pub is_of : List (List ℕ) → HeldZone → Bool
is_of origin held = same_name held.zone.origin origin

-- what is held of a zone
abbrev pub held_of : HeldZone → Held
held_of held = record { records = held.zone.records; changes = map change_in held.changes.items }

-- what is held of an origin: that of the first zone which has it
abbrev pub held_among : List HeldZone → List (List ℕ) → Option Held
held_among zones origin = option_map held_of (find (is_of origin) zones)

-- the receipt of a caller under an identifier
abbrev pub receipt_among : List (List ℕ × List (List ℕ × Receipt)) → List ℕ → List ℕ → Option Receipt
receipt_among receipts caller id = option_and_then (lookup (is_at (slice_cmp nat_cmp id))) (lookup (is_at (slice_cmp nat_cmp caller)) receipts)

-- the state that is found in it
abbrev pub state_in : MemoryOf → State
state_in m = record { zones = held_among m.zones; receipts = receipt_among m.receipts }

-- each zone is one
abbrev pub EachIsZone : List HeldZone → Type 0
EachIsZone zones = AllByRecursion (λ held. IsZone held.zone) zones

-- what holds of every such table: it has zones, and receipts of updates
pub record IsMemory (m : MemoryOf) : Type 0 where
  pub zones : EachIsZone m.zones
  pub receipts : AreReceipts (state_in m)

-- The table holds a state: what is found of each origin, and under each caller and identifier, is what the state has.
pub record HoldsState (m : MemoryOf) (s : State) : Type 0 where
  pub zones : (origin : List (List ℕ)) → s.zones origin ≡ held_among m.zones origin
  pub receipts : (caller id : List ℕ) → s.receipts caller id ≡ receipt_among m.receipts caller id
  pub are_zones : AreZones s
  pub are_receipts : AreReceipts s

-- ---- how it is kept

-- the maps in which it keeps receipts
abbrev pub Receipts : Type 0
Receipts = BTreeMap (List ℕ) (BTreeMap (List ℕ) Receipt)

-- their entries
abbrev pub receipt_rows : Receipts → List (List ℕ × List (List ℕ × Receipt))
receipt_rows receipts = map (λ e. (e.0, e.1.entries)) receipts.entries

-- what is found in them
abbrev pub receipt_in : Receipts → List ℕ → List ℕ → Option Receipt
receipt_in receipts caller id = option_and_then (λ own. get (slice_cmp nat_cmp) own id) (get (slice_cmp nat_cmp) receipts caller)

-- one of some zones is another thing than it was
pub record IsPutAt (zones after : List HeldZone) (at : ℕ) (Becomes : HeldZone → HeldZone → Type 0) : Type 0 where
  pub held : HeldZone
  pub put : after ≡ slice_set zones at held
  pub becomes : Becomes (slice_index_or zones at held) held

-- the same is held, whatever room there is
abbrev pub HoldsSame : HeldZone → HeldZone → Type 0
HoldsSame before after = (after.zone ≡ before.zone) × (after.changes.items ≡ before.changes.items)

-- another zone is held, and one more change
abbrev pub HoldsChange : ZoneOf → Change → HeldZone → HeldZone → Type 0
HoldsChange zone change before after = (after.zone ≡ zone) × (after.changes.items ≡ before.changes.items ++ change ∷ [])

-- one of some zones has room for one more change
abbrev pub HasRoomAt : List HeldZone → ℕ → Type 0
HasRoomAt zones at = (d : HeldZone) → vec_len (slice_index_or zones at d).changes < vec_capacity (slice_index_or zones at d).changes
