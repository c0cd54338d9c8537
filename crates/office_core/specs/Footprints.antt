-- What the items of an update ask for: to do something with the records of a type at the item's own name. It depends on the
-- item and the zone's origin alone.
use Rattle.std.specs.Prelude.{◌≡◌, ◌≢◌, ◌⊎◌, ◌↔◌, ℕ, ◌<◌, suc, List, [], ◌∷◌, ◌++◌, Bool, true, false, not, if◌then◌else◌, Option, Some, None, option_map, slice_get}
use Rattle.std.specs.List.{Contains, AllPairs, filter_map}
use Rattle.dns_names.specs.Order.{same_name}
use Rattle.dns_data.specs.declared.record_type.RecordType.{RecordType}
use Rattle.dns_data.specs.declared.record_type.RecordType.TheVariants as types
use Rattle.dns_data.specs.Rdata.{type_of}
use Rattle.dns_data.specs.Types.{kept_types, type_number}
use Rattle.grant_policy.specs.declared.action.Action.{Action}
use Rattle.grant_policy.specs.declared.action.Action.TheVariants as action
use Rattle.grant_policy.specs.Rules.{same_type}
use Rattle.zone_core.specs.declared.update.Prerequisite.{Prerequisite}
use Rattle.zone_core.specs.declared.update.Prerequisite.TheVariants.{RrsetExists, RrsetEquals, RrsetAbsent, NameUsed, NameUnused}
use Rattle.zone_core.specs.declared.update.Operation.{Operation}
use Rattle.zone_core.specs.declared.update.Operation.TheVariants.{Add, DeleteRrset, DeleteName, DeleteRecord}
use Rattle.zone_core.specs.declared.update.ItemList.{ItemList}
use Rattle.zone_core.specs.declared.update.ItemList.TheVariants as lists
use Rattle.zone_core.specs.declared.update.Place.{Place}
use Rattle.zone_core.specs.Updates.{UpdateOf, tested_name, acted_name, place_in}

-- the records of a type at a name make a delegation: NS at another name than the origin, and DS (RFC 1034 section 4.2.1, RFC 4034 section
-- 5)
abbrev pub Delegates : List (List ℕ) → List (List ℕ) → RecordType → Type 0
Delegates origin name record_type = ((record_type ≡ types.Ns) × (name ≢ origin)) ⊎ (record_type ≡ types.Ds)

-- a change of records of a type at a name asks to delegate where they make a delegation, and else for the change itself
abbrev pub AsksChange : Action → List (List ℕ) → List (List ℕ) → RecordType → Action → Type 0
AsksChange change origin name record_type asked =
    (Delegates origin name record_type × (asked ≡ action.Delegate)) ⊎ ((¬ Delegates origin name record_type) × (asked ≡ change))

-- the records of a type are deleted with a name: but SOA, and at the origin NS and DS (RFC 2136 section 2.5.3)
pub record IsDeletedWith (origin name : List (List ℕ)) (record_type : RecordType) : Type 0 where
  pub not_soa : record_type ≢ types.Soa
  pub not_at_origin : name ≡ origin → (record_type ≢ types.Ns) × (record_type ≢ types.Ds)

-- what a prerequisite asks for: to check the type that it tests, and where it tests a name every type but SOA (RFC 2136 section 2.4)
abbrev pub PrerequisiteAsks : Prerequisite → RecordType → Action → Type 0
PrerequisiteAsks (RrsetExists name tested) record_type asked = (tested ≡ record_type) × (asked ≡ action.Check)
PrerequisiteAsks (RrsetEquals name rdata) record_type asked = (type_of rdata ≡ record_type) × (asked ≡ action.Check)
PrerequisiteAsks (RrsetAbsent name tested) record_type asked = (tested ≡ record_type) × (asked ≡ action.Check)
PrerequisiteAsks (NameUsed name) record_type asked = (record_type ≢ types.Soa) × (asked ≡ action.Check)
PrerequisiteAsks (NameUnused name) record_type asked = (record_type ≢ types.Soa) × (asked ≡ action.Check)

-- what an operation asks for in a zone of this origin: a change of each type that it changes (RFC 2136 section 2.5)
abbrev pub OperationAsks : List (List ℕ) → Operation → RecordType → Action → Type 0
OperationAsks origin (Add r) record_type asked =
    (type_of r.rdata ≡ record_type) × AsksChange action.Add origin r.owner record_type asked
OperationAsks origin (DeleteRrset name deleted) record_type asked =
    (deleted ≡ record_type) × AsksChange action.Delete origin name record_type asked
OperationAsks origin (DeleteName name) record_type asked =
    IsDeletedWith origin name record_type × AsksChange action.Delete origin name record_type asked
OperationAsks origin (DeleteRecord name rdata) record_type asked =
    (type_of rdata ≡ record_type) × AsksChange action.Delete origin name record_type asked

-- ---- whether it is so

-- whether a prerequisite tests the records of a type
abbrev pub tests_type : Prerequisite → RecordType → Bool
tests_type (RrsetExists name tested) record_type = same_type tested record_type
tests_type (RrsetEquals name rdata) record_type = same_type (type_of rdata) record_type
tests_type (RrsetAbsent name tested) record_type = same_type tested record_type
tests_type (NameUsed name) record_type = not (same_type record_type types.Soa)
tests_type (NameUnused name) record_type = not (same_type record_type types.Soa)

-- whether the records of a type are deleted with a name
abbrev pub is_deleted_with : List (List ℕ) → List (List ℕ) → RecordType → Bool
is_deleted_with origin name types.Soa = false
is_deleted_with origin name types.Ns = not (same_name name origin)
is_deleted_with origin name types.Ds = not (same_name name origin)
is_deleted_with origin name _ = true

-- whether an operation changes the records of a type
abbrev pub changes_type : List (List ℕ) → Operation → RecordType → Bool
changes_type origin (Add r) record_type = same_type (type_of r.rdata) record_type
changes_type origin (DeleteRrset name deleted) record_type = same_type deleted record_type
changes_type origin (DeleteName name) record_type = is_deleted_with origin name record_type
changes_type origin (DeleteRecord name rdata) record_type = same_type (type_of rdata) record_type

-- whether the records of a type at a name make a delegation
abbrev pub delegates : List (List ℕ) → List (List ℕ) → RecordType → Bool
delegates origin name types.Ns = not (same_name name origin)
delegates origin name types.Ds = true
delegates origin name _ = false

-- ---- the action, by type

-- how an operation changes records that make no delegation
abbrev pub change_of : Operation → Action
change_of (Add r) = action.Add
change_of (DeleteRrset name deleted) = action.Delete
change_of (DeleteName name) = action.Delete
change_of (DeleteRecord name rdata) = action.Delete

-- what a prerequisite asks to do with the records of a type
abbrev pub prerequisite_action : Prerequisite → RecordType → Option Action
prerequisite_action p record_type = if tests_type p record_type then Some action.Check else None

-- what an operation asks to do with the records of a type
abbrev pub operation_action : List (List ℕ) → Operation → RecordType → Option Action
operation_action origin op record_type =
    if changes_type origin op record_type then (if delegates origin (acted_name op) record_type then Some action.Delegate else Some (change_of op)) else None

-- ---- points

-- an item asks to do something with the records of a type at a name
pub record Point : Type 0 where
  pub place : Place
  pub name : List (List ℕ)
  pub record_type : RecordType
  pub action : Action

-- the point of a type, where the item asks for one
abbrev pub point_of : Place → List (List ℕ) → (RecordType → Option Action) → RecordType → Option Point
point_of place name asks record_type =
    option_map (λ a. record { place = place; name = name; record_type = record_type; action = a }) (asks record_type)

-- those of some types, in their order
abbrev pub points_at : Place → List (List ℕ) → (RecordType → Option Action) → List RecordType → List Point
points_at place name asks record_types = filter_map (point_of place name asks) record_types

-- those of an item, by type number
unfoldable pub item_points : Place → List (List ℕ) → (RecordType → Option Action) → List Point
item_points place name asks = points_at place name asks kept_types

-- those of the items of a list from this number on, item by item
abbrev pub points_from : {A : Type 0} → (A → List (List ℕ)) → (A → RecordType → Option Action) → ItemList → ℕ → List A → List Point
points_from name asks list i [] = []
points_from name asks list i (x ∷ xs) = item_points (place_in list i) (name x) (asks x) ++ points_from name asks list (suc i) xs

-- those of an update of a zone of this origin: of its prerequisites, and then of its operations
abbrev pub footprint : List (List ℕ) → UpdateOf → List Point
footprint origin update =
    points_from tested_name prerequisite_action lists.Prerequisites 0 update.prerequisites
    ++ points_from acted_name (operation_action origin) lists.Operations 0 update.operations

-- ---- which points, and in which order

-- an item of a list of an update asks for a point: at its name, the action with the type
abbrev pub AsksIn : ItemList → List (List ℕ) → UpdateOf → Point → Type 0
AsksIn lists.Prerequisites origin update point =
    (p : Prerequisite) × (slice_get update.prerequisites point.place.item ≡ Some p) × (point.name ≡ tested_name p) × PrerequisiteAsks p point.record_type point.action
AsksIn lists.Operations origin update point =
    (op : Operation) × (slice_get update.operations point.place.item ≡ Some op) × (point.name ≡ acted_name op) × OperationAsks origin op point.record_type point.action

-- prerequisites before operations
abbrev pub list_number : ItemList → ℕ
list_number lists.Prerequisites = 0
list_number lists.Operations = 1

-- a point comes before another: by its list, by its item there, or of one item by its type's number
abbrev pub IsBefore : Point → Point → Type 0
IsBefore p q =
    (list_number p.place.list < list_number q.place.list)
    ⊎ ((p.place.list ≡ q.place.list)
    × ((p.place.item < q.place.item) ⊎ ((p.place.item ≡ q.place.item) × (type_number p.record_type < type_number q.record_type))))

-- the footprint of an update has exactly the points that its items ask for
abbrev pub FootprintsAreAsked : Type 0
FootprintsAreAsked =
    (origin : List (List ℕ)) (update : UpdateOf) (point : Point) → Contains (footprint origin update) point ↔ AsksIn point.place.list origin update point

-- it has them in order, and none twice
abbrev pub FootprintsAreInOrder : Type 0
FootprintsAreInOrder = (origin : List (List ℕ)) (update : UpdateOf) → AllPairs IsBefore (footprint origin update)
