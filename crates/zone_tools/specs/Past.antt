-- How the records of a zone before some of its changes are held, and the updates by the names that they act at.
use Rattle.std.specs.Prelude.{◌≡◌, ℕ, ◌+◌, List, [], ◌∷◌, ◌++◌, map, Bool, not, Option, Some, None, option_and_then, false, if◌then◌else◌, Vec}
use Rattle.std.specs.List.{list_any, find}
use Rattle.std.specs.Option.{option_map_or}
use Rattle.std.specs.FinMap.{entries, from_entries}
use Rattle.std.specs.BTreeMap.{BTreeMap}
use Rattle.std.specs.BTreeMap as tree
use Rattle.dns_names.specs.Order.{canonical_cmp, same_name}
use Rattle.dns_data.specs.declared.record.Record.{Record}
use Rattle.zone_core.specs.declared.update.Operation.{Operation}
use Rattle.zone_core.specs.declared.update.Operation.TheVariants.{Add}
use Rattle.zone_core.specs.Sets.{Records, Key, key_of, same_key, keyed, part, at_name}
use Rattle.zone_core.specs.Zones.{AreKept}
use Rattle.zone_core.specs.Updates.{UpdateOf, acted_name}
use Rattle.zone_core.specs.Changes.{ChangeOf}
use Rattle.zone_tools.specs.History.{has_key}

-- ---- records by their owners

-- under each name its records, each under its key
abbrev pub Past : Type 0
Past = BTreeMap (List (List ℕ)) (BTreeMap Key Record)

-- the records at a name, with their keys
abbrev pub entries_at : Past → List (List ℕ) → List (Key × Record)
entries_at past name = option_map_or (λ node. node.entries) (tree.get canonical_cmp past name) []

-- the records at a name
abbrev pub rows_at : Past → List (List ℕ) → List Record
rows_at past name = map (λ e. e.1) (entries_at past name)

-- What is held is a set of records: at each name there are those of the set at that name.
pub record IsPast (past : Past) (set : Records) : Type 0 where
  pub kept : AreKept set
  pub nodes : (name : List (List ℕ)) → entries_at past name ≡ entries (part set (at_name name))

-- a set with some records, in the place of those with the same keys
abbrev pub with_all : Records → List Record → Records
with_all set rs = from_entries (keyed rs ++ entries set)

-- ---- updates by the names that they act at

-- whether one of some operations acts at a name
abbrev pub acts_at : List (List ℕ) → List Operation → Bool
acts_at name ops = list_any (λ op. same_name name (acted_name op)) ops

-- the indexes of the updates that act at a name, counted from a number on
abbrev pub actors_from : List (List ℕ) → ℕ → List UpdateOf → List ℕ
actors_from name n [] = []
actors_from name n (update ∷ updates) =
    if acts_at name update.operations then n ∷ actors_from name (n + 1) updates else actors_from name (n + 1) updates

-- the indexes that are held under a name
abbrev pub actors_at : {A : Type 0} → BTreeMap (List (List ℕ)) (Vec ℕ A) → List (List ℕ) → List ℕ
actors_at actors name = option_map_or (λ indexes. indexes.items) (tree.get canonical_cmp actors name) []

-- the first of some records that is not at the origin
abbrev pub elsewhere : List (List ℕ) → List Record → Option Record
elsewhere origin rs = find (λ r. not (same_name r.owner origin)) rs

-- a name at which each update acts that may have made a change: of a record that is not at the origin, if the change has one
abbrev pub touched_name : List (List ℕ) → ChangeOf → List (List ℕ)
touched_name origin change =
    option_map_or (λ r. r.owner) (elsewhere origin change.removed) (option_map_or (λ r. r.owner) (elsewhere origin change.added) origin)

-- ---- what a change calls for

-- the first record that comes elsewhere than at the origin, if it is new: none goes that is the same
abbrev pub new_record : List (List ℕ) → ChangeOf → Option Record
new_record origin change = option_and_then (λ r. if has_key change.removed (key_of r) then None else Some r) (elsewhere origin change.added)

-- whether an operation adds a record that is the same
abbrev pub adds_key : Key → Operation → Bool
adds_key k (Add r) = same_key (key_of r) k
adds_key k op = false

-- whether no operation adds a record that comes, if there is one
abbrev pub lacks : Option Record → List Operation → Bool
lacks None ops = false
lacks (Some r) ops = not (list_any (adds_key (key_of r)) ops)
