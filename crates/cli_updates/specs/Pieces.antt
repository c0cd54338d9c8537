-- The pieces of which parts of an update are made: prerequisites at one name, and operations, each with the prerequisites that go with it.
use Rattle.std.specs.Prelude.{ℕ, List, [], ◌∷◌, ◌++◌, map, length, if◌then◌else◌}
use Rattle.std.specs.List.{flat_map, zip}
use Rattle.zone_core.specs.declared.update.Prerequisite.{Prerequisite}
use Rattle.zone_core.specs.declared.update.Operation.{Operation}
use Rattle.zone_core.specs.Updates.{UpdateOf}
use Rattle.update_lines.specs.Reading.{no_items}
use Rattle.cli_updates.specs.Octets.{bare_length, capped, one_operation, operation_octets, sum_up, tests_octets}
use Rattle.cli_updates.specs.Slots.{acted_place, in_places, tested_place, unplaced}
use Rattle.cli_updates.specs.Filling.{PieceOf, has_room, parts_of}

-- prerequisites of one name
abbrev pub tests_piece : List ℕ → List Prerequisite → PieceOf
tests_piece id tests = record { items = record { prerequisites = tests; operations = [] }; octets = tests_octets id tests }

abbrev pub operation_piece : List ℕ → Operation → PieceOf
operation_piece id op = record { items = one_operation op; octets = operation_octets id op }

abbrev pub guarded_piece : List ℕ → List Prerequisite → Operation → PieceOf
guarded_piece id tests op =
    record { items = record { prerequisites = tests; operations = op ∷ [] }; octets = sum_up (tests_octets id tests) (operation_octets id op) }

-- the prerequisites at the name of an operation, and the operation: together, if a part has room for both
abbrev pub operation_pieces : List ℕ → ℕ → List Prerequisite × Operation → List PieceOf
operation_pieces id frame p =
    if has_room frame no_items (guarded_piece id p.0 p.1) then guarded_piece id p.0 p.1 ∷ []
    else tests_piece id p.0 ∷ operation_piece id p.1 ∷ []

-- the prerequisites that go before all operations, by their names; and then each operation, after those at its name if it is the first
abbrev pub pieces_of : List ℕ → ℕ → List Prerequisite → List Operation → List PieceOf
pieces_of id frame tests operations =
    let first = unplaced operations tests in
    map (tests_piece id) (in_places (tested_place first) first (length first))
    ++ flat_map (operation_pieces id frame) (zip (in_places (acted_place operations) tests (length operations)) operations)

-- the parts of prerequisites and operations
abbrev pub split_of : List ℕ → List Prerequisite → List Operation → List UpdateOf
split_of id tests operations = let frame = capped (bare_length id) in parts_of frame (pieces_of id frame tests operations)
