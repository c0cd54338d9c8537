-- How parts of an update are filled: each as far as its limits go.
use Rattle.std.specs.Prelude.{ℕ, ◌+◌, List, [], ◌∷◌, map, length, Bool, ◌&&◌, ◌||◌, ◌==◌, nat_le, if◌then◌else◌, Option, Some, None}
use Rattle.std.specs.Borrow.{Bor}
use Rattle.zone_core.specs.declared.update.Operation.{Operation}
use Rattle.zone_core.specs.Updates.{UpdateOf}
use Rattle.update_lines.specs.Reading.{behind, no_items}
use Rattle.cli_updates.specs.declared.filling.Piece.{Piece}
use Rattle.cli_updates.specs.declared.filling.Part.{Part}
use Rattle.cli_updates.specs.Octets.{sum_up}
use Rattle.cli_updates.specs.Slots.{lent}

-- items that stay together, and how many octets they are counted as
pub record PieceOf : Type 0 where
  pub items : UpdateOf
  pub octets : ℕ

abbrev pub is_bare : UpdateOf → Bool
is_bare u = (length u.prerequisites == 0) && (length u.operations == 0)

-- Whether items of so many octets have room for others: at most 64 prerequisites and 256 operations, and 65,504 octets, so that 32 of a
-- body's are left for its identifier, its serial and its line end.
abbrev pub has_room : ℕ → UpdateOf → PieceOf → Bool
has_room n u p =
    nat_le (n + p.octets) 65504
    && (nat_le (length u.prerequisites + length p.items.prerequisites) 64 && nat_le (length u.operations + length p.items.operations) 256)

-- whether others go after items: where there is room, or nothing on one side
abbrev pub takes : ℕ → UpdateOf → PieceOf → Bool
takes n u p = is_bare u || (is_bare p.items || has_room n u p)

-- the parts of items of so many octets and those after them, where a part without items has as many as the frame
abbrev pub filled : ℕ → ℕ → UpdateOf → List PieceOf → List UpdateOf
filled frame n u [] = u ∷ []
filled frame n u (p ∷ ps) =
    if takes n u p then filled frame (sum_up n p.octets) (behind u p.items) ps
    else u ∷ filled frame (sum_up frame p.octets) p.items ps

-- the parts of pieces
abbrev pub parts_of : ℕ → List PieceOf → List UpdateOf
parts_of frame pieces = filled frame frame no_items pieces

-- ---- how they are kept

-- an operation that is lent, where there is one
abbrev pub lent_if : Option (Bor Operation) → List Operation
lent_if None = []
lent_if (Some op) = op.now ∷ []

abbrev pub piece_view : Piece → PieceOf
piece_view p = record { items = record { prerequisites = lent p.tests.now; operations = lent_if p.operation }; octets = p.octets }

abbrev pub lent_operations : List (Bor Operation) → List Operation
lent_operations operations = map (λ op. op.now) operations

abbrev pub part_view : Part → UpdateOf
part_view p = record { prerequisites = lent p.tests.items; operations = lent_operations p.operations.items }
