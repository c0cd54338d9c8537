use Rattle.std.proofs.Common.{◌≡◌, ◌++◌, map, take}
use Rattle.std.specs.List.{flat_map, zip}
use Rattle.cli_updates.specs.Octets.{bare_length, capped}
use Rattle.cli_updates.specs.Slots.{slots_view}
use Rattle.cli_updates.specs.Filling.{piece_view}
use Rattle.cli_updates.specs.Pieces.{operation_pieces}
use Rattle.cli_updates.proofs.pieces.push_operations.Given as goal

abbrev pub invariant-loop-place : goal.invariant-loop-place
invariant-loop-place l =
    map piece_view l.pieces.items
    ≡ map piece_view l.initial.pieces.items
    ++ flat_map (operation_pieces l.scale.id.now (capped (bare_length l.scale.id.now))) (take l.place (zip (slots_view l.slots) l.operations))
