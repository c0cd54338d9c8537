use Rattle.std.proofs.Common.{◌≡◌, ◌++◌, map, take}
use Rattle.cli_updates.specs.Slots.{slots_view}
use Rattle.cli_updates.specs.Filling.{piece_view}
use Rattle.cli_updates.specs.Pieces.{tests_piece}
use Rattle.cli_updates.proofs.pieces.push_tests.Given as goal

abbrev pub invariant-loop-slot : goal.invariant-loop-slot
invariant-loop-slot l =
    map piece_view l.pieces.items ≡ map piece_view l.initial.pieces.items ++ map (tests_piece l.scale.id.now) (slots_view (take l.slot-index l.slots))
