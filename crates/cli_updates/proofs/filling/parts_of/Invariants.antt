use Rattle.std.proofs.Common.{◌≡◌, ◌++◌, map, drop}
use Rattle.cli_updates.specs.Filling.{filled, parts_of, piece_view, part_view}
use Rattle.cli_updates.proofs.filling.parts_of.Given as goal

abbrev pub invariant-loop-piece : goal.invariant-loop-piece
invariant-loop-piece l =
    map part_view l.parts.items ++ filled l.frame l.part.octets (part_view l.part) (map piece_view (drop l.piece-index l.pieces))
    ≡ parts_of l.frame (map piece_view l.pieces)
