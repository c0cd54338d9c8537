use Rattle.std.proofs.Common.{◌≡◌, take}
use Rattle.std.specs.List.{filter, flat_map}
use Rattle.store_cache.specs.RowPieces.{flat}
use Rattle.store_cache.proofs.OwnerLemmas.{is_meant}
use Rattle.store_cache.proofs.row_pieces.RowPieces.parts_of.Given as goal

-- the rows of the pieces so far
abbrev pub invariant-loop-piece : goal.invariant-loop-piece
invariant-loop-piece l = flat_map (λ part. part.now) l.parts.items ≡ filter (is_meant l.owners) (flat (take l.piece-index l.piece-items))
