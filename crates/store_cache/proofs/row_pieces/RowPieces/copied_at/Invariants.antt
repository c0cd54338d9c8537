use Rattle.std.proofs.Common.{◌≡◌}
use Rattle.std.specs.List.{flat_map}
use Rattle.store_cache.proofs.row_pieces.RowPieces.copied_at.Given as goal

-- those of the parts so far
abbrev pub invariant-loop-rows : goal.invariant-loop-rows
invariant-loop-rows l = l.found.items ≡ flat_map (λ part. part.now) l.yielded
