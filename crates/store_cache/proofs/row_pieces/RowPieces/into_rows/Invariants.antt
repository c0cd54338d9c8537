use Rattle.std.proofs.Common.{◌≡◌}
use Rattle.store_cache.specs.RowPieces.{flat}
use Rattle.store_cache.proofs.row_pieces.RowPieces.into_rows.Given as goal

abbrev pub invariant-loop-piece : goal.invariant-loop-piece
invariant-loop-piece l = l.rows.items ≡ flat l.yielded
