use Rattle.std.proofs.Common.{◌≡◌, drop}
use Rattle.store_cache.specs.RowPieces.{flat, ArePieces, put_back}
use Rattle.store_cache.proofs.row_pieces.with_all.Given as goal

-- those from `at` on are put
abbrev pub invariant-loop-at : goal.invariant-loop-at
invariant-loop-at l = ArePieces l.pieces.items × (flat l.pieces.items ≡ put_back (drop l.at l.records) (flat l.initial.pieces.items))
