use Rattle.std.proofs.Common.{◌≡◌, drop}
use Rattle.store_cache.specs.RowPieces.{flat, ArePieces, removed}
use Rattle.store_cache.proofs.row_pieces.remove_all.Given as goal

-- those from here on are left to go
abbrev pub invariant-loop-record : goal.invariant-loop-record
invariant-loop-record l = ArePieces l.pieces.items × (removed (drop l.record-index l.records) (flat l.pieces.items) ≡ removed l.records (flat l.initial.pieces.items))
