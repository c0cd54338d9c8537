use Rattle.std.proofs.Common.{◌≡◌, ◌++◌, ◌<◌, length, reverse}
use Rattle.std.specs.List.{AllByRecursion}
use Rattle.store_cache.specs.RowPieces.{flat}
use Rattle.store_cache.proofs.row_pieces.RowPieces.of_rows.Given as goal

-- what is left of the rows, and the pieces, the last one first
abbrev pub invariant-loop-rows : goal.invariant-loop-rows
invariant-loop-rows l = (l.rows.items ++ flat (reverse l.pieces.items) ≡ l.initial.rows.items) × AllByRecursion (λ v. 0 < length v.items) (reverse l.pieces.items)

abbrev pub decreases-loop-rows : goal.decreases-loop-rows
decreases-loop-rows l = length l.rows.items
