use Rattle.std.proofs.Common.{◌≡◌, ◌++◌, take}
use Rattle.store_cache.proofs.row_pieces.with_copies.Given as goal

abbrev pub invariant-loop-record : goal.invariant-loop-record
invariant-loop-record l = l.rows.items ≡ l.fn.rows.items ++ take l.record-index l.records
