use Rattle.std.proofs.Common.{◌≡◌, take, Ok}
use Rattle.store_rows.specs.RowReading.{each_read, record_in}
use Rattle.store_rows.proofs.reads.records_in.Given as goal

-- those of the rows so far
abbrev pub invariant-loop-row : goal.invariant-loop-row
invariant-loop-row l = each_read record_in (take l.row-index l.rows) ≡ Ok l.records.items
