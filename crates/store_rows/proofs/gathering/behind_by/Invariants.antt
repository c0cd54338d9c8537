use Rattle.std.proofs.Common.{◌≡◌, take, Ok}
use Rattle.store_rows.specs.RowReading.{each_read, changed_behind}
use Rattle.store_rows.proofs.gathering.behind_by.Given as goal

-- what the rows so far have
abbrev pub invariant-loop-row : goal.invariant-loop-row
invariant-loop-row l = each_read (changed_behind l.count) (take l.row-index l.rows) ≡ Ok l.changed.items
