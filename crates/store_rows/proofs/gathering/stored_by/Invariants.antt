use Rattle.std.proofs.Common.{◌≡◌, Ok}
use Rattle.store_rows.specs.RowReading.{each_read, changed_in}
use Rattle.store_rows.proofs.gathering.stored_by.Given as goal

-- what the rows so far have
abbrev pub invariant-loop-row : goal.invariant-loop-row
invariant-loop-row l = each_read changed_in l.yielded ≡ Ok l.changed.items
