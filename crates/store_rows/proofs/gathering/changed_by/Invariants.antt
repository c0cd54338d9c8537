use Rattle.std.proofs.Common.{◌≡◌, map, take}
use Rattle.std.specs.List.{AllByRecursion}
use Rattle.store_rows.specs.ChangeRows.{row_of, IsChanged}
use Rattle.store_rows.proofs.gathering.changed_by.Given as goal

abbrev pub invariant-loop-row : goal.invariant-loop-row
invariant-loop-row l = record {
  rows : map row_of l.changed.items ≡ take l.row-index l.rows;
  each : AllByRecursion IsChanged l.changed.items;
}
