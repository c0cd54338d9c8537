use Rattle.std.proofs.Common.{◌≡◌, map, take}
use Rattle.std.specs.List.{AllByRecursion}
use Rattle.store_rows.specs.Checks.{row_of_record, IsZoneRecord}
use Rattle.store_rows.proofs.ordered.records_by.Given as goal

abbrev pub invariant-loop-row : goal.invariant-loop-row
invariant-loop-row l = record {
  rows : map row_of_record l.records.items ≡ take l.row-index l.rows;
  each : AllByRecursion IsZoneRecord l.records.items;
}
