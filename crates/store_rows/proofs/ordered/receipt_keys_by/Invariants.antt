use Rattle.std.proofs.Common.{◌≡◌, map}
use Rattle.std.specs.List.{AllByRecursion}
use Rattle.store_rows.specs.Checks.{IsReceiptRow, row_key}
use Rattle.store_rows.proofs.ordered.receipt_keys_by.Given as goal

abbrev pub invariant-loop-row : goal.invariant-loop-row
invariant-loop-row l = record {
  keys : l.keys.items ≡ map row_key l.yielded;
  each : AllByRecursion IsReceiptRow l.yielded;
}
