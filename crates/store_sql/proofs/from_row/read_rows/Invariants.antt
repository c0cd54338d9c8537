use Rattle.std.proofs.Common.{◌≡◌, map}
use Rattle.std.specs.List.{AllByRecursion}
use Rattle.store_sql.specs.Stores.{IsReadableRow}
use Rattle.store_sql.proofs.from_row.read_rows.Given as goal

abbrev pub invariant-loop-row : goal.invariant-loop-row
invariant-loop-row g l = record {
  same : l.yielded ≡ map g.T.FromRow.stored l.values.items;
  readable : AllByRecursion IsReadableRow l.yielded;
}
