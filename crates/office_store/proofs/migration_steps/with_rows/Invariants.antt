use Rattle.std.proofs.Common.{◌≡◌, ◌++◌, map, take}
use Rattle.store_rows.specs.RecordRows.{record_row}
use Rattle.office_store.proofs.migration_steps.with_rows.Given as goal

abbrev pub invariant-loop-rr : goal.invariant-loop-rr
invariant-loop-rr l = l.rows.items ≡ l.initial.rows.items ++ map (record_row l.origin) (take l.rr-index l.records)
