use Rattle.std.proofs.Common.{◌≡◌, ◌++◌}
use Rattle.std.specs.Vec.Iter.{into_iter_items}
use Rattle.office_model.specs.Tables.{included}
use Rattle.office_model.proofs.included_records.included.Given as goal

-- those so far, and then those of the records that are left
abbrev pub invariant-loop-record : goal.invariant-loop-record
invariant-loop-record l = record {
  same : l.grants ≡ l.fn.grants;
  all : l.all.items ++ included l.fn.grants (into_iter_items l.record-iterator) ≡ included l.fn.grants l.fn.records.items;
}
