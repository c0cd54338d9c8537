use Rattle.std.proofs.Common.{◌≡◌, ◌++◌, take}
use Rattle.office_model.specs.Tables.{included}
use Rattle.office_model.proofs.included_records.with_included.Given as goal

-- those before, and then those of the records so far
abbrev pub invariant-loop-record : goal.invariant-loop-record
invariant-loop-record l = record {
  same : l.grants ≡ l.fn.grants;
  all : l.all.items ≡ l.fn.all.items ++ included l.fn.grants (take l.record-index l.records);
}
