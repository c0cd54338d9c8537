use Rattle.std.proofs.Common.{◌≡◌, ◌++◌, take}
use Rattle.zone_answers.proofs.rows.push_all.Given as goal

abbrev pub invariant-loop-record : goal.invariant-loop-record
invariant-loop-record l = l.rows.items ≡ l.fn.rows.items ++ take l.record-index l.records
