use Rattle.std.proofs.Common.{◌≡◌, ◌++◌, take, map}
use Rattle.zone_answers.specs.Answers.{answered_as}
use Rattle.zone_answers.proofs.rows.push_all_as.Given as goal

abbrev pub invariant-loop-record : goal.invariant-loop-record
invariant-loop-record l = l.rows.items ≡ l.fn.rows.items ++ map (answered_as l.owner) (take l.record-index l.records)
