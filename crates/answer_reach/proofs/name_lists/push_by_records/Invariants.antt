use Rattle.std.proofs.Common.{◌≡◌, ◌++◌, take}
use Rattle.std.specs.List.{flat_map}
use Rattle.answer_reach.specs.ReachTests.{named_by}
use Rattle.answer_reach.proofs.name_lists.push_by_records.Given as goal

abbrev pub invariant-loop-record : goal.invariant-loop-record
invariant-loop-record l = l.names.items ≡ l.fn.names.items ++ flat_map (named_by l.origin) (take l.record-index l.records)
