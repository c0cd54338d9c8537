use Rattle.std.proofs.Common.{◌≡◌, ◌++◌, take}
use Rattle.std.specs.List.{flat_map}
use Rattle.zone_answers.specs.ChangeTests.{known_by}
use Rattle.zone_answers.proofs.known_names.push_known.Given as goal

abbrev pub invariant-loop-record : goal.invariant-loop-record
invariant-loop-record l = l.names.items ≡ l.fn.names.items ++ flat_map (known_by l.origin) (take l.record-index l.records)
