use Rattle.std.proofs.Common.{◌≡◌, ◌++◌, map, take}
use Rattle.std.specs.List.{filter}
use Rattle.zone_core.specs.Sets.{key_of}
use Rattle.zone_tools.specs.Differences.{is_other, addition}
use Rattle.zone_tools.proofs.difference.push_others.Given as goal

abbrev pub invariant-loop-record : goal.invariant-loop-record
invariant-loop-record l = l.operations.items ≡ l.fn.operations.items ++ map addition (filter (λ r. is_other l.origin (key_of r)) (take l.record-index l.records))
