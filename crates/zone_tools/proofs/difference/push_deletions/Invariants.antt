use Rattle.std.proofs.Common.{◌≡◌, ◌++◌, map, take}
use Rattle.std.specs.List.{filter}
use Rattle.zone_core.specs.Sets.{key_of, set_of}
use Rattle.zone_tools.specs.Differences.{is_gone, deletion}
use Rattle.zone_tools.proofs.difference.push_deletions.Given as goal

abbrev pub invariant-loop-record : goal.invariant-loop-record
invariant-loop-record l = l.operations.items ≡ l.fn.operations.items ++ map deletion (filter (λ r. is_gone (set_of l.new) (key_of r)) (take l.record-index l.records))
