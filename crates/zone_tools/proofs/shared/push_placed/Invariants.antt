use Rattle.std.proofs.Common.{◌≡◌, ◌++◌, take}
use Rattle.std.specs.List.{filter}
use Rattle.zone_tools.specs.SharedAddresses.{has_place}
use Rattle.zone_tools.proofs.shared.push_placed.Given as goal

abbrev pub invariant-loop-record : goal.invariant-loop-record
invariant-loop-record l = l.placed.items ≡ l.fn.placed.items ++ filter (has_place l.origin) (take l.record-index l.records)
