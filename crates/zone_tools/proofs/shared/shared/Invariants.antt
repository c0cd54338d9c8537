use Rattle.std.proofs.Common.{◌≡◌, take}
use Rattle.std.specs.List.{filter}
use Rattle.zone_tools.specs.SharedAddresses.{is_shared}
use Rattle.zone_tools.proofs.shared.shared.Given as goal

abbrev pub invariant-loop-record : goal.invariant-loop-record
invariant-loop-record l = l.shared.items ≡ filter (is_shared l.records) (take l.record-index l.records)
