use Rattle.std.proofs.Common.{◌≡◌, take}
use Rattle.std.specs.List.{filter}
use Rattle.zone_tools.specs.SharedAddresses.{is_host_address}
use Rattle.zone_tools.proofs.repeated_addresses.host_addresses.Given as goal

abbrev pub invariant-loop-record : goal.invariant-loop-record
invariant-loop-record l = l.hosts.items ≡ filter is_host_address (take l.record-index l.records)
