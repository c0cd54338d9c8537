use Rattle.std.proofs.Common.{◌≡◌, take}
use Rattle.zone_core.specs.Delegations.{servers_in}
use Rattle.zone_core.proofs.report.servers.Given as goal

abbrev pub invariant-loop-record : goal.invariant-loop-record
invariant-loop-record l = l.names.items ≡ servers_in (take l.record-index l.records)
