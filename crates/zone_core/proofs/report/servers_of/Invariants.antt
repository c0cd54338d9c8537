use Rattle.std.proofs.Common.{◌≡◌, take, map}
use Rattle.zone_core.specs.Delegations.{server_of}
use Rattle.zone_core.proofs.report.servers_of.Given as goal

abbrev pub invariant-loop-name : goal.invariant-loop-name
invariant-loop-name l = l.servers.items ≡ map (server_of l.records l.child) (take l.name-index l.names)
