use Rattle.std.proofs.Common.{◌≡◌, ◌++◌, map, take}
use Rattle.zone_core.specs.Delegations.{server_addition}
use Rattle.zone_core.proofs.delegation.push_servers.Given as goal

abbrev pub invariant-loop-server : goal.invariant-loop-server
invariant-loop-server l = l.operations.items ≡ l.fn.operations.items ++ map (server_addition l.child l.ttl) (take l.server-index l.servers)
