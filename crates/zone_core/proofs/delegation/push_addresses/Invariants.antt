use Rattle.std.proofs.Common.{◌≡◌, ◌++◌, map, take}
use Rattle.zone_core.specs.Delegations.{address_addition}
use Rattle.zone_core.proofs.delegation.push_addresses.Given as goal

abbrev pub invariant-loop-address : goal.invariant-loop-address
invariant-loop-address l = l.operations.items ≡ l.fn.operations.items ++ map (address_addition l.name l.ttl) (take l.address-index l.addresses)
