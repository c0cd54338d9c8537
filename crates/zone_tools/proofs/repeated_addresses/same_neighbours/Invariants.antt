use Rattle.std.proofs.Common.{◌≡◌, ◌≤◌, take}
use Rattle.zone_tools.specs.SharedAddresses.{same_neighbours}
use Rattle.zone_tools.proofs.repeated_addresses.same_neighbours.Given as goal

abbrev pub invariant-loop-at : goal.invariant-loop-at
invariant-loop-at l = (1 ≤ l.at) × (l.same.items ≡ same_neighbours (take l.at l.records))
