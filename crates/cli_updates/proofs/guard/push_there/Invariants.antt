use Rattle.std.proofs.Common.{◌≡◌, ◌++◌, map, take}
use Rattle.cli_updates.specs.Guards.{there}
use Rattle.cli_updates.proofs.guard.push_there.Given as goal

abbrev pub invariant-loop-record : goal.invariant-loop-record
invariant-loop-record l = l.guards.items ≡ l.fn.guards.items ++ map there (take l.record-index l.records)
