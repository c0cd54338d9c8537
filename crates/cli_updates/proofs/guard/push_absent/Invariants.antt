use Rattle.std.proofs.Common.{◌≡◌, ◌++◌, map, take}
use Rattle.cli_updates.specs.Guards.{absent}
use Rattle.cli_updates.proofs.guard.push_absent.Given as goal

abbrev pub invariant-loop-record_type : goal.invariant-loop-record_type
invariant-loop-record_type l = l.guards.items ≡ l.fn.guards.items ++ map (absent l.name) (take l.record_type-index l.types)
