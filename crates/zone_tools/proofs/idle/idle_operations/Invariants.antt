use Rattle.std.proofs.Common.{◌≡◌, ◌++◌, drop}
use Rattle.zone_tools.specs.IdleOperations.{idle_from, idle_operations}
use Rattle.zone_tools.proofs.idle.idle_operations.Given as goal

abbrev pub invariant-loop-i : goal.invariant-loop-i
invariant-loop-i l = l.found.items ++ idle_from l.zone l.update l.i (drop l.i l.operations) ≡ idle_operations l.zone l.update
