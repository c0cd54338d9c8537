use Rattle.std.proofs.Common.{◌≡◌, take}
use Rattle.zone_tools.proofs.idle.copied.Given as goal

abbrev pub invariant-loop-operation : goal.invariant-loop-operation
invariant-loop-operation l = l.copies.items ≡ take l.operation-index l.operations
