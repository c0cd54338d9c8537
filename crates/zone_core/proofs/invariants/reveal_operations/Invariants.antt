use Rattle.std.proofs.Common.{take}
use Rattle.std.specs.List.{AllByRecursion}
use Rattle.zone_core.specs.Updates.{IsOperation}
use Rattle.zone_core.proofs.invariants.reveal_operations.Given as goal

abbrev pub invariant-loop-operation : goal.invariant-loop-operation
invariant-loop-operation l = AllByRecursion IsOperation (take l.operation-index l.operations)
