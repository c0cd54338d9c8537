use Rattle.std.proofs.Common.{◌≡◌, map, take}
use Rattle.cli_updates.specs.Filling.{lent_operations}
use Rattle.cli_updates.specs.Split.{advanced}
use Rattle.cli_updates.proofs.split.advanced_all.Given as goal

abbrev pub invariant-loop-operation : goal.invariant-loop-operation
invariant-loop-operation l = l.all.items ≡ map (advanced l.by) (lent_operations (take l.operation-index l.operations))
