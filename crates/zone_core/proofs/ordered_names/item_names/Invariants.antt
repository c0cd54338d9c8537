use Rattle.std.proofs.Common.{◌≡◌, ◌++◌, map, take}
use Rattle.zone_core.specs.Updates.{tested_name, acted_name}
use Rattle.zone_core.proofs.ordered_names.item_names.Given as goal

abbrev pub invariant-loop-prerequisite : goal.invariant-loop-prerequisite
invariant-loop-prerequisite l = l.names.items ≡ map tested_name (take l.prerequisite-index l.prerequisite-items)

abbrev pub invariant-loop-operation : goal.invariant-loop-operation
invariant-loop-operation l = l.names.items ≡ map tested_name l.update.prerequisites ++ map acted_name (take l.operation-index l.operation-items)
