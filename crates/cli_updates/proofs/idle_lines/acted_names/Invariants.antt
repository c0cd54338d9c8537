use Rattle.std.proofs.Common.{◌≡◌, map, take}
use Rattle.zone_core.specs.Updates.{acted_name}
use Rattle.cli_updates.proofs.idle_lines.acted_names.Given as goal

abbrev pub invariant-loop-operation : goal.invariant-loop-operation
invariant-loop-operation l = l.names.items ≡ map acted_name (take l.operation-index l.operations)
