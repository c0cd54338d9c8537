use Rattle.std.proofs.Common.{◌≡◌, map, take}
use Rattle.serde_json.specs.View.{view}
use Rattle.wire_json.specs.UpdateTexts.{operation_value}
use Rattle.wire_json.proofs.update_body.operation_values.Given as goal

-- the values of the operations so far
abbrev pub invariant-loop-operation : goal.invariant-loop-operation
invariant-loop-operation l = map view l.values.items ≡ map operation_value (take l.operation-index l.operations)
