use Rattle.std.proofs.Common.{◌≡◌, ◌++◌, take}
use Rattle.std.specs.List.{flat_map}
use Rattle.std.specs.Prelude.{string_bytes}
use Rattle.update_lines.specs.Texts.{operation_line}
use Rattle.update_lines.proofs.text.push_operations.Given as goal

abbrev pub invariant-loop-operation : goal.invariant-loop-operation
invariant-loop-operation l = string_bytes l.text ≡ string_bytes l.initial.text ++ flat_map operation_line (take l.operation-index l.operations)
