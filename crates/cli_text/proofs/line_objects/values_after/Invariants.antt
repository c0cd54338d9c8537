use Rattle.std.proofs.Common.{◌≡◌, take}
use Rattle.std.specs.List.{flat_map}
use Rattle.cli_text.specs.LineObjects.{each_after, line_value}
use Rattle.cli_text.proofs.line_objects.values_after.Given as goal

abbrev pub invariant-loop-line : goal.invariant-loop-line
invariant-loop-line l = l.values.items ≡ flat_map (λ line. each_after 44 (line_value l.kind line.now)) (take l.line-index l.lines)
