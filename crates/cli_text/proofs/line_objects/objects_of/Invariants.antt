use Rattle.std.proofs.Common.{◌≡◌, take}
use Rattle.std.specs.List.{flat_map}
use Rattle.cli_text.specs.LineObjects.{line_object}
use Rattle.cli_text.proofs.line_objects.objects_of.Given as goal

abbrev pub invariant-loop-line : goal.invariant-loop-line
invariant-loop-line l = l.objects.items ≡ flat_map (λ line. line_object l.kind line.now) (take l.line-index l.lines)
