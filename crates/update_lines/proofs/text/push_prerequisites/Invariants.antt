use Rattle.std.proofs.Common.{◌≡◌, ◌++◌, take}
use Rattle.std.specs.List.{flat_map}
use Rattle.std.specs.Prelude.{string_bytes}
use Rattle.update_lines.specs.Texts.{prerequisite_line}
use Rattle.update_lines.proofs.text.push_prerequisites.Given as goal

abbrev pub invariant-loop-prerequisite : goal.invariant-loop-prerequisite
invariant-loop-prerequisite l = string_bytes l.text ≡ string_bytes l.initial.text ++ flat_map prerequisite_line (take l.prerequisite-index l.prerequisites)
