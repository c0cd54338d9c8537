use Rattle.std.proofs.Common.{◌≡◌, [], map, drop, take}
use Rattle.std.specs.Prelude.{string_bytes}
use Rattle.cli_updates.specs.Filling.{part_view}
use Rattle.cli_updates.specs.PartLines.{ArePartLines}
use Rattle.cli_updates.specs.Split.{bodies_behind}
use Rattle.cli_updates.proofs.split.bodies.Given as goal

abbrev pub invariant-loop-before : goal.invariant-loop-before
invariant-loop-before l = record {
  made : bodies_behind l.word l.before (string_bytes l.text) (map part_view (drop l.before l.parts)) ≡ bodies_behind l.word 0 [] (map part_view l.parts);
  read : ArePartLines l.word 0 (map part_view (take l.before l.parts)) (string_bytes l.text);
}
