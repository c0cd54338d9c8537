use Rattle.std.proofs.Common.{◌≡◌, ◌≤◌, ◌-◌, length, take, drop}
use Rattle.std.specs.Option.{option_map}
use Rattle.cli_text.specs.Parts.{with_line, divided}
use Rattle.cli_text.proofs.parts.divided.Given as goal

abbrev pub invariant-loop-at : goal.invariant-loop-at
invariant-loop-at l = record {
  within : l.at ≤ length l.input;
  so_far : divided l.input ≡ option_map (with_line (take l.at l.input)) (divided (drop l.at l.input));
}

abbrev pub decreases-loop-at : goal.decreases-loop-at
decreases-loop-at l = length l.initial.input - l.at
