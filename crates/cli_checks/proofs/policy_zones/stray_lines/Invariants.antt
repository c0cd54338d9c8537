use Rattle.std.proofs.Common.{◌≡◌, map, take}
use Rattle.std.specs.List.{flat_map}
use Rattle.cli_checks.specs.PolicyZones.{stray_line}
use Rattle.cli_checks.proofs.policy_zones.stray_lines.Given as goal

-- the lines of the rules so far
abbrev pub invariant-loop-rule : goal.invariant-loop-rule
invariant-loop-rule l = l.text.items ≡ flat_map stray_line (map (λ rule. rule.now) (take l.rule-index l.stray))
