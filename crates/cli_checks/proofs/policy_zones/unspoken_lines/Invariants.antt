use Rattle.std.proofs.Common.{◌≡◌, map, take}
use Rattle.std.specs.List.{flat_map}
use Rattle.cli_checks.specs.PolicyZones.{unspoken_line}
use Rattle.cli_checks.proofs.policy_zones.unspoken_lines.Given as goal

-- the lines of the zones so far
abbrev pub invariant-loop-origin : goal.invariant-loop-origin
invariant-loop-origin l = l.text.items ≡ flat_map unspoken_line (map (λ origin. origin.now) (take l.origin-index l.unspoken))
