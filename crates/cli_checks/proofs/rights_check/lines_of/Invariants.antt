use Rattle.std.proofs.Common.{◌≡◌, take}
use Rattle.std.specs.List.{flat_map}
use Rattle.cli_checks.specs.RightsCheck.{action_line}
use Rattle.cli_checks.proofs.rights_check.lines_of.Given as goal

-- the lines of the actions so far
abbrev pub invariant-loop-action : goal.invariant-loop-action
invariant-loop-action l = l.text.items ≡ flat_map (action_line l.head l.rights) (take l.action-index l.actions)
