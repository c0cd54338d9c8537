use Rattle.std.proofs.Common.{◌≡◌, take}
use Rattle.std.specs.List.{flat_map}
use Rattle.cli_checks.specs.PolicyChanges.{group_changes_text}
use Rattle.cli_checks.proofs.policy_changes.groups_text.Given as goal

-- the groups so far
abbrev pub invariant-loop-row : goal.invariant-loop-row
invariant-loop-row l = l.text.items ≡ flat_map group_changes_text (take l.row-index l.rows)
