use Rattle.std.proofs.Common.{◌≡◌, ◌++◌, take}
use Rattle.std.specs.List.{flat_map}
use Rattle.cli_checks.specs.PolicyChanges.{change_row_text}
use Rattle.cli_checks.proofs.policy_changes.push_rows.Given as goal

-- the rows so far
abbrev pub invariant-loop-row : goal.invariant-loop-row
invariant-loop-row l = l.text.items ≡ l.initial.text.items ++ flat_map (change_row_text l.scope) (take l.row-index l.rows)
