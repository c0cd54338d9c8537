use Rattle.std.proofs.Common.{◌≡◌, ◌++◌, take}
use Rattle.cli_checks.specs.Reverse.{shared_lines}
use Rattle.cli_checks.proofs.reverse.push_all_shared.Given as goal

-- the lines so far
abbrev pub invariant-loop-record : goal.invariant-loop-record
invariant-loop-record l = l.text.items ≡ l.initial.text.items ++ shared_lines (take l.record-index l.records)
