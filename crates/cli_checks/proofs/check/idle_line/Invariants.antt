use Rattle.std.proofs.Common.{◌≡◌, ◌++◌, take}
use Rattle.std.specs.List.{flat_map}
use Rattle.cli_checks.specs.Check.{idle_head}
use Rattle.cli_checks.specs.ReportLines.{id_text}
use Rattle.cli_checks.proofs.check.idle_line.Given as goal

-- the ids of the takers so far
abbrev pub invariant-loop-taker : goal.invariant-loop-taker
invariant-loop-taker l = l.text.items ≡ idle_head l.rules l.idle.rule ++ flat_map (id_text l.rules) (take l.taker-index l.idle.takers.items)
