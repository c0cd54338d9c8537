use Rattle.std.proofs.Common.{◌≡◌, take}
use Rattle.cli_checks.specs.Check.{idle_text}
use Rattle.cli_checks.proofs.check.idle_text.Given as goal

-- the lines of the rules so far
abbrev pub invariant-loop-rule : goal.invariant-loop-rule
invariant-loop-rule l = l.text.items ≡ idle_text l.rules (take l.rule-index l.idle)
