use Rattle.std.proofs.Common.{take}
use Rattle.cli_checks.specs.PolicyZones.{IsHiddenText}
use Rattle.cli_checks.specs.ReportLines.{AreTexts}
use Rattle.cli_checks.proofs.policy_zones.hidden_texts.Given as goal

-- what is told of the zones so far
abbrev pub invariant-loop-origin : goal.invariant-loop-origin
invariant-loop-origin l = AreTexts (IsHiddenText l.policy l.reader) (take l.origin-index l.origins) l.text.items
