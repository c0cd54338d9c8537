use Rattle.std.proofs.Common.{take}
use Rattle.std.specs.List.{Contains}
use Rattle.grant_policy.specs.declared.rule.Rule.{Rule}
use Rattle.policy_tools.specs.Slices.{Touches}
use Rattle.policy_tools.proofs.slices.is_spoken_of.Given as goal

-- none of the rules so far speaks of a name within the origin
abbrev pub invariant-loop-rule : goal.invariant-loop-rule
invariant-loop-rule l = (rule : Rule) → Contains (take l.rule-index l.rules) rule → ¬ Touches rule l.origin
