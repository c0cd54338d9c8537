use Rattle.std.proofs.Common.{◌≡◌, ◌++◌, drop}
use Rattle.grant_policy.specs.Boundaries.{boundaries}
use Rattle.grant_policy.proofs.boundaries.Boundaries.of.Given as goal

-- those so far, and then those of the rules that are left
abbrev pub invariant-loop-rule : goal.invariant-loop-rule
invariant-loop-rule l = l.sorted.items ++ boundaries l.caller (drop l.rule-index l.rules) ≡ boundaries l.caller l.rules
