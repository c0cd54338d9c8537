use Rattle.std.proofs.Common.{◌≡◌, take}
use Rattle.grant_policy.specs.Reach.{reaches}
use Rattle.grant_policy.proofs.reaching.reaches.Given as goal

abbrev pub invariant-loop-rule : goal.invariant-loop-rule
invariant-loop-rule l = l.names.items ≡ reaches l.caller l.action l.origin (take l.rule-index l.rule-items)
