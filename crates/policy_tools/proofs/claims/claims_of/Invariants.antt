use Rattle.std.proofs.Common.{◌≡◌, take}
use Rattle.std.specs.List.{All}
use Rattle.policy_tools.specs.Claims.{IsClaim, rules_of}
use Rattle.policy_tools.proofs.claims.claims_of.Given as goal

-- the claims of the rules so far
abbrev pub invariant-loop-rule : goal.invariant-loop-rule
invariant-loop-rule l = record { rules : rules_of l.claims.items ≡ take l.rule-index l.rules; claims : All IsClaim l.claims.items }
