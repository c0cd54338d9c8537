use Rattle.std.proofs.Common.{map}
use Rattle.std.specs.List.{All}
use Rattle.policy_tools.specs.Idle.{Takes, AreTakers}
use Rattle.policy_tools.specs.Claims.{AreBelow, rules_of}
use Rattle.policy_tools.proofs.idle.idle_of.Given as goal

-- the idle rules so far, with their takers
abbrev pub invariant-loop-rule : goal.invariant-loop-rule
invariant-loop-rule l = record {
  idle : AreBelow (λ i. ¬ Takes (rules_of l.claims) i i) l.rule (map (λ r. r.rule) l.idle.items);
  takers : All (λ r. AreTakers (rules_of l.claims) r.rule r.takers.items) l.idle.items;
}
