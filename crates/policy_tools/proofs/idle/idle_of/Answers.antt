use Rattle.std.proofs.Common.{ℕ, map, arith}
use Rattle.std.proofs.lemmas.List.{length-map}
use Rattle.std.proofs.lemmas.List.Elements.{All-nil}
use Rattle.policy_tools.specs.declared.idle.IdleRule.{IdleRule}
use Rattle.policy_tools.specs.declared.claims.Claim.{Claim}
use Rattle.policy_tools.specs.Idle.{Takes, AreTakers}
use Rattle.policy_tools.specs.Claims.{rules_of}
use Rattle.policy_tools.proofs.IdleLemmas.{none_below, idle_more, idle_are}
use Rattle.policy_tools.proofs.idle.idle_of.Goals as goal

pub loop-rule-init : goal.loop-rule-init
loop-rule-init c =
    let rules = rules_of c.args.claims.now in
    rw c.new-idle.ensures.items (record {
      idle = none_below (λ (i : ℕ). ¬ Takes rules i i);
      takers = All-nil (λ (r : IdleRule). AreTakers rules r.rule r.takers.items);
    })

pub loop-rule-preserved : goal.loop-rule-preserved
loop-rule-preserved c = idle_more (rules_of c.args.claims.now) c.loop-rule.rule c.loop-rule.idle.items c.push_idle.new.idle.items c.in_ok-takers.takers c.in_ok-takers.ensures c.in_ok-push_idle.ensures c.loop-rule.invariant.idle c.loop-rule.invariant.takers

pub returns-clause-idle : goal.returns-clause-idle
returns-clause-idle c = idle_are (rules_of c.args.claims.now) c.loop-rule.rule (map (λ (r : IdleRule). r.rule) c.loop-rule.idle.items) (omega (arith, length-map c.args.claims.now (λ (x : Claim). x.rule.now))) c.loop-rule.invariant.idle

pub returns-clause-takers : goal.returns-clause-takers
returns-clause-takers c = c.loop-rule.invariant.takers

pub returns-clause-ordered : goal.returns-clause-ordered
returns-clause-ordered c = c.loop-rule.invariant.idle.ordered
