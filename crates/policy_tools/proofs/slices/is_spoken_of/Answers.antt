use Rattle.std.proofs.lemmas.Bool.{both_ways, false≢true}
use Rattle.grant_policy.specs.declared.rule.Rule.{Rule}
use Rattle.policy_tools.specs.Slices.{Touches}
use Rattle.policy_tools.proofs.SliceLemmas.{none_more, none_all}
use Rattle.policy_tools.proofs.slices.is_spoken_of.Goals as goal

pub loop-rule-preserved : goal.loop-rule-preserved
loop-rule-preserved c =
    none_more (λ (r : Rule). Touches r c.args.origin.now) c.args.rules.now c.loop-rule.rule-index c.rule-item.result c.loop-rule-test.true c.rule-item.is
    (λ t. both_ways c.in_ok-touches.field-0 c.if-branch.false (c.in_ok-touches.ensures.1 t))
    c.loop-rule.invariant

pub returns : goal.returns
returns c = (λ e. absurd (false≢true e), λ m. absurd (none_all (λ (r : Rule). Touches r c.args.origin.now) c.args.rules.now c.loop-rule.rule-index c.loop-rule-test.false c.loop-rule.invariant m.0 m.1 m.2))
