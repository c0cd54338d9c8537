use Rattle.std.proofs.lemmas.Bool.{both_ways}
use Rattle.grant_policy.specs.declared.rule.Rule.{Rule}
use Rattle.policy_tools.specs.Slices.{Matters}
use Rattle.policy_tools.proofs.SliceLemmas.{kept_yes, kept_no}
use Rattle.policy_tools.proofs.slices.stray_among.Goals as goal
use Rattle.policy_tools.proofs.slices.stray_among.Goals.{then-not-branch+in_ok-push, else-not-branch}

pub loop-rule-preserved : goal.loop-rule-preserved
loop-rule-preserved c =
    let xs = c.args.rules.now in
    let n = c.loop-rule.rule-index in
    let kept = c.loop-rule.stray.items in
    elim c.if-not-branch.branch [
      | then-not-branch+in_ok-push w ↦ rw (w.stray-is, w.in_ok-push.ensures.items) (kept_yes (λ (r : Rule). ¬ Matters c.args.origins.now r) xs n kept _ c.loop-rule-test.true c.rule-item.is c.loop-rule.invariant (λ m. both_ways c.in_ok-matters.field-0 w.if-not-branch.true (c.in_ok-matters.ensures.1 m)))
      | else-not-branch w ↦ rw w.stray-is (kept_no (λ (r : Rule). ¬ Matters c.args.origins.now r) xs n kept c.rule-item.result c.loop-rule-test.true c.rule-item.is c.loop-rule.invariant (λ not'. not' (c.in_ok-matters.ensures.0 w.if-not-branch.false)))
    ]
