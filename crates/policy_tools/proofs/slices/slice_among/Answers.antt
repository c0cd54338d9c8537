use Rattle.std.proofs.lemmas.Bool.{both_ways}
use Rattle.policy_tools.specs.Slices.{Matters}
use Rattle.policy_tools.proofs.SliceLemmas.{kept_yes, kept_no}
use Rattle.policy_tools.proofs.slices.slice_among.Goals as goal
use Rattle.policy_tools.proofs.slices.slice_among.Goals.{then-branch+in_ok-push, else-branch}

pub loop-rule-preserved : goal.loop-rule-preserved
loop-rule-preserved c =
    let xs = c.args.rules.now in
    let n = c.loop-rule.rule-index in
    let kept = c.loop-rule.slice.items in
    elim c.if-branch.branch [
      | then-branch+in_ok-push w ↦ rw (w.slice-is, w.in_ok-push.ensures.items) (kept_yes (Matters c.args.origins.now) xs n kept _ c.loop-rule-test.true c.rule-item.is c.loop-rule.invariant (c.in_ok-matters.ensures.0 w.if-branch.true))
      | else-branch w ↦ rw w.slice-is (kept_no (Matters c.args.origins.now) xs n kept c.rule-item.result c.loop-rule-test.true c.rule-item.is c.loop-rule.invariant (λ m. both_ways c.in_ok-matters.field-0 w.if-branch.false (c.in_ok-matters.ensures.1 m)))
    ]
