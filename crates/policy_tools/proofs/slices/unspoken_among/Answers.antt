use Rattle.std.proofs.Common.{List, ℕ}
use Rattle.std.proofs.lemmas.Bool.{both_ways}
use Rattle.policy_tools.specs.Slices.{IsSpokenOf}
use Rattle.policy_tools.proofs.SliceLemmas.{kept_yes, kept_no}
use Rattle.policy_tools.proofs.slices.unspoken_among.Goals as goal
use Rattle.policy_tools.proofs.slices.unspoken_among.Goals.{then-not-branch+in_ok-push, else-not-branch}

pub loop-origin-preserved : goal.loop-origin-preserved
loop-origin-preserved c =
    let xs = c.args.origins.now in
    let n = c.loop-origin.origin-index in
    let kept = c.loop-origin.unspoken.items in
    elim c.if-not-branch.branch [
      | then-not-branch+in_ok-push w ↦ rw (w.unspoken-is, w.in_ok-push.ensures.items) (kept_yes (λ (o : List (List ℕ)). ¬ IsSpokenOf c.args.rules.now o) xs n kept _ c.loop-origin-test.true c.origin-item.is c.loop-origin.invariant (λ m. both_ways c.in_ok-is_spoken_of.field-0 w.if-not-branch.true (c.in_ok-is_spoken_of.ensures.1 m)))
      | else-not-branch w ↦ rw w.unspoken-is (kept_no (λ (o : List (List ℕ)). ¬ IsSpokenOf c.args.rules.now o) xs n kept c.origin-item.result c.loop-origin-test.true c.origin-item.is c.loop-origin.invariant (λ not'. not' (c.in_ok-is_spoken_of.ensures.0 w.if-not-branch.false)))
    ]
