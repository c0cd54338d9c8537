use Rattle.std.proofs.Common.{arith}
use Rattle.std.proofs.lemmas.Bool.{both_ways}
use Rattle.std.proofs.lemmas.List.{length_push}
use Rattle.policy_tools.proofs.LimitLemmas.{places_yes, places_no}
use Rattle.policy_tools.proofs.limits.add_places_within.Goals as goal
use Rattle.policy_tools.proofs.limits.add_places_within.Goals.{then-is_within+in_ok-place+in_ok-push, else-is_within}

pub loop-rule-preserved : goal.loop-rule-preserved
loop-rule-preserved c =
    let rules = c.args.rules.now in
    let n = c.loop-rule.rule-index in
    let rule = c.rule-item.result in
    let top = c.args.top.now in
    let old = c.args.places.now.items in
    let new = c.loop-rule.places.items in
    let added = c.loop-rule.invariant.added in
    elim c.if-is_within.branch [
      | then-is_within+in_ok-place+in_ok-push w ↦ rw (w.places-is, w.in_ok-push.ensures.items) (record {
        added = places_yes rules n rule c.loop-rule-test.true c.rule-item.is top old new added w.in_ok-place.field-0 w.in_ok-place.ensures;
        few = omega (arith, c.loop-rule.invariant.few, length_push new w.in_ok-place.field-0);
      })
      | else-is_within w ↦ rw w.places-is (record {
        added = places_no rules n rule c.loop-rule-test.true c.rule-item.is top old new added (λ h. both_ways c.is_within.result w.if-is_within.false (c.is_within.ensures.test.1 h));
        few = omega (arith, c.loop-rule.invariant.few);
      })
    ]
