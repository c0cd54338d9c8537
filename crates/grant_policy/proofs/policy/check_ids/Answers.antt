use Rattle.std.proofs.Common.{◌≡◌, ◌<◌, ◌∙◌, ℕ, length, Ok, subst, arith}
use Rattle.grant_policy.specs.Reading.{free_id}
use Rattle.grant_policy.proofs.ReadLemmas.{ids_before, free_more, free_seen, free_count}
use Rattle.grant_policy.proofs.policy.check_ids.Goals as goal

pub loop-i-preserved : goal.loop-i-preserved
loop-i-preserved c =
    let rules = c.args.rules.now in
    let i = c.loop-i.i in
    let rule = c.index-rules-i.result in
    let lt : i < length rules = omega arith in
    let ids = ids_before rules i in
    let added = c.in_ok-add.ensures.exact ids c.loop-i.invariant.seen in
    record {
      seen = free_seen rules c.add.new.self i rule lt c.index-rules-i.is (c.in_ok-add.ensures.added ids c.loop-i.invariant.seen);
      read = c.loop-i.invariant.read ∙ free_more rules i rule lt c.index-rules-i.is (subst (λ (n : ℕ). free_id n ids rule.id ≡ Ok rule.id) (free_count rules i lt) added);
    }
