use Rattle.std.proofs.Common.{rules, ◌<◌, ◌∙◌, ap, subst, List, length, arith}
use Rattle.std.specs.List.{All}
use Rattle.std.specs.List.Sorted.{IsPermutation}
use Rattle.std.proofs.lemmas.List.Elements.{All-more}
use Rattle.std.proofs.lemmas.List.Sorted.{ranks_by, answers_always}
use Rattle.std.specs.Ordering.{is_lt}
use Rattle.dns_names.specs.Keys.{IsKeyOfOne}
use Rattle.grant_policy.specs.declared.rule.Rule.{Rule}
use Rattle.grant_policy.specs.Index.{RowOf, place_cmp, place_total, rows_from}
use Rattle.grant_policy.proofs.IndexLemmas.{index_more, all_rules}
use Rattle.grant_policy.proofs.policy.Policy.indexed.Goals as goal

pub loop-number-preserved : goal.loop-number-preserved
loop-number-preserved c =
    let xs = c.deref-rule-items.result.now in
    let rule = c.rule-item.result in
    let i = c.loop-number.number in
    let lt : i < length xs = omega arith in
    record {
      rows = c.in_ok-push.ensures.items ∙ index_more xs i rule c.loop-number.index.items _ lt c.rule-item.is c.loop-number.invariant.rows c.in_ok-of.ensures.row;
      keys = All-more (λ r. IsKeyOfOne r.at) xs i rule lt c.loop-number.invariant.keys (subst (λ (r : Rule). IsKeyOfOne r.at) c.rule-item.is c.in_ok-of.ensures.key);
    }

pub invariant_of-result : goal.invariant_of-result
invariant_of-result c =
    let all = all_rules c.args.rules.items c.deref-rule-items.result.now c.loop-number.number (omega arith) c.deref-rule-items.ensures.value in (
      record {
        sorted = c.in_ok-sort_by.ensures.sorted (λ x y. is_lt (place_cmp x.place y.place)) (ranks_by place_total (λ (r : RowOf). r.place)) (answers_always _ _ _ (λ f a r g called. search rules));
        moved = subst (λ (rows : List RowOf). IsPermutation rows c.sort_by.new.self.items) (c.loop-number.invariant.rows ∙ ap (rows_from 0) all) c.in_ok-sort_by.ensures.permutation;
        keys = subst (λ (xs : List Rule). All (λ r. IsKeyOfOne r.at) xs) all c.loop-number.invariant.keys;
      },
      c.requires,
    )
