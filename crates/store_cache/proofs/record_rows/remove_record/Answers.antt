use Rattle.std.proofs.Common.{rules, ◌≡◌, ◌≤◌, ◌-◌, ◌+◌, ◌++◌, length, take, drop, cond, true, false, sym, ap, subst, ◌∙◌}
use Rattle.std.specs.List.{filter}
use Rattle.std.specs.Ordering.{is_lt}
use Rattle.std.specs.List.Sorted.{IsPartitionPoint, IsPartitionedBy}
use Rattle.std.proofs.lemmas.List.Sorted.{IsPartitionPoint-from_clause}
use Rattle.zone_core.specs.Sets.{record_order}
use Rattle.zone_core.proofs.RangeLemmas.{rest_is}
use Rattle.store_cache.proofs.RecordRowLemmas.{other, gone_is}
use Rattle.store_cache.proofs.record_rows.remove_record.Goals.{After-is_first}
use Rattle.store_cache.proofs.record_rows.remove_record.Goals as goal

gone : (c : After-is_first) → filter (other c.args.rr.now) c.args.rows.now.items
    ≡ cond c.is_first.result (take c.partition_point-place.result c.args.rows.now.items ++ drop (c.partition_point-place.result + 1) c.args.rows.now.items) c.args.rows.now.items
gone c =
    let r = c.args.rr.now in
    let rs = c.args.rows.now.items in
    let seen = c.deref.result.now in
    let rest = c.deref-2.result.now in
    let i = c.partition_point-place.result in
    gone_is r rs (take (length rest - i) (drop i rest)) i c.is_first.result c.requires (subst (λ ys. i ≤ length ys) c.deref.ensures.value c.partition_point-place.ensures.bound)
    (λ parts. subst (λ ys. IsPartitionPoint (λ x. is_lt (record_order x r) ≡ true) (λ x. is_lt (record_order x r) ≡ false) ys i) c.deref.ensures.value
    (IsPartitionPoint-from_clause (λ x. is_lt (record_order x r)) seen i c.partition_point-place.ensures.partitioned (subst (IsPartitionedBy (λ x. is_lt (record_order x r))) (sym c.deref.ensures.value) parts) (λ a b q k. search rules)))
    (rest_is rest i ∙ ap (drop i) c.deref-2.ensures.value) c.is_first.ensures

pub returns-then-not-is_first : goal.returns-then-not-is_first
returns-then-not-is_first c =
    let rs = c.args.rows.now.items in
    let i = c.partition_point-place.result in
    sym (gone (goal.at.returns-then-not-is_first c).After-is_first ∙ ap (λ b. cond b (take i rs ++ drop (i + 1) rs) rs) c.if-not-is_first.true)

pub returns : goal.returns
returns c =
    let rs = c.args.rows.now.items in
    let i = c.partition_point-place.result in
    c.remove.ensures.by_index.2 ∙ sym (gone (goal.at.returns c).After-is_first ∙ ap (λ b. cond b (take i rs ++ drop (i + 1) rs) rs) c.if-not-is_first.false)
