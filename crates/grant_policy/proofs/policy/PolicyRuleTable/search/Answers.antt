use Rattle.std.proofs.Common.{rules}
use Rattle.std.specs.Option.{option_copied}
use Rattle.std.proofs.lemmas.List.Sorted.{IsPartitionPoint-from_clause}
use Rattle.grant_policy.specs.Index.{IndexKey}
use Rattle.grant_policy.proofs.IndexLemmas.{before, upto, before_parted, upto_parted, searched, in_order_at, rest_is}
use Rattle.grant_policy.proofs.policy.PolicyRuleTable.search.Goals as goal

pub slice_bounds-result-count : goal.slice_bounds-result-count
slice_bounds-result-count c =
    let target : IndexKey = record { caller = option_copied c.args.caller; key = c.args.key.now } in
    let index = c.self.inside.index.items in
    let from = c.partition_point-from.result in
    let to = c.partition_point-to.result in
    let h = c.self.invariant.0 in
    let lo = IsPartitionPoint-from_clause (before index target h.sorted) index from (rw c.deref.ensures.value at c.partition_point-from.ensures.partitioned) (before_parted index target h.sorted) (λ a r q k. search rules) in
    let hi = IsPartitionPoint-from_clause (upto index target h.sorted) index to (rw c.deref-2.ensures.value at c.partition_point-to.ensures.partitioned) (upto_parted index target h.sorted) (λ a r q k. search rules) in
    let from_in = rw c.deref.ensures.value at c.partition_point-from.ensures.bound in
    let to_in = rw c.deref-2.ensures.value at c.partition_point-to.ensures.bound in
    in_order_at c.self.inside.rules.items index h target from to lo hi from_in to_in

pub returns-clause-rows : goal.returns-clause-rows
returns-clause-rows c =
    let target : IndexKey = record { caller = option_copied c.args.caller; key = c.args.key.now } in
    let index = c.self.inside.index.items in
    let from = c.partition_point-from.result in
    let to = c.partition_point-to.result in
    let h = c.self.invariant.0 in
    let lo = IsPartitionPoint-from_clause (before index target h.sorted) index from (rw c.deref.ensures.value at c.partition_point-from.ensures.partitioned) (before_parted index target h.sorted) (λ a r q k. search rules) in
    let hi = IsPartitionPoint-from_clause (upto index target h.sorted) index to (rw c.deref-2.ensures.value at c.partition_point-to.ensures.partitioned) (upto_parted index target h.sorted) (λ a r q k. search rules) in
    let from_in = rw c.deref.ensures.value at c.partition_point-from.ensures.bound in
    let to_in = rw c.deref-2.ensures.value at c.partition_point-to.ensures.bound in
    rw (← c.self.view_is, c.deref-3.ensures.value, rest_is from index) ((searched c.self.inside.rules.items index h target from to lo hi from_in to_in).rows)

pub returns-clause-all : goal.returns-clause-all
returns-clause-all c =
    let target : IndexKey = record { caller = option_copied c.args.caller; key = c.args.key.now } in
    let index = c.self.inside.index.items in
    let from = c.partition_point-from.result in
    let to = c.partition_point-to.result in
    let h = c.self.invariant.0 in
    let lo = IsPartitionPoint-from_clause (before index target h.sorted) index from (rw c.deref.ensures.value at c.partition_point-from.ensures.partitioned) (before_parted index target h.sorted) (λ a r q k. search rules) in
    let hi = IsPartitionPoint-from_clause (upto index target h.sorted) index to (rw c.deref-2.ensures.value at c.partition_point-to.ensures.partitioned) (upto_parted index target h.sorted) (λ a r q k. search rules) in
    let from_in = rw c.deref.ensures.value at c.partition_point-from.ensures.bound in
    let to_in = rw c.deref-2.ensures.value at c.partition_point-to.ensures.bound in
    rw (← c.self.view_is, c.deref-3.ensures.value, rest_is from index) ((searched c.self.inside.rules.items index h target from to lo hi from_in to_in).all)

pub returns-clause-few : goal.returns-clause-few
returns-clause-few c =
    let target : IndexKey = record { caller = option_copied c.args.caller; key = c.args.key.now } in
    let index = c.self.inside.index.items in
    let from = c.partition_point-from.result in
    let to = c.partition_point-to.result in
    let h = c.self.invariant.0 in
    let lo = IsPartitionPoint-from_clause (before index target h.sorted) index from (rw c.deref.ensures.value at c.partition_point-from.ensures.partitioned) (before_parted index target h.sorted) (λ a r q k. search rules) in
    let hi = IsPartitionPoint-from_clause (upto index target h.sorted) index to (rw c.deref-2.ensures.value at c.partition_point-to.ensures.partitioned) (upto_parted index target h.sorted) (λ a r q k. search rules) in
    let from_in = rw c.deref.ensures.value at c.partition_point-from.ensures.bound in
    let to_in = rw c.deref-2.ensures.value at c.partition_point-to.ensures.bound in
    rw (← c.self.view_is, c.deref-3.ensures.value, rest_is from index) ((searched c.self.inside.rules.items index h target from to lo hi from_in to_in).few)
