use Rattle.std.proofs.Common.{◌-◌, rules, length, drop, take}
use Rattle.std.specs.Ordering.{is_lt}
use Rattle.std.proofs.lemmas.List.Sorted.{IsPartitionPoint-from_clause}
use Rattle.dns_names.specs.Labels.{is_within}
use Rattle.dns_names.specs.Order.{canonical_cmp}
use Rattle.zone_core.proofs.RangeLemmas.{rest_is}
use Rattle.zone_core.proofs.WithinLemmas.{within_run}
use Rattle.store_cache.proofs.owners.rows_within.Goals as goal

pub returns : goal.returns
returns c =
    let rs = c.args.records.now in
    let name = c.args.name.now in
    let i = c.partition_point-start.result in
    let rest = take (length rs - i) (drop i rs) in
    within_run name rs c.requires rest i c.partition_point-count.result (rest_is rs i) c.partition_point-start.ensures.bound c.partition_point-count.ensures.bound
    (λ parts. IsPartitionPoint-from_clause (λ r. is_lt (canonical_cmp r.owner name)) rs i c.partition_point-start.ensures.partitioned parts (λ a r q k. search rules))
    (λ parts. IsPartitionPoint-from_clause (λ r. is_within r.owner name) rest c.partition_point-count.result c.partition_point-count.ensures.partitioned parts (λ a r q k. search rules))
