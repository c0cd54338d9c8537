use Rattle.std.proofs.Common.{◌-◌, rules, length, drop, take}
use Rattle.std.specs.declared.cmp.Ordering.{Ordering}
use Rattle.std.specs.Ordering.{is_lt, is_le}
use Rattle.std.proofs.lemmas.List.Sorted.{IsPartitionPoint-from_clause}
use Rattle.dns_names.specs.Order.{canonical_cmp}
use Rattle.dns_data.specs.declared.record.Record.{Record}
use Rattle.zone_core.proofs.RangeLemmas.{tied_run, rest_is, by_owner}
use Rattle.store_cache.proofs.owners.rows_at.Goals as goal

pub returns : goal.returns
returns c =
    let rs = c.args.records.now in
    let i = c.partition_point-start.result in
    let rest = take (length rs - i) (drop i rs) in
    let f : Record → Ordering = λ r. canonical_cmp r.owner c.args.name.now in
    tied_run f rs rest i c.partition_point-count.result (by_owner rs c.requires c.args.name.now) (rest_is rs i) c.partition_point-start.ensures.bound c.partition_point-count.ensures.bound
    (λ parts. IsPartitionPoint-from_clause (λ r. is_lt (f r)) rs i c.partition_point-start.ensures.partitioned parts (λ a r q k. search rules))
    (λ parts. IsPartitionPoint-from_clause (λ r. is_le (f r)) rest c.partition_point-count.result c.partition_point-count.ensures.partitioned parts (λ a r q k. search rules))
