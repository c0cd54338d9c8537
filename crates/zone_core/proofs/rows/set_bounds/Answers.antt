use Rattle.std.proofs.Common.{◌-◌, ◌+◌, rules, length, drop, take}
use Rattle.std.specs.declared.cmp.Ordering.{Ordering}
use Rattle.std.specs.Ordering.{is_lt, is_le, is_eq}
use Rattle.std.proofs.lemmas.List.Sorted.{IsPartitionPoint-from_clause}
use Rattle.dns_data.specs.declared.record.Record.{Record}
use Rattle.zone_core.specs.Sets.{at, key_of}
use Rattle.zone_core.specs.Views.{set_order}
use Rattle.zone_core.proofs.RangeLemmas.{tied_bounds, run_alike, rest_is, by_head, both_tie}
use Rattle.zone_core.proofs.rows.set_bounds.Goals as goal

pub returns : goal.returns
returns c =
    let rs = c.args.records.now in
    let name = c.args.name.now in
    let t = c.args.record_type in
    let i = c.partition_point-start.result in
    let n = c.partition_point-count.result in
    let rest = take (length rs - i) (drop i rs) in
    let f : Record → Ordering = λ r. set_order name t r in
    run_alike (λ r. is_eq (f r)) (λ r. at name t (key_of r)) (both_tie name t) rs i (i + n)
    (tied_bounds f rs rest i n (by_head rs c.requires name t) (rest_is rs i) c.partition_point-start.ensures.bound c.partition_point-count.ensures.bound
    (λ parts. IsPartitionPoint-from_clause (λ r. is_lt (f r)) rs i c.partition_point-start.ensures.partitioned parts (λ a r q k. search rules))
    (λ parts. IsPartitionPoint-from_clause (λ r. is_le (f r)) rest n c.partition_point-count.ensures.partitioned parts (λ a r q k. search rules)))
