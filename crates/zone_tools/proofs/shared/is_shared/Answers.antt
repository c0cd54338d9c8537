use Rattle.std.proofs.Common.{◌∙◌, ap, rules, take, List}
use Rattle.std.specs.List.{list_any}
use Rattle.std.specs.Ordering.{is_lt}
use Rattle.std.proofs.lemmas.List.Sorted.{IsPartitionPoint-from_clause}
use Rattle.dns_data.specs.declared.record.Record.{Record}
use Rattle.zone_core.proofs.RangeLemmas.{rest_is}
use Rattle.zone_tools.specs.SharedAddresses.{is_namesake}
use Rattle.zone_tools.proofs.SharedLemmas.{by_data, parted_by_data, near_tells}
use Rattle.zone_tools.proofs.shared.is_shared.Goals as goal

pub returns : goal.returns
returns c =
    let rs = c.args.records.now in
    let r = c.args.rr.now in
    let i = c.partition_point-at.result in
    let point = IsPartitionPoint-from_clause (λ (x : Record). is_lt (by_data x r)) rs i c.partition_point-at.ensures.partitioned (parted_by_data r rs c.requires) (λ a b q k. search rules) in
    c.has_near_namesake.ensures ∙ ap (λ (xs : List Record). list_any (is_namesake r) (take 2 xs)) (rest_is rs i) ∙ near_tells r rs i c.requires point
