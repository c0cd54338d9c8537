use Rattle.std.proofs.Common.{rules, ◌-◌, length, take, drop, Option, Bor, sym, ap, ◌∙◌}
use Rattle.std.specs.Option.{option_copied}
use Rattle.std.specs.Ordering.{is_lt}
use Rattle.std.proofs.lemmas.List.Sorted.{IsPartitionPoint-from_clause}
use Rattle.dns_data.specs.declared.record.Record.{Record}
use Rattle.zone_core.specs.Sets.{record_order}
use Rattle.zone_core.proofs.RangeLemmas.{rest_is}
use Rattle.zone_core.proofs.PutLemmas.{tied, sought_first}
use Rattle.zone_core.proofs.rows.same_in.Goals as goal

pub returns-in-Some : goal.returns-in-Some
returns-in-Some c =
    let r = c.args.rr.now in
    let rs = c.args.records.now in
    let i = c.partition_point-place.result in
    let is = sought_first r rs (take (length rs - i) (drop i rs)) i (option_copied c.first.result) c.requires c.partition_point-place.ensures.bound
    (λ parts. IsPartitionPoint-from_clause (λ x. is_lt (record_order x r)) rs i c.partition_point-place.ensures.partitioned parts (λ a b q k. search rules)) (rest_is rs i) c.first.ensures.value in
    c.if_same.ensures ∙ ap (λ (o : Option (Bor Record)). tied r (option_copied o)) (sym c.in-Some.is) ∙ is

pub returns-in-None : goal.returns-in-None
returns-in-None c =
    let r = c.args.rr.now in
    let rs = c.args.records.now in
    let i = c.partition_point-place.result in
    let is = sought_first r rs (take (length rs - i) (drop i rs)) i (option_copied c.first.result) c.requires c.partition_point-place.ensures.bound
    (λ parts. IsPartitionPoint-from_clause (λ x. is_lt (record_order x r)) rs i c.partition_point-place.ensures.partitioned parts (λ a b q k. search rules)) (rest_is rs i) c.first.ensures.value in
    ap (λ (o : Option (Bor Record)). tied r (option_copied o)) (sym c.in-None.is) ∙ is
