use Rattle.std.proofs.Common.{rules, sym, ap, ◌∙◌}
use Rattle.std.specs.Ordering.{is_lt}
use Rattle.std.proofs.lemmas.List.Sorted.{IsPartitionPoint-from_clause}
use Rattle.dns_data.specs.declared.record.Record.{Record}
use Rattle.dns_data.specs.RecordOrder.{data_order}
use Rattle.zone_core.specs.Prerequisites.{same_data}
use Rattle.zone_core.proofs.SeekLemmas.{parted_by, found_place, other_place, no_place}
use Rattle.zone_core.proofs.effect.place_of.Goals as goal

pub returns-then-place-node : goal.returns-then-place-node
returns-then-place-node c =
    let rs = c.args.node.now in
    let d = c.args.rdata.now in
    let i = c.partition_point-place.result in
    no_place c.args.name.now d rs c.requires i c.partition_point-place.ensures.bound
    (IsPartitionPoint-from_clause (λ (r : Record). is_lt (data_order r.rdata d)) rs i c.partition_point-place.ensures.partitioned (parted_by c.args.name.now d rs c.requires) (λ a b q k. search rules))
    c.if-place-node.true

pub returns-then-same_data : goal.returns-then-same_data
returns-then-same_data c =
    let rs = c.args.node.now in
    let d = c.args.rdata.now in
    let i = c.partition_point-place.result in
    found_place c.args.name.now d rs c.requires i c.partition_point-place.ensures.bound
    (IsPartitionPoint-from_clause (λ (r : Record). is_lt (data_order r.rdata d)) rs i c.partition_point-place.ensures.partitioned (parted_by c.args.name.now d rs c.requires) (λ a b q k. search rules))
    c.index-node-place.result c.if-place-node.false c.index-node-place.is (ap (λ (r : Record). same_data d r.rdata) c.index-node-place.is ∙ sym c.same_data.ensures ∙ c.if-same_data.true)

pub returns-else-same_data : goal.returns-else-same_data
returns-else-same_data c =
    let rs = c.args.node.now in
    let d = c.args.rdata.now in
    let i = c.partition_point-place.result in
    other_place c.args.name.now d rs c.requires i c.partition_point-place.ensures.bound
    (IsPartitionPoint-from_clause (λ (r : Record). is_lt (data_order r.rdata d)) rs i c.partition_point-place.ensures.partitioned (parted_by c.args.name.now d rs c.requires) (λ a b q k. search rules))
    c.index-node-place.result c.if-place-node.false c.index-node-place.is (ap (λ (r : Record). same_data d r.rdata) c.index-node-place.is ∙ sym c.same_data.ensures ∙ c.if-same_data.false)
