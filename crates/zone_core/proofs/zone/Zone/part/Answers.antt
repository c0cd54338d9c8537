use Rattle.std.proofs.Common.{ap, ◌∙◌}
use Rattle.std.proofs.lemmas.List.{take_all}
use Rattle.zone_core.specs.Sets.{set_of, listing, part, at_name}
use Rattle.zone_core.specs.Zones.{ZoneOf}
use Rattle.zone_core.specs.Parts.{at_names}
use Rattle.zone_core.proofs.GatherLemmas.{listed_set, gather_none, gather_more, gathered}
use Rattle.zone_core.proofs.zone.Zone.part.Goals as goal

pub loop-name-init : goal.loop-name-init
loop-name-init c =
    let zone = c.args.self.now in
    let set = ap (λ (z : ZoneOf). z.records) c.self.view_is in
    gather_none zone.records zone.origin c.in_ok-records.records.items
    (listed_set c.self.inside.records.items zone.records c.self.invariant.order set (at_name zone.origin) c.in_ok-records.records.items
    (c.in_ok-records.ensures ∙ c.records_at.ensures ∙ ap (λ (z : ZoneOf). listing (part zone.records (at_name z.origin))) c.self.view_is))

pub loop-name-preserved : goal.loop-name-preserved
loop-name-preserved c =
    let zone = c.args.self.now in
    let set = ap (λ (z : ZoneOf). z.records) c.self.view_is in
    let name = c.name-item.result in
    let here = c.records_at-in-loop-name.result.now in
    ap set_of c.in_ok-push_copies.ensures
    ∙ gather_more zone.records zone.origin c.args.names.now c.loop-name.name-index name c.loop-name-test.true c.name-item.is c.loop-name.records.items here c.loop-name.invariant
    (listed_set c.self.inside.records.items zone.records c.self.invariant.order set (at_name name) here c.records_at-in-loop-name.ensures)

pub of_rows-requires : goal.of_rows-requires
of_rows-requires c =
    let zone = c.args.self.now in
    let names = c.args.names.now in
    (gathered zone c.origin.ensures.zone names _ c.in_ok-in_order.field-0.items (c.origin-2.view_is ∙ c.in_ok-origin.ensures ∙ c.origin.ensures.value) c.in_ok-in_order.ensures.order
    (c.in_ok-in_order.ensures.set ∙ c.loop-name.invariant ∙ ap (λ ns. part zone.records (at_names zone.origin ns)) (take_all c.loop-name.name-index names c.loop-name-test.false))).0

pub returns : goal.returns
returns c =
    let zone = c.args.self.now in
    let names = c.args.names.now in
    c.of_rows.ensures
    ∙ (gathered zone c.origin.ensures.zone names _ c.in_ok-in_order.field-0.items (c.origin-2.view_is ∙ c.in_ok-origin.ensures ∙ c.origin.ensures.value) c.in_ok-in_order.ensures.order
    (c.in_ok-in_order.ensures.set ∙ c.loop-name.invariant ∙ ap (λ ns. part zone.records (at_names zone.origin ns)) (take_all c.loop-name.name-index names c.loop-name-test.false))).1
