use Rattle.std.proofs.Common.{◌≡◌, ◌↔◌, Bool, true, List, map, sym, ap, subst, ◌∙◌}
use Rattle.dns_data.specs.declared.record.Record.{Record}
use Rattle.zone_core.specs.Views.{AreOfZone}
use Rattle.zone_core.specs.Zones.{built}
use Rattle.store_rows.specs.declared.row_fault.RowFault.{RowFault}
use Rattle.store_rows.specs.RowFaults.{Refuses, of_zones}
use Rattle.store_rows.proofs.ZoneStepLemmas.{is_built, none_built}
use Rattle.store_rows.proofs.zone_records.zone_of_records.Goals as goal

pub returns-else-are_those-clause-zone : goal.returns-else-are_those-clause-zone
returns-else-are_those-clause-zone c =
    let o = c.args.origin.now in
    let rs = map (λ r. r.rr) c.args.records.now in
    let e = ap (λ (l : List Record). of_zones (built o l)) (sym c.in_ok-copied.ensures) ∙ c.in-Ok.ensures.exact in
    subst (λ (b : Bool). (b ≡ true) ↔ AreOfZone o rs) c.if-are_those.false
    (is_built o rs c.in-Ok.zone c.records.result.now e c.records.ensures.order c.records.ensures.set c.records.ensures.zone c.are_those.result c.are_those.ensures)

pub returns-in-Err-BadRow-clause-zone : goal.returns-in-Err-BadRow-clause-zone
returns-in-Err-BadRow-clause-zone c =
    let o = c.args.origin.now in
    let rs = map (λ r. r.rr) c.args.records.now in
    let e = subst (λ (f : RowFault). Refuses f (of_zones (built o c.in_ok-copied.field-0.items))) c.in-Err-BadRow.field-0-is c.in-Err-BadRow.ensures.exact in
    none_built o rs (ap (λ (l : List Record). of_zones (built o l)) (sym c.in_ok-copied.ensures) ∙ e)
