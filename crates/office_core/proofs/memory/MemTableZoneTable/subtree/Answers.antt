use Rattle.std.proofs.Common.{List, Some, sym, ap, subst, ◌++◌, ◌∙◌}
use Rattle.std.specs.List.{find}
use Rattle.std.specs.Prelude.{option_map}
use Rattle.dns_data.specs.declared.record.Record.{Record}
use Rattle.dns_data.specs.Rdata.{type_of}
use Rattle.grant_policy.specs.Grants.{includes}
use Rattle.zone_core.specs.Sets.{InOrder, listing, part, within}
use Rattle.zone_core.specs.Zones.{ZoneOf}
use Rattle.zone_core.proofs.ChangedLemmas.{part_in_order}
use Rattle.zone_core.proofs.RowLemmas.{InOrder-filter}
use Rattle.office_model.specs.Tables.{included}
use Rattle.office_core.specs.Memory.{is_of, receipt_rows}
use Rattle.office_core.proofs.MemoryLemmas.{zone_told}
use Rattle.office_core.proofs.memory.MemTableZoneTable.subtree.Goals as goal

pub returns-clause-answer : goal.returns-clause-answer
returns-clause-answer c = λ u s h.
    let origin = c.args.origin.now in
    let grants = c.args.grants.now in
    let zones = c.self.inside.zones.items in
    let held = c.in-Some.held.now in
    let found = c.in-Some.ensures ∙ ap (find (is_of origin)) c.deref.ensures.value in
    let told = zone_told c.args.self.now zones (receipt_rows c.self.inside.receipts) s origin (Some held) c.self.view_is h found in
    let rows = c.in_ok-records.ensures.value ∙ ap (λ (l : List Record). l ++ included grants c.records_within-records.result.now) c.new.ensures.items ∙ ap (included grants) c.records_within-records.ensures in
    ap Some rows ∙ ap (λ z. option_map (included grants) (option_map (λ (zone : ZoneOf). listing (part zone.records (within c.args.top.now))) z)) told

pub returns-clause-order : goal.returns-clause-order
returns-clause-order c =
    let grants = c.args.grants.now in
    let rows = c.records_within-records.result.now in
    let order = part_in_order c.in-Some.held.now.zone (within c.args.top.now) rows c.origin-origin.ensures.zone c.records_within-records.ensures in
    subst InOrder (sym (c.in_ok-records.ensures.value ∙ ap (λ (l : List Record). l ++ included grants rows) c.new.ensures.items)) (InOrder-filter (λ r. includes grants r.owner (type_of r.rdata)) rows order)
