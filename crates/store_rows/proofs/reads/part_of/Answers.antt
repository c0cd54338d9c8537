use Rattle.std.proofs.Common.{filter, sym, ap, ◌∙◌}
use Rattle.zone_core.specs.Parts.{part_of, at_names}
use Rattle.zone_core.specs.Sets.{key_of}
use Rattle.zone_core.specs.Zones.{ZoneOf}
use Rattle.store_rows.specs.RowReading.{zone_by}
use Rattle.store_rows.proofs.RowSteps.{done, reads_same}
use Rattle.store_rows.proofs.ZoneReadLemmas.{zone_of_state, zone_stored, part_rows, rows_of_part, part_is, part_order, own_names}
use Rattle.store_rows.proofs.reads.part_of.Goals as goal

pub returns-clause-held : goal.returns-clause-held
returns-clause-held c = λ version all s zone names st e rows.
    let o = c.args.origin.now in
    let found = zone_of_state version all s o zone st e in
    let at = found.1 in
    let test = at_names o names in
    let own = filter (λ r. test (key_of r)) found.0 in
    let of = rows_of_part o names found.0 all.records c.args.rows.now (part_rows o names found.0 all.records at.rows) rows in
    reads_same (λ z. z) c.zone_by.result (zone_by o c.args.rows.now) (done (part_of zone test))
    (zone_stored o at.named own (part_order o found.0 test at.zone (own_names o names)) c.args.rows.now of ∙ ap done (part_is o found.0 test ∙ ap (λ (z : ZoneOf). part_of z test) (sym found.2)))
    c.zone_by.ensures.exact
