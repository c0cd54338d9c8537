use Rattle.std.proofs.Common.{sym, ap, map, ◌∙◌}
use Rattle.std.proofs.lemmas.List.Sorted.{IsPermutation-trans}
use Rattle.dns_names.specs.Spelling.{name_text}
use Rattle.store_sql.specs.Lookups.{records_of}
use Rattle.store_rows.specs.RecordRows.{record_row}
use Rattle.store_rows.specs.RowReading.{zone_by}
use Rattle.store_rows.proofs.RowSteps.{done, reads_same}
use Rattle.store_rows.proofs.ZoneReadLemmas.{rows_moved, zone_of_state, zone_stored}
use Rattle.store_rows.proofs.reads.zone_of.Goals as goal

pub returns-clause-held : goal.returns-clause-held
returns-clause-held c = λ version all s zone st e same.
    let o = c.args.origin.now in
    let found = zone_of_state version all s o zone st e in
    let at = found.1 in
    let rows = rows_moved o found.0 c.args.rows.now (IsPermutation-trans (map (record_row o) found.0) (records_of (name_text o) all.records) c.args.rows.now at.rows same) in
    reads_same (λ z. z) c.zone_by.result (zone_by o c.args.rows.now) (done zone) (zone_stored o at.named found.0 at.zone c.args.rows.now rows ∙ ap done (sym found.2)) c.zone_by.ensures.exact
