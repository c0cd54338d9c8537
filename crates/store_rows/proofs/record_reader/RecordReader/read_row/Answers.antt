use Rattle.std.proofs.Common.{◌≡◌, ap, ◌∙◌}
use Rattle.store_rows.specs.Checks.{row_of_record, IsZoneRecord}
use Rattle.store_rows.specs.RowReading.{zone_record_in}
use Rattle.store_rows.proofs.RecordRowLaws.{zone_record_again, zone_record_found}
use Rattle.store_rows.proofs.RowSteps.{done, found_with, reads_same}
use Rattle.store_rows.proofs.record_reader.RecordReader.read_row.Goals as goal

pub returns-clause-found : goal.returns-clause-found
returns-clause-found c =
    let row = c.args.row.now in
    found_with (λ x. x) IsZoneRecord (λ x. (row ≡ row_of_record x) × IsZoneRecord x) c.record_in.result (zone_record_in row) c.record_in.ensures.exact c.record_in.ensures.is (λ x is e. (zone_record_found row x e, is))

pub returns-clause-only : goal.returns-clause-only
returns-clause-only c = λ x is e. reads_same (λ y. y) c.record_in.result (zone_record_in c.args.row.now) (done x) (ap zone_record_in e ∙ zone_record_again x is) c.record_in.ensures.exact
