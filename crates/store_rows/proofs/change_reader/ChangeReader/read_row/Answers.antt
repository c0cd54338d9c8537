use Rattle.std.proofs.Common.{◌≡◌, ap, ◌∙◌}
use Rattle.dns_names.specs.Labels.{IsName}
use Rattle.dns_data.specs.Rdata.{IsRecord}
use Rattle.store_rows.specs.declared.changes.ChangedRecord.{ChangedRecord}
use Rattle.store_rows.specs.ChangeRows.{row_of, IsChanged}
use Rattle.store_rows.specs.RowReading.{changed_at}
use Rattle.store_rows.proofs.ChangeRowLaws.{changed_again, changed_found}
use Rattle.store_rows.proofs.RowSteps.{done, found_with, reads_same}
use Rattle.store_rows.proofs.change_reader.ChangeReader.read_row.Goals as goal

pub returns-clause-found : goal.returns-clause-found
returns-clause-found c =
    let row = c.args.row.now in
    found_with (λ x. x) (λ (x : ChangedRecord). IsName x.origin × IsRecord x.changed) (λ x. (row ≡ row_of x) × IsChanged x) c.changed_at.result (changed_at row) c.changed_at.ensures.exact c.changed_at.ensures.is
    (λ x is e. let f = changed_found row x e in (f.0, record { origin = is.0; number = f.1; changed = is.1 }))

pub returns-clause-only : goal.returns-clause-only
returns-clause-only c = λ x is e. reads_same (λ y. y) c.changed_at.result (changed_at c.args.row.now) (done x) (ap changed_at e ∙ changed_again x is) c.changed_at.ensures.exact
