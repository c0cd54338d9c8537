use Rattle.std.proofs.Common.{◌≡◌, ℕ, pos, true, List, map, Some, Err, string_bytes, refl, sym, ap, subst, ◌∙◌}
use Rattle.std.proofs.lemmas.Result.{err_from_is_err_and}
use Rattle.store_sql.specs.Rows.{RecordRowOf, ReceiptRowOf, ChangeRowOf, RowsOf}
use Rattle.store_rows.specs.declared.row_fault.RowFault.{RowFault}
use Rattle.store_rows.specs.declared.row_fault.RowFault.TheVariants.{BadRow, NoMemory}
use Rattle.store_rows.specs.Contents.{ContentOf}
use Rattle.store_rows.specs.Checks.{AreReceiptRows, Checks}
use Rattle.office_store.specs.MigratedContents.{migration_batch}
use Rattle.office_store.specs.MigrationSteps.{AreOldZoneRows, AreSteps}
use Rattle.office_store.proofs.MigratedContentLemmas.{migrates, one_version, zone_rows, receipt_rows}
use Rattle.office_store.proofs.migration_rows.migration_of.Goals as goal

pub returns-then-not-is_alone-clause-only : goal.returns-then-not-is_alone-clause-only
returns-then-not-is_alone-clause-only c = λ e found.
    let one = one_version c.args.rows found.0 found.1 found.2 in
    let told : c.is_alone.result ≡ true = c.is_alone.ensures.1 (c.deref.ensures.value ∙ ap (λ (r : RowsOf). r.versions) c.rows.view_is ∙ one) in
    let bad = sym told ∙ c.if-not-is_alone.true in
    absurd cc

-- a refusal of receipts that are some
no_refusal : (P : Type 0) (e : RowFault) → Checks {X = Unit {0}} P (Err e) → P → e ≡ NoMemory
no_refusal P BadRow none p = absurd (none p)
no_refusal P NoMemory none p = refl

pub returns-in_err-check_receipts-clause-only : goal.returns-in_err-check_receipts-clause-only
returns-in_err-check_receipts-clause-only c = λ bad found.
    let rows = c.args.rows in
    let e = c.in_err-check_receipts.field-0.0 in
    let checked = subst (λ (l : List ReceiptRowOf). Checks {X = Unit {0}} (AreReceiptRows l) (Err e)) (ap (λ (r : RowsOf). r.receipts) c.rows.view_is) c.in_err-check_receipts.ensures in
    let memory = no_refusal (AreReceiptRows rows.receipts) e checked (receipt_rows rows found.0 found.1 found.2) in
    let p = err_from_is_err_and c.from_residual.result c.from_residual.ensures.1 in
    absurd cc

pub returns-in_err-steps-clause-only : goal.returns-in_err-steps-clause-only
returns-in_err-steps-clause-only c = λ bad found.
    let rows = c.args.rows in
    let in' = c.rows.inside in
    let zones = c.deref-2.ensures.value ∙ ap (λ (r : RowsOf). r.zones) c.rows.view_is in
    let records = ap (λ (r : RowsOf). r.records) c.rows.view_is in
    let changes = ap (λ (r : RowsOf). r.changes) c.rows.view_is in
    let are = subst (λ (l : List (List ℕ)). AreOldZoneRows l in'.records.items in'.changes.items) (sym zones)
    (subst (λ (l : List RecordRowOf). AreOldZoneRows rows.zones l in'.changes.items) (sym records)
    (subst (λ (l : List ChangeRowOf). AreOldZoneRows rows.zones rows.records l) (sym changes) (zone_rows rows found.0 found.1 found.2))) in
    let memory = c.in_err-steps.ensures.only are in
    let p = err_from_is_err_and c.from_residual-in_err-steps.result c.from_residual-in_err-steps.ensures.1 in
    absurd cc

pub returns-clause-found : goal.returns-clause-found
returns-clause-found c =
    let rows = c.args.rows in
    let in' = c.rows.inside in
    let steps = c.in_ok-steps.steps in
    let zones = c.deref-2.ensures.value ∙ ap (λ (r : RowsOf). r.zones) c.rows.view_is in
    let records = ap (λ (r : RowsOf). r.records) c.rows.view_is in
    let changes = ap (λ (r : RowsOf). r.changes) c.rows.view_is in
    let found = subst (λ (l : List ChangeRowOf). (are : AreOldZoneRows rows.zones rows.records l) × AreSteps steps are.zones) changes
    (subst (λ (l : List RecordRowOf). (are : AreOldZoneRows rows.zones l in'.changes.items) × AreSteps steps are.zones) records
    (subst (λ (l : List (List ℕ)). (are : AreOldZoneRows l in'.records.items in'.changes.items) × AreSteps steps are.zones) zones c.in_ok-steps.ensures.found)) in
    let receipts = subst AreReceiptRows (ap (λ (r : RowsOf). r.receipts) c.rows.view_is) c.in_ok-check_receipts.ensures in
    let content : ContentOf = record { zones = found.0.zones; receipts = receipts.receipts } in
    let one = ap (λ (r : RowsOf). r.versions) (sym c.rows.view_is) ∙ sym c.deref.ensures.value ∙ c.is_alone.ensures.0 c.if-not-is_alone.false in
    let is : record { version = Some (pos 2); zones = map string_bytes c.new.result.items; removed = steps.removed.items; added = steps.added.items; changes = steps.changes.items; receipts = c.new-2.result.items } ≡ migration_batch content =
    λ i. record { version = Some (pos 2); zones = map string_bytes (c.new.ensures.items i); removed = found.1.removed i; added = found.1.added i; changes = found.1.changes i; receipts = c.new-2.ensures.items i } in
    migrates rows _ steps.zones one found.0 receipts is found.1.zones
