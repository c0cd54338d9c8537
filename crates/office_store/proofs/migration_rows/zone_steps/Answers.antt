use Rattle.std.proofs.Common.{◌≡◌, ℕ, true, List, map, IsPermutation, sym, ap, subst, ◌∙◌}
use Rattle.std.specs.List.{AllByRecursion}
use Rattle.std.proofs.lemmas.Result.{err_from_is_err_and}
use Rattle.std.specs.Prelude.{Result, Ok, Err, IfOk}
use Rattle.dns_names.specs.Order.{canonical_cmp}
use Rattle.store_rows.specs.declared.changes.ChangedRecord.{ChangedRecord}
use Rattle.store_rows.specs.declared.row_fault.RowFault.{RowFault}
use Rattle.store_rows.specs.declared.ordered.ZoneRecord.{ZoneRecord}
use Rattle.store_rows.specs.Orders.{rises}
use Rattle.store_sql.specs.Rows.{RecordRowOf, ChangeRowOf}
use Rattle.store_rows.specs.ChangeRows.{IsChangeRow, row_of}
use Rattle.store_rows.specs.Checks.{IsZoneRecordRow, row_of_record}
use Rattle.store_rows.specs.Contents.{ZoneRows}
use Rattle.office_store.specs.declared.migration_steps.MigrationSteps.{MigrationSteps}
use Rattle.office_store.specs.MigrationSteps.{AreOldZoneRows, AreOldZonesInTurn, zones_in_turn, AreSteps}
use Rattle.office_store.proofs.OldZoneRowLemmas.{origin_rows, record_rows, change_rows, origins_rise, taken_in_turn, are_old_rows}
use Rattle.office_store.proofs.migration_rows.zone_steps.Goals as goal

pub returns-in_err-origins-clause-only : goal.returns-in_err-origins-clause-only
returns-in_err-origins-clause-only c = λ are.
    let p = err_from_is_err_and c.from_residual.result c.from_residual.ensures.1 in
    rw (p.1, p.2) (c.in_err-origins.ensures.only (origin_rows c.args.zones.now c.args.records.items c.args.changes.items are))

pub returns-then-not-are_apart-clause-only : goal.returns-then-not-are_apart-clause-only
returns-then-not-are_apart-clause-only c = λ are.
    let os = c.in_ok-origins.origins.items in
    let found = c.in_ok-origins.ensures.found in
    let rise = origins_rise c.args.zones.now c.args.records.items c.args.changes.items are os found.0 found.1 found.2 in
    let told : c.are_apart.result ≡ true = c.are_apart.ensures ∙ ap (rises canonical_cmp) c.deref.ensures.value ∙ rise in
    let bad = sym told ∙ c.if-not-are_apart.true in
    absurd cc

pub returns-in_err-records-clause-only : goal.returns-in_err-records-clause-only
returns-in_err-records-clause-only c = λ are.
    let p = err_from_is_err_and c.from_residual-in_err-records.result c.from_residual-in_err-records.ensures.1 in
    rw (p.1, p.2) (c.in_err-records.ensures.only (subst (AllByRecursion IsZoneRecordRow) (sym c.deref-2.ensures.value) (record_rows c.args.zones.now c.args.records.items c.args.changes.items are)))

pub returns-in_err-changes-clause-only : goal.returns-in_err-changes-clause-only
returns-in_err-changes-clause-only c = λ are.
    let p = err_from_is_err_and c.from_residual-in_err-changes.result c.from_residual-in_err-changes.ensures.1 in
    rw (p.1, p.2) (c.in_err-changes.ensures.only (subst (AllByRecursion IsChangeRow) (sym c.deref-3.ensures.value) (change_rows c.args.zones.now c.args.records.items c.args.changes.items are)))

joined : (zones : List (List ℕ)) (records : List RecordRowOf) (changes : List ChangeRowOf) (r : Result MigrationSteps RowFault) (T : Type 0) (zs : List ZoneRows)
    → IfOk r (λ s. T) → IfOk r (λ s. AreSteps s zs) → (T → (are : AreOldZoneRows zones records changes) × (are.zones ≡ zs)) → IfOk r (λ s. (are : AreOldZoneRows zones records changes) × AreSteps s are.zones)
joined zones records changes (Ok s) T zs turn steps of = let are = of turn in (are.0, subst (AreSteps s) (sym are.1) steps)
joined zones records changes (Err e) T zs turn steps of = tt

pub returns-clause-found : goal.returns-clause-found
returns-clause-found c =
    let zones = c.args.zones.now in
    let records = c.args.records.items in
    let changes = c.args.changes.items in
    let os = c.in_ok-origins.origins.items in
    let rs = c.in_ok-records.records.items in
    let cs = c.in_ok-changes.changes.items in
    let found = c.in_ok-origins.ensures.found in
    let of_records = subst (λ (l : List RecordRowOf). IsPermutation (map row_of_record rs) l) c.deref-2.ensures.value c.in_ok-records.ensures.found.0 in
    let of_changes = subst (λ (l : List ChangeRowOf). IsPermutation (map row_of cs) l) c.deref-3.ensures.value c.in_ok-changes.ensures.found.0 in
    let rise = sym (c.are_apart.ensures ∙ ap (rises canonical_cmp) c.deref.ensures.value) ∙ c.if-not-are_apart.false in
    let e = c.deref-4.ensures.value in
    let f = c.deref-5.ensures.value in
    let g = c.deref-6.ensures.value in
    joined zones records changes c.steps_in_turn.result (AreOldZonesInTurn os rs cs) (zones_in_turn os rs cs)
    (subst (λ (l : List (List (List ℕ))). IfOk c.steps_in_turn.result (λ s. AreOldZonesInTurn l rs cs)) e
    (subst (λ (l : List ZoneRecord). IfOk c.steps_in_turn.result (λ s. AreOldZonesInTurn c.deref-4.result.now l cs)) f
    (subst (λ (l : List ChangedRecord). IfOk c.steps_in_turn.result (λ s. AreOldZonesInTurn c.deref-4.result.now c.deref-5.result.now l)) g c.steps_in_turn.ensures.turn)))
    (subst (λ (l : List (List (List ℕ))). IfOk c.steps_in_turn.result (λ s. AreSteps s (zones_in_turn l rs cs))) e
    (subst (λ (l : List ZoneRecord). IfOk c.steps_in_turn.result (λ s. AreSteps s (zones_in_turn c.deref-4.result.now l cs))) f
    (subst (λ (l : List ChangedRecord). IfOk c.steps_in_turn.result (λ s. AreSteps s (zones_in_turn c.deref-4.result.now c.deref-5.result.now l))) g c.steps_in_turn.ensures.steps)))
    (are_old_rows zones records changes os rs cs found.0 found.1 rise of_records of_changes c.in_ok-changes.ensures.found.1)

pub returns-clause-only : goal.returns-clause-only
returns-clause-only c = λ are.
    let os = c.in_ok-origins.origins.items in
    let rs = c.in_ok-records.records.items in
    let cs = c.in_ok-changes.changes.items in
    let found = c.in_ok-origins.ensures.found in
    let records = c.in_ok-records.ensures.found in
    let changes = c.in_ok-changes.ensures.found in
    let of_records = subst (λ (l : List RecordRowOf). IsPermutation (map row_of_record rs) l) c.deref-2.ensures.value records.0 in
    let of_changes = subst (λ (l : List ChangeRowOf). IsPermutation (map row_of cs) l) c.deref-3.ensures.value changes.0 in
    let turn = taken_in_turn c.args.zones.now c.args.records.items c.args.changes.items are os found.0 found.1 found.2 rs cs of_records records.1 records.2 of_changes changes.1 changes.2 in
    c.steps_in_turn.ensures.only
    (subst (λ (l : List (List (List ℕ))). AreOldZonesInTurn l c.deref-5.result.now c.deref-6.result.now) (sym c.deref-4.ensures.value)
    (subst (λ (l : List ZoneRecord). AreOldZonesInTurn os l c.deref-6.result.now) (sym c.deref-5.ensures.value) (subst (λ (l : List ChangedRecord). AreOldZonesInTurn os rs l) (sym c.deref-6.ensures.value) turn)))
