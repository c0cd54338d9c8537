use Rattle.std.proofs.Common.{List, map, IsPermutation, sym, subst, ◌∙◌}
use Rattle.std.proofs.lemmas.Result.{err_from_is_err_and}
use Rattle.zone_core.specs.Changes.{change_in}
use Rattle.store_rows.specs.declared.changes.ChangedRecord.{ChangedRecord}
use Rattle.store_rows.specs.RowReading.{AreStoredIn, changed_in, changes_among, each_read}
use Rattle.store_rows.proofs.GatheringLaws.{are_stored}
use Rattle.store_rows.proofs.RowSteps.{done, ok_is, reads_same, found_in, refuses_given}
use Rattle.store_rows.proofs.gathering.stored_changes.Goals as goal

pub returns-in_err-changed-clause-only : goal.returns-in_err-changed-clause-only
returns-in_err-changed-clause-only c = λ origin changes is are same.
    let stored = are_stored origin changes c.args.rows.items is are same in
    let p = err_from_is_err_and c.from_residual.result c.from_residual.ensures.1 in
    rw (p.1, p.2) (refuses_given c.in_err-changed.field-0.0 (each_read changed_in c.args.rows.items) stored.changed changes stored.each c.in_err-changed.ensures)

pub returns-clause-found : goal.returns-clause-found
returns-clause-found c =
    let sorted = c.in_ok-in_order.field-0.items in
    found_in (λ x. map change_in x.items) (λ x. AreStoredIn c.args.rows.items (map change_in x.items)) c.changes_among.result (changes_among sorted) c.changes_among.ensures
    (λ x e. record { changed = c.in_ok-changed.changed.items; sorted = sorted; each = c.in_ok-changed.ensures; same = c.in_ok-in_order.ensures.0; order = c.in_ok-in_order.ensures.1; are = e })

pub returns-clause-only : goal.returns-clause-only
returns-clause-only c = λ origin changes is are same.
    let stored = are_stored origin changes c.args.rows.items is are same in
    let sorted = c.in_ok-in_order.field-0.items in
    let read = ok_is stored.changed c.in_ok-changed.changed.items (sym stored.each ∙ c.in_ok-changed.ensures) in
    let moved = subst (λ (l : List ChangedRecord). IsPermutation l sorted) (sym read) c.in_ok-in_order.ensures.0 in
    reads_same (λ x. map change_in x.items) c.changes_among.result (changes_among sorted) (done changes) (stored.pass sorted moved c.in_ok-in_order.ensures.1) c.changes_among.ensures
