use Rattle.std.proofs.Common.{map, ◌&&◌, subst}
use Rattle.std.proofs.lemmas.Result.{err_from_is_err_and}
use Rattle.zone_core.specs.Changes.{change_in}
use Rattle.store_rows.specs.ChangeRows.{are_of_one, are_numbered, gathered}
use Rattle.store_rows.specs.RowReading.{changes_among}
use Rattle.store_rows.proofs.GatheringLaws.{each_row, among}
use Rattle.store_rows.proofs.GatheredLaws.{AreGathered, are_gathered}
use Rattle.store_rows.proofs.RowSteps.{done, needed_ok, reads_same, found_in, refuses_memory}
use Rattle.store_rows.proofs.gathering.read_changes.Goals as goal

pub returns-in_err-changed-clause-only : goal.returns-in_err-changed-clause-only
returns-in_err-changed-clause-only c = λ origin changes is are same.
    let p = err_from_is_err_and c.from_residual.result c.from_residual.ensures.1 in
    rw (p.1, p.2) (refuses_memory c.in_err-changed.field-0.0 changes (c.in_err-changed.ensures.only (each_row origin changes c.args.rows.now is are same)))

pub returns-clause-found : goal.returns-clause-found
returns-clause-found c =
    let cs = c.in_ok-changed.changed.items in
    let found = c.in_ok-changed.ensures.found in
    found_in (λ x. map change_in x.items) (λ x. AreGathered c.args.rows.now (map change_in x.items)) c.changes_among.result (changes_among cs) c.changes_among.ensures
    (λ x e.
    let pass = needed_ok (are_of_one cs && are_numbered cs) (gathered cs) (map change_in x.items) e in
    subst (AreGathered c.args.rows.now) pass.1 (are_gathered c.args.rows.now cs found.0 found.1 pass.0))

pub returns-clause-only : goal.returns-clause-only
returns-clause-only c = λ origin changes is are same.
    let cs = c.in_ok-changed.changed.items in
    let found = c.in_ok-changed.ensures.found in
    reads_same (λ x. map change_in x.items) c.changes_among.result (changes_among cs) (done changes) (among origin changes c.args.rows.now is are same cs found.0 found.1 found.2) c.changes_among.ensures
