use Rattle.std.proofs.Common.{map, drop, take, sym, ap}
use Rattle.zone_core.specs.Changes.{change_in}
use Rattle.office_model.specs.States.{Held}
use Rattle.store_rows.specs.ChangeRows.{IsChange}
use Rattle.store_rows.proofs.RowSteps.{done, reads_same}
use Rattle.store_rows.proofs.ContentLemmas.{held_zone, is_held}
use Rattle.store_rows.proofs.LaterChangeLaws.{later_found, dropped, taken}
use Rattle.store_rows.proofs.reads.changes_behind.Goals as goal

pub returns-clause-held : goal.returns-clause-held
returns-clause-held c = λ version all s o held most st e same.
    let found = held_zone version all s st o held e in
    let z = found.0 in
    let h = is_held version all s st o z found.1 in
    let count = c.args.count in
    let rows = later_found z o count most all.changes c.args.rows.now h.changes same in
    reads_same (λ changes. map change_in changes.items) c.stored_behind.result _ (done (take most (drop count held.changes))) (ap (λ (x : Held). done (take most (drop count x.changes))) (sym found.2))
    (c.stored_behind.ensures.only z.origin (take most (drop count z.changes)) h.is.origin (taken IsChange most (drop count z.changes) (dropped IsChange count z.changes h.is.changes)) rows)
