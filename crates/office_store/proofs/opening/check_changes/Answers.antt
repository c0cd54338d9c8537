use Rattle.std.proofs.Common.{map, Err, sym, ap, subst}
use Rattle.sqlite.specs.Held.{state}
use Rattle.store_sql.specs.Holds.{HasChanges}
use Rattle.store_faults.specs.declared.store_fault.StoreFault.{StoreFault}
use Rattle.store_rows.specs.ChangeRows.{row_of}
use Rattle.store_rows.specs.Checks.{AreChangesOf}
use Rattle.store_rows.proofs.ZoneCheckLemmas.{change_rows}
use Rattle.office_store.specs.Opening.{IsCheck, AreRemembered, ChangesFound}
use Rattle.office_store.proofs.OpeningLemmas.{checked, unread, both_passed, was_bad, changes_moved}
use Rattle.office_store.proofs.opening.check_changes.Goals as goal

pub returns-in-Ok : goal.returns-in-Ok
returns-in-Ok g c =
    let old = state g.S.Store c.args.conn.now in
    let new = state g.S.Store c.all_changes-read.new.conn in
    let rows = map row_of c.in-Ok.changes.items in
    subst (λ r. IsCheck old new r (ChangesFound c.args.origins.now) (λ all. AreChangesOf c.args.origins.now all.changes)) (sym c.of_check.ensures)
    (checked old new c.all_changes-read.ensures.asks (λ xs history. AreChangesOf c.args.origins.now xs × AreRemembered xs history) (HasChanges) (λ all. all.changes) (AreChangesOf c.args.origins.now) rows c.in-Ok.ensures.same c.in-Ok.ensures.found c.in-Ok.ensures.answer (changes_moved c.args.origins.now) c.checked_history.result
    (both_passed (AreChangesOf c.args.origins.now rows) (AreRemembered rows) c.checked_history.result c.checked_history.ensures.check c.checked_history.ensures.history) (was_bad (AreChangesOf c.args.origins.now rows) c.checked_history.result c.checked_history.ensures.check))

pub returns-in-Err : goal.returns-in-Err
returns-in-Err g c =
    let old = state g.S.Store c.args.conn.now in
    let new = state g.S.Store c.all_changes-read.new.conn in
    subst (λ (e : StoreFault). IsCheck old new (Err e) (ChangesFound c.args.origins.now) (λ all. AreChangesOf c.args.origins.now all.changes)) (sym c.found.ensures)
    (unread old new c.all_changes-read.ensures.asks (λ xs history. AreChangesOf c.args.origins.now xs × AreRemembered xs history) (HasChanges) (λ all. all.changes) (AreChangesOf c.args.origins.now) c.in-Err.fault (λ clean is all holds q. c.in-Err.ensures.bad clean (ap Err is) all holds (change_rows q.zones all.changes q.each q.same)))
