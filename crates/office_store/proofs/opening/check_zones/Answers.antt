use Rattle.std.proofs.Common.{map, Err, IfOk, sym, ap, subst}
use Rattle.sqlite.specs.Held.{state}
use Rattle.dns_names.specs.Spelling.{name_text}
use Rattle.store_sql.specs.Holds.{HasZones}
use Rattle.store_faults.specs.declared.store_fault.StoreFault.{StoreFault}
use Rattle.store_rows.specs.Checks.{AreOrigins, AreOriginRows}
use Rattle.store_rows.proofs.TableLaws.{texts_are}
use Rattle.office_store.specs.Opening.{IsCheck, HasOrigins, OriginsIn}
use Rattle.office_store.proofs.OpeningLemmas.{checked, unread, if_checked, origins_moved}
use Rattle.office_store.proofs.opening.check_zones.Goals as goal

pub returns-in-Ok-clause-check : goal.returns-in-Ok-clause-check
returns-in-Ok-clause-check g c =
    let old = state g.S.Store c.args.conn.now in
    let new = state g.S.Store c.all_zones.new.conn in
    let rows = map name_text c.in-Ok.origins.items in
    subst (λ r. IsCheck old new r (λ v db. OriginsIn v.items db) (λ all. HasOrigins all.zones)) (sym c.of_check.ensures)
    (checked old new c.all_zones.ensures.asks (λ xs v. AreOriginRows v.items xs) (HasZones) (λ all. all.zones) (HasOrigins) rows c.in-Ok.ensures.same c.in-Ok.ensures.found c.in-Ok.ensures.answer origins_moved c.checked_origins.result
    (c.checked_origins.ensures.found) (λ is of. c.checked_origins.ensures.bad is of.0 of.1))

pub returns-in-Err-clause-check : goal.returns-in-Err-clause-check
returns-in-Err-clause-check g c =
    let old = state g.S.Store c.args.conn.now in
    let new = state g.S.Store c.all_zones.new.conn in
    subst (λ (e : StoreFault). IsCheck old new (Err e) (λ v db. OriginsIn v.items db) (λ all. HasOrigins all.zones)) (sym c.found.ensures)
    (unread old new c.all_zones.ensures.asks (λ xs v. AreOriginRows v.items xs) (HasZones) (λ all. all.zones) (HasOrigins) c.in-Err.fault (λ clean is all holds q. c.in-Err.ensures.bad clean (ap Err is) all holds (texts_are q.0 all.zones q.1)))

pub returns-in-Ok-clause-origins : goal.returns-in-Ok-clause-origins
returns-in-Ok-clause-origins g c =
    subst (λ r. IfOk r (λ v. AreOrigins v.items)) (sym c.of_check.ensures)
    (if_checked c.checked_origins.result (λ v. AreOriginRows v.items (map name_text c.in-Ok.origins.items)) (λ v. AreOrigins v.items) (λ v is. is.are) c.checked_origins.ensures.found)
