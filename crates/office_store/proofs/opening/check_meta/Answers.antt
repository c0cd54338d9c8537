use Rattle.std.proofs.Common.{ℤ, List, map, Err, sym, ap, subst}
use Rattle.sqlite.specs.Effect.{Database}
use Rattle.sqlite.specs.Held.{state}
use Rattle.store_sql.specs.Tables.{stored_version}
use Rattle.store_sql.specs.Stores.{Stores}
use Rattle.store_faults.specs.declared.store_fault.StoreFault.{StoreFault}
use Rattle.store_rows.specs.Checks.{Checks}
use Rattle.office_store.specs.Opening.{IsCheck, IsNow, VersionIn}
use Rattle.office_store.proofs.OpeningLemmas.{checked, unread, passed, was_bad, version_moved}
use Rattle.office_store.proofs.opening.check_meta.Goals as goal

pub returns-in-Ok : goal.returns-in-Ok
returns-in-Ok g c =
    let old = state g.S.Store c.args.conn.now in
    let new = state g.S.Store c.versions.new.conn in
    let rows = c.in-Ok.rows.items in
    let told = subst (λ (l : List ℤ). Checks (IsNow l) c.check_versions.result) c.deref.ensures.value c.check_versions.ensures in
    subst (λ r. IsCheck old new r (λ _ db. VersionIn db) (λ all. IsNow all.versions)) (sym c.of_check.ensures)
    (checked old new c.versions.ensures.asks (λ xs _. IsNow xs) (λ (db : Database) xs. Stores (db.trees 0) (map stored_version xs)) (λ all. all.versions) (IsNow) rows c.in-Ok.ensures.same (λ clean. (c.in-Ok.ensures.found clean).1) c.in-Ok.ensures.answer version_moved c.check_versions.result
    (passed (IsNow rows) c.check_versions.result told) (was_bad (IsNow rows) c.check_versions.result told))

pub returns-in-Err : goal.returns-in-Err
returns-in-Err g c =
    let old = state g.S.Store c.args.conn.now in
    let new = state g.S.Store c.versions.new.conn in
    subst (λ (e : StoreFault). IsCheck old new (Err e) (λ _ db. VersionIn db) (λ all. IsNow all.versions)) (sym c.found.ensures)
    (unread old new c.versions.ensures.asks (λ xs _. IsNow xs) (λ (db : Database) xs. Stores (db.trees 0) (map stored_version xs)) (λ all. all.versions) (IsNow) c.in-Err.fault (λ clean is all holds q. c.in-Err.ensures.bad clean (ap Err is) all holds))
