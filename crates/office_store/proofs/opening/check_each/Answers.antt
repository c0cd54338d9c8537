use Rattle.std.proofs.Common.{◌≡◌, Ok, Err, pos, sym, subst}
use Rattle.std.proofs.lemmas.Result.{err_from_is_err_and}
use Rattle.sqlite.specs.Held.{state}
use Rattle.store_rows.specs.Checks.{AreOrigins, AreStateRows}
use Rattle.office_store.specs.Opening.{IsNow, VersionIn, StateFound}
use Rattle.office_store.proofs.OpeningLemmas.{first_check, zones_next, records_next, changes_next, receipts_next, both_found, handed_on, refused_so}
use Rattle.office_store.proofs.opening.check_each.Goals as goal

pub returns-in_err-check_meta : goal.returns-in_err-check_meta
returns-in_err-check_meta g c =
    let s0 = state g.S.Store c.args.conn.now in
    let s1 = state g.S.Store c.check_meta.new.conn in
    let done = first_check s0 s1 c.check_meta.result (λ _ db. VersionIn db) (λ all. IsNow all.versions) (AreStateRows (pos 2)) (λ all are. are.versions) c.check_meta.ensures in
    let e = c.in_err-check_meta.field-0.0 in
    let p = err_from_is_err_and c.from_residual.result c.from_residual.ensures.1 in
    let is : c.from_residual.result ≡ Err e = cc (p.1, p.2) in
    refused_so s0 s1 c.check_meta.result c.from_residual.result e _ StateFound (AreStateRows (pos 2)) c.in_err-check_meta.was is done

pub returns-in_err-origins : goal.returns-in_err-origins
returns-in_err-origins g c =
    let s0 = state g.S.Store c.args.conn.now in
    let s1 = state g.S.Store c.check_meta.new.conn in
    let s2 = state g.S.Store c.check_zones.new.conn in
    let done = zones_next s0 s1 s2 c.check_zones.result (λ v. v.items) c.in_ok-check_meta.field-0 c.in_ok-check_meta.ensures c.check_zones.ensures.check in
    let e = c.in_err-origins.field-0.0 in
    let p = err_from_is_err_and c.from_residual-in_err-origins.result c.from_residual-in_err-origins.ensures.1 in
    let is : c.from_residual-in_err-origins.result ≡ Err e = cc (p.1, p.2) in
    refused_so s0 s2 c.check_zones.result c.from_residual-in_err-origins.result e _ StateFound (AreStateRows (pos 2)) c.in_err-origins.was is done

pub returns-in_err-largest : goal.returns-in_err-largest
returns-in_err-largest g c =
    let s0 = state g.S.Store c.args.conn.now in
    let s1 = state g.S.Store c.check_meta.new.conn in
    let s2 = state g.S.Store c.check_zones.new.conn in
    let s3 = state g.S.Store c.check_records.new.conn in
    let zones = zones_next s0 s1 s2 (Ok c.in_ok-origins.origins) (λ v. v.items) c.in_ok-check_meta.field-0 c.in_ok-check_meta.ensures c.in_ok-origins.ensures.check in
    let done = records_next s0 s2 s3 c.check_records.result c.in_ok-origins.origins (λ v. v.items) c.deref.result.now c.deref.ensures.value zones c.check_records.ensures in
    let e = c.in_err-largest.field-0.0 in
    let p = err_from_is_err_and c.from_residual-in_err-largest.result c.from_residual-in_err-largest.ensures.1 in
    let is : c.from_residual-in_err-largest.result ≡ Err e = cc (p.1, p.2) in
    refused_so s0 s3 c.check_records.result c.from_residual-in_err-largest.result e _ StateFound (AreStateRows (pos 2)) c.in_err-largest.was is done

pub returns-in_err-history : goal.returns-in_err-history
returns-in_err-history g c =
    let s0 = state g.S.Store c.args.conn.now in
    let s1 = state g.S.Store c.check_meta.new.conn in
    let s2 = state g.S.Store c.check_zones.new.conn in
    let s3 = state g.S.Store c.check_records.new.conn in
    let s4 = state g.S.Store c.check_changes.new.conn in
    let names = c.in_ok-origins.origins.items in
    let found = c.in_ok-largest.largest in
    let zones = zones_next s0 s1 s2 (Ok c.in_ok-origins.origins) (λ v. v.items) c.in_ok-check_meta.field-0 c.in_ok-check_meta.ensures c.in_ok-origins.ensures.check in
    let records = records_next s0 s2 s3 (Ok found) c.in_ok-origins.origins (λ v. v.items) c.deref.result.now c.deref.ensures.value zones c.in_ok-largest.ensures in
    let done = changes_next names found s0 s3 s4 c.check_changes.result c.deref-2.result.now c.deref-2.ensures.value records c.check_changes.ensures in
    let e = c.in_err-history.field-0.0 in
    let p = err_from_is_err_and c.from_residual-in_err-history.result c.from_residual-in_err-history.ensures.1 in
    let is : c.from_residual-in_err-history.result ≡ Err e = cc (p.1, p.2) in
    refused_so s0 s4 c.check_changes.result c.from_residual-in_err-history.result e _ StateFound (AreStateRows (pos 2)) c.in_err-history.was is done

pub returns-in_err-check_receipts : goal.returns-in_err-check_receipts
returns-in_err-check_receipts g c =
    let s0 = state g.S.Store c.args.conn.now in
    let s1 = state g.S.Store c.check_meta.new.conn in
    let s2 = state g.S.Store c.check_zones.new.conn in
    let s3 = state g.S.Store c.check_records.new.conn in
    let s4 = state g.S.Store c.check_changes.new.conn in
    let s5 = state g.S.Store c.check_receipts.new.conn in
    let names = c.in_ok-origins.origins.items in
    let found = c.in_ok-largest.largest in
    let history = c.in_ok-history.history in
    let zones = zones_next s0 s1 s2 (Ok c.in_ok-origins.origins) (λ v. v.items) c.in_ok-check_meta.field-0 c.in_ok-check_meta.ensures c.in_ok-origins.ensures.check in
    let records = records_next s0 s2 s3 (Ok found) c.in_ok-origins.origins (λ v. v.items) c.deref.result.now c.deref.ensures.value zones c.in_ok-largest.ensures in
    let changes = changes_next names found s0 s3 s4 (Ok history) c.deref-2.result.now c.deref-2.ensures.value records c.in_ok-history.ensures in
    let done = receipts_next names found s0 s4 s5 c.check_receipts.result history changes c.check_receipts.ensures in
    let e = c.in_err-check_receipts.field-0.0 in
    let p = err_from_is_err_and c.from_residual-in_err-check_receipts.result c.from_residual-in_err-check_receipts.ensures.1 in
    let is : c.from_residual-in_err-check_receipts.result ≡ Err e = cc (p.1, p.2) in
    refused_so s0 s5 c.check_receipts.result c.from_residual-in_err-check_receipts.result e (λ _ db. StateFound (both_found found history) db) StateFound (AreStateRows (pos 2)) c.in_err-check_receipts.was is done

pub returns : goal.returns
returns g c =
    let s0 = state g.S.Store c.args.conn.now in
    let s1 = state g.S.Store c.check_meta.new.conn in
    let s2 = state g.S.Store c.check_zones.new.conn in
    let s3 = state g.S.Store c.check_records.new.conn in
    let s4 = state g.S.Store c.check_changes.new.conn in
    let s5 = state g.S.Store c.check_receipts.new.conn in
    let names = c.in_ok-origins.origins.items in
    let found = c.in_ok-largest.largest in
    let history = c.in_ok-history.history in
    let zones = zones_next s0 s1 s2 (Ok c.in_ok-origins.origins) (λ v. v.items) c.in_ok-check_meta.field-0 c.in_ok-check_meta.ensures c.in_ok-origins.ensures.check in
    let records = records_next s0 s2 s3 (Ok found) c.in_ok-origins.origins (λ v. v.items) c.deref.result.now c.deref.ensures.value zones c.in_ok-largest.ensures in
    let changes = changes_next names found s0 s3 s4 (Ok history) c.deref-2.result.now c.deref-2.ensures.value records c.in_ok-history.ensures in
    handed_on s0 s5 (both_found found history) c.in_ok-check_receipts.field-0 (receipts_next names found s0 s4 s5 (Ok c.in_ok-check_receipts.field-0) history changes c.in_ok-check_receipts.ensures)

pub check_records-requires-clause-origins : goal.check_records-requires-clause-origins
check_records-requires-clause-origins g c = subst AreOrigins (sym c.deref.ensures.value) c.in_ok-origins.ensures.origins

pub check_changes-requires-clause-origins : goal.check_changes-requires-clause-origins
check_changes-requires-clause-origins g c = subst AreOrigins (sym c.deref-2.ensures.value) c.in_ok-origins.ensures.origins
