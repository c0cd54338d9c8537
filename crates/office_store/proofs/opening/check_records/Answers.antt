use Rattle.std.specs.Prelude.{IfSome}
use Rattle.std.proofs.Common.{map, Err, sym, ap, subst}
use Rattle.sqlite.specs.Held.{state}
use Rattle.store_sql.specs.Holds.{HasRecords}
use Rattle.store_faults.specs.declared.store_fault.StoreFault.{StoreFault}
use Rattle.store_rows.specs.Checks.{row_of_record, AreRecordsOf}
use Rattle.store_rows.proofs.ZoneCheckLemmas.{record_rows}
use Rattle.store_rows.specs.ReadZones.{IsReadAmong}
use Rattle.office_store.specs.Opening.{IsCheck, RecordsFound}
use Rattle.office_store.proofs.OpeningLemmas.{checked, unread, both_passed, was_bad, records_moved}
use Rattle.office_store.proofs.opening.check_records.Goals as goal

pub returns-in-Ok : goal.returns-in-Ok
returns-in-Ok g c =
    let old = state g.S.Store c.args.conn.now in
    let new = state g.S.Store c.all_records-read.new.conn in
    let origins = c.args.origins.now in
    let rows = map row_of_record c.in-Ok.records.items in
    let told = c.check_records.ensures in
    subst (λ r. IsCheck old new r (RecordsFound origins) (λ all. AreRecordsOf origins all.records)) (sym c.of_check.ensures)
    (checked old new c.all_records-read.ensures.asks (λ xs found. AreRecordsOf origins xs × IfSome found (λ zone. IsReadAmong origins xs zone)) (HasRecords) (λ all. all.records) (AreRecordsOf origins) rows c.in-Ok.ensures.same c.in-Ok.ensures.found c.in-Ok.ensures.answer
    (records_moved origins) c.check_records.result (both_passed (AreRecordsOf origins rows) (λ found. IfSome found (λ zone. IsReadAmong origins rows zone)) c.check_records.result told.check told.zone) (was_bad (AreRecordsOf origins rows) c.check_records.result told.check))

pub returns-in-Err : goal.returns-in-Err
returns-in-Err g c =
    let old = state g.S.Store c.args.conn.now in
    let new = state g.S.Store c.all_records-read.new.conn in
    subst (λ (e : StoreFault). IsCheck old new (Err e) (RecordsFound c.args.origins.now) (λ all. AreRecordsOf c.args.origins.now all.records)) (sym c.found.ensures)
    (unread old new c.all_records-read.ensures.asks (λ xs found. AreRecordsOf c.args.origins.now xs × IfSome found (λ zone. IsReadAmong c.args.origins.now xs zone)) (HasRecords) (λ all. all.records) (AreRecordsOf c.args.origins.now) c.in-Err.fault (λ clean is all holds q. c.in-Err.ensures.bad clean (ap Err is) all holds (record_rows q.zones all.records q.each q.same)))
