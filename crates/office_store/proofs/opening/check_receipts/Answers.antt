use Rattle.std.proofs.Common.{[], Err, sym, ap, subst}
use Rattle.sqlite.specs.Held.{state}
use Rattle.store_sql.specs.Holds.{HasReceipts}
use Rattle.store_faults.specs.declared.store_fault.StoreFault.{StoreFault}
use Rattle.store_rows.specs.Checks.{AreReceiptRows}
use Rattle.store_rows.proofs.StateChecks.{receipt_rows, with_own_keys}
use Rattle.office_store.specs.Opening.{IsCheck, ReceiptsIn}
use Rattle.office_store.proofs.OpeningLemmas.{unread}
use Rattle.office_store.proofs.opening.check_receipts.Goals as goal

pub returns-in-Ok : goal.returns-in-Ok
returns-in-Ok g c = record {
  asks = c.each_receipt.ensures.asks;
  same = c.in-Ok.ensures.same;
  found = λ clean.
      let taken = c.in-Ok.ensures.found in
      let has = (taken.2 clean).0 in
      (taken.0, with_own_keys taken.0 (taken.1 [] tt) (c.in-Ok.ensures.keys clean taken.0 has), has);
  good = λ clean. tt;
  named = tt;
}

pub returns : goal.returns
returns g c =
    let old = state g.S.Store c.args.conn.now in
    let new = state g.S.Store c.each_receipt.new.conn in
    subst (λ (e : StoreFault). IsCheck old new (Err e) (λ _ db. ReceiptsIn db) (λ all. AreReceiptRows all.receipts)) (sym c.found.ensures)
    (unread old new c.each_receipt.ensures.asks (λ xs _. AreReceiptRows xs) (HasReceipts) (λ all. all.receipts) (AreReceiptRows) c.in-Err.fault (λ clean is all holds q. c.in-Err.ensures.bad clean (ap Err is) all holds (receipt_rows all.receipts q)))
