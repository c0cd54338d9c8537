use Rattle.std.proofs.Common.{sym, ap, ◌∙◌}
use Rattle.std.proofs.lemmas.Result.{err_from_is_err_and}
use Rattle.store_sql.specs.Rows.{ReceiptRowOf}
use Rattle.store_rows.specs.RowReading.{identifier_in}
use Rattle.store_rows.proofs.ReceiptRowLaws.{identifier_found, row_of_parts}
use Rattle.store_rows.proofs.ReplyLaws.{identifier_read}
use Rattle.store_rows.proofs.RowSteps.{done, ok_is, refuses_any}
use Rattle.store_rows.proofs.receipt_reader.ReceiptReader.read_row.Goals as goal

pub returns-in_err-receipt-clause-only : goal.returns-in_err-receipt-clause-only
returns-in_err-receipt-clause-only c = λ r is e.
    let p = err_from_is_err_and c.from_residual-in_err-receipt.result c.from_residual-in_err-receipt.ensures.1 in
    rw (p.1, p.2) (refuses_any c.in_err-receipt.field-0.0 r.receipt (r.caller, (r.id, r.receipt)) (c.in_err-receipt.ensures.only r is e))

pub returns-clause-found : goal.returns-clause-found
returns-clause-found c =
    let row = c.args.row.now in
    let caller = sym (ap (λ (x : ReceiptRowOf). x.caller) c.row.view_is) ∙ sym c.as_bytes.ensures.value ∙ identifier_found c.as_bytes.result.now c.in_ok-caller.caller c.in_ok-caller.ensures in
    let id = sym (ap (λ (x : ReceiptRowOf). x.id) c.row.view_is) ∙ sym c.as_bytes-2.ensures.value ∙ identifier_found c.as_bytes-2.result.now c.in_ok-id.id c.in_ok-id.ensures in
    (row_of_parts row c.in_ok-caller.caller c.in_ok-id.id c.in_ok-receipt.receipt caller id c.in_ok-receipt.ensures.found.0, c.reveal_caller_receipt.ensures)

pub returns-clause-only : goal.returns-clause-only
returns-clause-only c = λ r is e.
    let caller = ok_is r.caller c.in_ok-caller.caller (sym (ap (λ (x : ReceiptRowOf). identifier_in x.caller) e ∙ identifier_read r.caller is.caller) ∙ ap identifier_in (sym (c.as_bytes.ensures.value ∙ ap (λ (x : ReceiptRowOf). x.caller) c.row.view_is)) ∙ c.in_ok-caller.ensures) in
    let id = ok_is r.id c.in_ok-id.id (sym (ap (λ (x : ReceiptRowOf). identifier_in x.id) e ∙ identifier_read r.id is.id) ∙ ap identifier_in (sym (c.as_bytes-2.ensures.value ∙ ap (λ (x : ReceiptRowOf). x.id) c.row.view_is)) ∙ c.in_ok-id.ensures) in
    let kept = ok_is r.receipt c.in_ok-receipt.receipt (c.in_ok-receipt.ensures.only r is e) in
    ap done (λ i. (caller i, (id i, kept i)))
