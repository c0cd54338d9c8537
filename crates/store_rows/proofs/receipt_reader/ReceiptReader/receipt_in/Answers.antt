use Rattle.std.proofs.Common.{sym, ap, subst, ◌∙◌}
use Rattle.std.proofs.lemmas.Result.{err_from_is_err_and}
use Rattle.store_sql.specs.Rows.{ReceiptRowOf}
use Rattle.office_model.specs.ReplyWords.{AreWordsOf}
use Rattle.store_rows.specs.RowReading.{name_in, request_at}
use Rattle.store_rows.proofs.ColumnLaws.{name_read, name_found}
use Rattle.store_rows.proofs.ReceiptRowLaws.{request_again, request_found}
use Rattle.store_rows.proofs.RowSteps.{done, ok_is, refuses_any, refuses_given}
use Rattle.store_rows.proofs.receipt_reader.ReceiptReader.receipt_in.Goals as goal

pub returns-in_err-origin-clause-only : goal.returns-in_err-origin-clause-only
returns-in_err-origin-clause-only c = λ r is e.
    let text = c.as_str.ensures.value ∙ ap (λ (x : ReceiptRowOf). x.origin) (c.row.view_is ∙ e) in
    let p = err_from_is_err_and c.from_residual.result c.from_residual.ensures.1 in
    rw (p.1, p.2) (refuses_given c.in_err-origin.field-0.0 (name_in c.as_str.result.now) r.receipt.origin r.receipt (ap name_in text ∙ name_read r.receipt.origin is.receipt.origin) c.in_err-origin.ensures.exact)

pub returns-in_err-update-clause-only : goal.returns-in_err-update-clause-only
returns-in_err-update-clause-only c = λ r is e.
    let text = c.as_str-2.ensures.value ∙ ap (λ (x : ReceiptRowOf). x.request) (c.row.view_is ∙ e) in
    let p = err_from_is_err_and c.from_residual-in_err-update.result c.from_residual-in_err-update.ensures.1 in
    rw (p.1, p.2) (refuses_given c.in_err-update.field-0.0 (request_at c.as_str-2.result.now) r.receipt.update r.receipt (ap request_at text ∙ request_again r.receipt.update is.receipt.update) c.in_err-update.ensures)

pub returns-in_err-reply-clause-only : goal.returns-in_err-reply-clause-only
returns-in_err-reply-clause-only c = λ r is e.
    let text = c.as_str-3.ensures.value ∙ ap (λ (x : ReceiptRowOf). x.reply) (c.row.view_is ∙ e) in
    let p = err_from_is_err_and c.from_residual-in_err-reply.result c.from_residual-in_err-reply.ensures.1 in
    rw (p.1, p.2) (refuses_any c.in_err-reply.field-0.0 r.receipt.reply r.receipt (c.in_err-reply.ensures.only r.receipt.reply is.receipt.reply (r.wording, text)))

pub returns-clause-found : goal.returns-clause-found
returns-clause-found c =
    let origin = sym (ap (λ (x : ReceiptRowOf). x.origin) c.row.view_is) ∙ sym c.as_str.ensures.value ∙ name_found c.as_str.result.now c.in_ok-origin.origin c.in_ok-origin.ensures.exact in
    let request = sym (ap (λ (x : ReceiptRowOf). x.request) c.row.view_is) ∙ sym c.as_str-2.ensures.value ∙ request_found c.as_str-2.result.now c.in_ok-update.update c.in_ok-update.ensures in
    let reply = subst (AreWordsOf c.in_ok-reply.reply) (c.as_str-3.ensures.value ∙ ap (λ (x : ReceiptRowOf). x.reply) c.row.view_is) c.in_ok-reply.ensures.found.0 in
    (record { origin_is = origin; request_is = request; reply_is = reply }, c.reveal_receipt.ensures)

pub returns-clause-only : goal.returns-clause-only
returns-clause-only c = λ r is e.
    let name = c.as_str.ensures.value ∙ ap (λ (x : ReceiptRowOf). x.origin) (c.row.view_is ∙ e) in
    let lines = c.as_str-2.ensures.value ∙ ap (λ (x : ReceiptRowOf). x.request) (c.row.view_is ∙ e) in
    let words = c.as_str-3.ensures.value ∙ ap (λ (x : ReceiptRowOf). x.reply) (c.row.view_is ∙ e) in
    let origin = ok_is r.receipt.origin c.in_ok-origin.origin (sym (ap name_in name ∙ name_read r.receipt.origin is.receipt.origin) ∙ c.in_ok-origin.ensures.exact) in
    let update = ok_is r.receipt.update c.in_ok-update.update (sym (ap request_at lines ∙ request_again r.receipt.update is.receipt.update) ∙ c.in_ok-update.ensures) in
    let reply = ok_is r.receipt.reply c.in_ok-reply.reply (c.in_ok-reply.ensures.only r.receipt.reply is.receipt.reply (r.wording, words)) in
    ap done (λ i. record { origin = origin i; update = update i; reply = reply i })
