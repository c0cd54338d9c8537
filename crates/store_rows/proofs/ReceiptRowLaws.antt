-- The rows of receipts: what is written is read, and what is read was written so.
use Rattle.std.proofs.Common.{◌≡◌, ℕ, List, Result, Ok, refl, sym, ap, ◌∙◌}
use Rattle.zone_core.specs.Updates.{UpdateOf, IsUpdate}
use Rattle.office_model.specs.declared.receipt.Receipt.{Receipt}
use Rattle.office_model.specs.declared.reply.UpdateReply.{UpdateReply}
use Rattle.update_lines.specs.Texts.{update_text}
use Rattle.update_lines.proofs.PrintLaws.{update_read}
use Rattle.store_sql.specs.Rows.{ReceiptRowOf}
use Rattle.store_rows.specs.declared.row_fault.RowFault.{RowFault}
use Rattle.store_rows.specs.Contents.{ReceiptAt, row_of_receipt, IsReceiptAt}
use Rattle.store_rows.specs.ReceiptRows.{HasReceipt, IsRowOfReceipt, ReceiptRowsAreApart}
use Rattle.store_rows.specs.RowFaults.{◌>>=◌, of_updates_in, canonical}
use Rattle.store_rows.specs.RowReading.{is_identifier, identifier_in, request_in, request_at, reply_in, receipt_in}
use Rattle.store_rows.proofs.StoredLaws.{name_stored}
use Rattle.store_rows.proofs.NameLemmas.{text_one}
use Rattle.store_rows.proofs.ReplyLaws.{reply_read, one_reply}
use Rattle.store_rows.proofs.RowSteps.{ok_is, step_ok, needed_ok, canonical_again, canonical_ok}

-- ---- requests

request_read : (update : UpdateOf) → IsUpdate update → request_in (update_text update) ≡ Ok update
request_read update is = ap of_updates_in (update_read update is)

pub request_again : (update : UpdateOf) → IsUpdate update → request_at (update_text update) ≡ Ok update
request_again update is =
    ap (λ r. r >>= λ u. canonical (update_text u) (update_text update) u) (request_read update is) ∙ canonical_again (update_text update) update

pub request_found : (text : List ℕ) (update : UpdateOf) → request_at text ≡ Ok update → text ≡ update_text update
request_found text update e =
    let s = step_ok (request_in text) (λ u. canonical (update_text u) text u) update e in
    let t = canonical_ok (update_text s.0) text s.0 update s.2 in
    sym t.0 ∙ ap update_text t.1

pub identifier_found : (text id : List ℕ) → identifier_in text ≡ Ok id → text ≡ id
identifier_found text id e = (needed_ok (is_identifier text) text id e).1

-- ---- receipts

abbrev made_of : List (List ℕ) → UpdateOf → UpdateReply → Result Receipt RowFault
made_of origin update reply = Ok (record { origin = origin; update = update; reply = reply })

-- the row of a receipt is read as it
pub receipt_read : (r : ReceiptAt) → IsReceiptAt r → receipt_in (row_of_receipt r) ≡ Ok r.receipt
receipt_read r is =
    let row = row_of_receipt r in
    ap (λ x. x >>= λ o. request_in row.request >>= λ u. reply_in row.reply >>= λ p. made_of o u p) (name_stored r.receipt.origin is.receipt.origin)
    ∙ ap (λ x. x >>= λ u. reply_in row.reply >>= λ p. made_of r.receipt.origin u p) (request_read r.receipt.update is.receipt.update)
    ∙ ap (λ x. x >>= λ p. made_of r.receipt.origin r.receipt.update p) (reply_read r.wording r.receipt.reply is.receipt.reply)

-- ---- rows apart

abbrev of_parts : List (List ℕ) → UpdateOf → UpdateReply → Receipt
of_parts o u p = record { origin = o; update = u; reply = p }

receipt_same : (a b : Receipt) → a.origin ≡ b.origin → a.update ≡ b.update → a.reply ≡ b.reply → a ≡ b
receipt_same a b o u p =
    ap (λ x. of_parts x a.update a.reply) o ∙ ap (λ x. of_parts b.origin x a.reply) u ∙ ap (λ x. of_parts b.origin b.update x) p

-- the row of a receipt has it
pub receipt_had : (r : ReceiptAt) → HasReceipt (row_of_receipt r) r.receipt
receipt_had r = record { origin_is = refl; request_is = refl; reply_is = (r.wording, refl) }

-- and a row that has it, with its caller and its identifier, is one of it
pub row_of_parts : (row : ReceiptRowOf) (caller id : List ℕ) (receipt : Receipt) → row.caller ≡ caller → row.id ≡ id → HasReceipt row receipt → IsRowOfReceipt caller id receipt row
row_of_parts row caller id receipt c i has =
    (has.reply_is.0, λ k. record { caller = c k; id = i k; origin = has.origin_is k; request = has.request_is k; reply = has.reply_is.1 k })

pub receipt_rows_are_apart : ReceiptRowsAreApart
receipt_rows_are_apart b c i j r s row is also (ours, e) (theirs, f) =
    let rows = sym e ∙ f in
    let origin = text_one r.origin s.origin is.origin also.origin (ap (λ (x : ReceiptRowOf). x.origin) rows) in
    let update = ok_is r.update s.update (sym (request_read r.update is.update) ∙ ap (λ (x : ReceiptRowOf). request_in x.request) rows ∙ request_read s.update also.update) in
    let reply = one_reply row.reply r.reply s.reply is.reply also.reply (ours, ap (λ (x : ReceiptRowOf). x.reply) e) (theirs, ap (λ (x : ReceiptRowOf). x.reply) f) in
    (ap (λ (x : ReceiptRowOf). x.caller) rows, ap (λ (x : ReceiptRowOf). x.id) rows, receipt_same r s origin update reply)
