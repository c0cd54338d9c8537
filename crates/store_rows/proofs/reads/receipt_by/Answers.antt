use Rattle.std.proofs.Common.{◌≡◌, length, Some, ap, ◌∙◌, arith}
use Rattle.std.proofs.lemmas.Result.{err_from_is_err_and}
use Rattle.store_rows.specs.RowFaults.{◌>>=◌}
use Rattle.store_rows.specs.RowReading.{receipt_in}
use Rattle.store_rows.proofs.RowSteps.{done, refuses_step}
use Rattle.store_rows.proofs.ReceiptReadLemmas.{no_row, one_row, two_rows}
use Rattle.store_rows.proofs.reads.receipt_by.Goals as goal

pub returns-in-empty : goal.returns-in-empty
returns-in-empty c = no_row c.args.rows.now c.in-empty.len_below

pub returns-in_err-stored_receipt-in-len1 : goal.returns-in_err-stored_receipt-in-len1
returns-in_err-stored_receipt-in-len1 c =
    let row = c.row-item.result in
    let one : length c.args.rows.now ≡ 1 = omega arith in
    let same = one_row c.args.rows.now row one c.row-item.is in
    let p = err_from_is_err_and c.from_residual.result c.from_residual.ensures.1 in
    rw (p.1, p.2, same) (refuses_step c.in_err-stored_receipt-in-len1.field-0.0 (receipt_in row) (λ receipt. done (Some receipt)) c.in_err-stored_receipt-in-len1.ensures)

pub returns-in_ok-stored_receipt-in-len1 : goal.returns-in_ok-stored_receipt-in-len1
returns-in_ok-stored_receipt-in-len1 c =
    let one : length c.args.rows.now ≡ 1 = omega arith in
    one_row c.args.rows.now c.row-item.result one c.row-item.is ∙ ap (λ r. r >>= λ receipt. done (Some receipt)) c.in_ok-stored_receipt-in-len1.ensures

pub returns-in_default : goal.returns-in_default
returns-in_default c = two_rows c.args.rows.now c.in_default.len_at_least
