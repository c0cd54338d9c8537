use Rattle.std.proofs.Common.{◌≡◌, true, sym, ap, ◌∙◌}
use Rattle.std.proofs.lemmas.Result.{err_from_is_err_and}
use Rattle.store_rows.specs.Checks.{AreReceiptRows, receipt_key_order}
use Rattle.store_rows.specs.Orders.{rises}
use Rattle.store_rows.proofs.StateChecks.{refused, receipt_rows, receipts_rise, are_receipt_rows}
use Rattle.store_rows.proofs.state.check_receipts.Goals as goal

pub returns-in_err-keys : goal.returns-in_err-keys
returns-in_err-keys c =
    let rows = c.args.rows.items in
    let p = err_from_is_err_and c.from_residual.result c.from_residual.ensures.1 in
    rw (p.1, p.2) (refused (AreReceiptRows rows) c.in_err-keys.field-0.0 (λ are. c.in_err-keys.ensures.only (receipt_rows rows are)))

pub returns-then-not-are_apart : goal.returns-then-not-are_apart
returns-then-not-are_apart c = λ are.
    let rows = c.args.rows.items in
    let ks = c.in_ok-keys.keys.items in
    let found = c.in_ok-keys.ensures.found in
    let told : c.are_apart.result ≡ true = c.are_apart.ensures ∙ ap (rises receipt_key_order) c.deref.ensures.value ∙ receipts_rise rows ks found.0 are found.2 in
    let no = c.if-not-are_apart.true in
    cc

pub returns : goal.returns
returns c =
    let rows = c.args.rows.items in
    let ks = c.in_ok-keys.keys.items in
    let found = c.in_ok-keys.ensures.found in
    are_receipt_rows rows ks found.0 found.1 (sym (c.are_apart.ensures ∙ ap (rises receipt_key_order) c.deref.ensures.value) ∙ c.if-not-are_apart.false)
