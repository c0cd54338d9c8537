use Rattle.std.proofs.Common.{◌∙◌}
use Rattle.std.proofs.lemmas.Result.{err_from_is_err_and}
use Rattle.update_lines.specs.Texts.{update_text}
use Rattle.store_rows.specs.RowFaults.{canonical}
use Rattle.store_rows.specs.RowReading.{request_in}
use Rattle.store_rows.proofs.RowSteps.{refuses_step, spelled_other, spelled_so}
use Rattle.store_rows.proofs.receipts.request_at.Goals as goal

pub returns-in_err-update : goal.returns-in_err-update
returns-in_err-update c =
    let text = c.args.text.now in
    let p = err_from_is_err_and c.from_residual.result c.from_residual.ensures.1 in
    rw (p.1, p.2) (refuses_step c.in_err-update.field-0.0 (request_in text) (λ u. canonical (update_text u) text u) c.in_err-update.ensures)

pub returns-then-ne : goal.returns-then-ne
returns-then-ne c =
    let told = c.as_str.ensures.value ∙ c.in_ok-items_text.ensures.canonical in
    spelled_other update_text c.args.text.now (request_in c.args.text.now) c.in_ok-update.update c.as_str.result.now c.ne.result c.in_ok-update.ensures told c.ne.ensures c.if-ne.true

pub returns : goal.returns
returns c =
    let told = c.as_str.ensures.value ∙ c.in_ok-items_text.ensures.canonical in
    spelled_so update_text c.args.text.now (request_in c.args.text.now) c.in_ok-update.update c.as_str.result.now c.ne.result c.in_ok-update.ensures told c.ne.ensures c.if-ne.false
