use Rattle.std.proofs.Common.{sym, subst, None, ◌∙◌}
use Rattle.std.proofs.lemmas.Result.{err_from_is_err_and}
use Rattle.dns_data.specs.Reading.{data_of}
use Rattle.dns_data.specs.Text.{data_text}
use Rattle.store_rows.specs.RowFaults.{Refuses, of_datas, canonical}
use Rattle.store_rows.specs.RowReading.{fields_of, data_from}
use Rattle.store_rows.proofs.RowSteps.{refuses_step, steps_joined, spelled_other, spelled_so}
use Rattle.store_rows.proofs.columns.data_in.Goals as goal

pub returns-in_err-rdata : goal.returns-in_err-rdata
returns-in_err-rdata c =
    let t = c.args.record_type in
    let text = c.args.text.now in
    let p = err_from_is_err_and c.from_residual.result c.from_residual.ensures.1 in
    rw (p.1, p.2)
    (subst (Refuses c.in_err-rdata.field-0.0) (steps_joined (fields_of text) (λ items. of_datas (data_of t None items)) (λ d. canonical (data_text d) text d))
    (refuses_step c.in_err-rdata.field-0.0 (data_from t text) (λ d. canonical (data_text d) text d) c.in_err-rdata.ensures))

pub returns-then-ne : goal.returns-then-ne
returns-then-ne c =
    let t = c.args.record_type in
    let text = c.args.text.now in
    let told = c.as_str.ensures.value ∙ c.in_ok-data_text.ensures.canonical in
    sym (steps_joined (fields_of text) (λ items. of_datas (data_of t None items)) (λ d. canonical (data_text d) text d))
    ∙ spelled_other data_text text (data_from t text) c.in_ok-rdata.rdata c.as_str.result.now c.ne.result c.in_ok-rdata.ensures told c.ne.ensures c.if-ne.true

pub returns : goal.returns
returns c =
    let t = c.args.record_type in
    let text = c.args.text.now in
    let told = c.as_str.ensures.value ∙ c.in_ok-data_text.ensures.canonical in
    sym (steps_joined (fields_of text) (λ items. of_datas (data_of t None items)) (λ d. canonical (data_text d) text d))
    ∙ spelled_so data_text text (data_from t text) c.in_ok-rdata.rdata c.as_str.result.now c.ne.result c.in_ok-rdata.ensures told c.ne.ensures c.if-ne.false
