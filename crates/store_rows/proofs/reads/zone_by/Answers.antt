use Rattle.std.proofs.Common.{sym, ap, ◌∙◌}
use Rattle.std.proofs.lemmas.Result.{err_from_is_err_and}
use Rattle.std.specs.Prelude.{bytes_eq}
use Rattle.std.specs.List.{list_all}
use Rattle.zone_core.specs.Zones.{built}
use Rattle.store_sql.specs.Rows.{RecordRowOf}
use Rattle.store_rows.specs.RowFaults.{◌>>=◌, of_zones}
use Rattle.store_rows.specs.RowReading.{each_read, record_in, zone_by}
use Rattle.store_rows.proofs.RowSteps.{reads_same, refuses_step}
use Rattle.store_rows.proofs.ZoneReadLemmas.{of_other, of_own}
use Rattle.store_rows.proofs.reads.zone_by.Goals as goal

pub returns-then-not-are_of-clause-exact : goal.returns-then-not-are_of-clause-exact
returns-then-not-are_of-clause-exact c =
    let o = c.args.origin.now in
    let rows = c.args.rows.now in
    let text = c.as_str.ensures.value ∙ c.in_ok-text.ensures.canonical in
    of_other o rows (ap (λ t. list_all (λ (r : RecordRowOf). bytes_eq r.origin t) rows) (sym text) ∙ sym c.are_of.ensures ∙ c.if-not-are_of.true)

pub returns-in_err-records-clause-exact : goal.returns-in_err-records-clause-exact
returns-in_err-records-clause-exact c =
    let o = c.args.origin.now in
    let rows = c.args.rows.now in
    let text = c.as_str.ensures.value ∙ c.in_ok-text.ensures.canonical in
    let same = of_own o rows (ap (λ t. list_all (λ (r : RecordRowOf). bytes_eq r.origin t) rows) (sym text) ∙ sym c.are_of.ensures ∙ c.if-not-are_of.false) in
    let p = err_from_is_err_and c.from_residual-in_err-records.result c.from_residual-in_err-records.ensures.1 in
    rw (p.1, p.2, same) (refuses_step c.in_err-records.field-0.0 (each_read record_in rows) (λ rs. of_zones (built o rs)) c.in_err-records.ensures)

pub returns-clause-exact : goal.returns-clause-exact
returns-clause-exact c =
    let o = c.args.origin.now in
    let rows = c.args.rows.now in
    let text = c.as_str.ensures.value ∙ c.in_ok-text.ensures.canonical in
    let same = of_own o rows (ap (λ t. list_all (λ (r : RecordRowOf). bytes_eq r.origin t) rows) (sym text) ∙ sym c.are_of.ensures ∙ c.if-not-are_of.false) in
    reads_same (λ zone. zone) c.built.result (of_zones (built o c.in_ok-records.records.items)) (zone_by o rows)
    (sym (same ∙ ap (λ r. r >>= λ rs. of_zones (built o rs)) c.in_ok-records.ensures)) c.built.ensures.exact
