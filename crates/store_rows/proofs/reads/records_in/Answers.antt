use Rattle.std.proofs.Common.{arith}
use Rattle.std.proofs.lemmas.Result.{err_from_is_err_and}
use Rattle.store_rows.specs.RowReading.{record_in}
use Rattle.store_rows.proofs.StoredLaws.{each_all, each_more, each_refused}
use Rattle.store_rows.proofs.reads.records_in.Goals as goal

pub returns-in_err-stored_record : goal.returns-in_err-stored_record
returns-in_err-stored_record c =
    let p = err_from_is_err_and c.from_residual-in_err-stored_record.result c.from_residual-in_err-stored_record.ensures.1 in
    rw (p.1, p.2)
    (each_refused record_in c.in_err-stored_record.field-0.0 c.args.rows.now c.loop-row.row-index c.row-item.result c.loop-row.records.items c.loop-row-test.true c.row-item.is c.loop-row.invariant
    c.in_err-stored_record.ensures.exact)

pub loop-row-preserved : goal.loop-row-preserved
loop-row-preserved c =
    each_more record_in c.args.rows.now c.loop-row.row-index c.row-item.result c.loop-row.records.items _ c.in_ok-stored_record.field-0 c.loop-row-test.true c.row-item.is c.loop-row.invariant c.in_ok-stored_record.ensures.exact
    c.in_ok-push.ensures.items

pub returns : goal.returns
returns c = each_all record_in c.args.rows.now c.loop-row.row-index c.loop-row.records.items (omega arith) c.loop-row.invariant
