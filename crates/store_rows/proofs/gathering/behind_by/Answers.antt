use Rattle.std.proofs.Common.{arith}
use Rattle.std.proofs.lemmas.Result.{err_from_is_err_and}
use Rattle.store_rows.specs.RowReading.{changed_behind}
use Rattle.store_rows.proofs.StoredLaws.{each_all, each_more, each_refused}
use Rattle.store_rows.proofs.gathering.behind_by.Goals as goal

pub returns-in_err-row_behind : goal.returns-in_err-row_behind
returns-in_err-row_behind c =
    let p = err_from_is_err_and c.from_residual-in_err-row_behind.result c.from_residual-in_err-row_behind.ensures.1 in
    rw (p.1, p.2)
    (each_refused (changed_behind c.args.count) c.in_err-row_behind.field-0.0 c.args.rows.now c.loop-row.row-index c.row-item.result c.loop-row.changed.items c.loop-row-test.true c.row-item.is c.loop-row.invariant
    c.in_err-row_behind.ensures)

pub loop-row-preserved : goal.loop-row-preserved
loop-row-preserved c =
    each_more (changed_behind c.args.count) c.args.rows.now c.loop-row.row-index c.row-item.result c.loop-row.changed.items _ c.in_ok-row_behind.field-0 c.loop-row-test.true c.row-item.is c.loop-row.invariant
    c.in_ok-row_behind.ensures c.in_ok-push.ensures.items

pub returns : goal.returns
returns c = each_all (changed_behind c.args.count) c.args.rows.now c.loop-row.row-index c.loop-row.changed.items (omega arith) c.loop-row.invariant
