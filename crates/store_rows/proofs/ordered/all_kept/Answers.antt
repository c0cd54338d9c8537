use Rattle.std.proofs.Common.{arith}
use Rattle.std.proofs.lemmas.Result.{err_from_is_err_and}
use Rattle.store_rows.specs.RowReading.{kept_in}
use Rattle.store_rows.proofs.StoredLaws.{each_all, each_more, each_refused}
use Rattle.store_rows.proofs.ordered.all_kept.Goals as goal

pub returns-in_err-kept_in : goal.returns-in_err-kept_in
returns-in_err-kept_in c =
    let p = err_from_is_err_and c.from_residual-in_err-kept_in.result c.from_residual-in_err-kept_in.ensures.1 in
    rw (p.1, p.2)
    (each_refused kept_in c.in_err-kept_in.field-0.0 c.args.rows.now c.loop-row.row-index c.row-item.result c.loop-row.kept.items c.loop-row-test.true c.row-item.is c.loop-row.invariant c.in_err-kept_in.ensures)

pub loop-row-preserved : goal.loop-row-preserved
loop-row-preserved c =
    each_more kept_in c.args.rows.now c.loop-row.row-index c.row-item.result c.loop-row.kept.items _ c.in_ok-kept_in.field-0 c.loop-row-test.true c.row-item.is c.loop-row.invariant c.in_ok-kept_in.ensures
    c.in_ok-push.ensures.items

pub returns : goal.returns
returns c = each_all kept_in c.args.rows.now c.loop-row.row-index c.loop-row.kept.items (omega arith) c.loop-row.invariant
