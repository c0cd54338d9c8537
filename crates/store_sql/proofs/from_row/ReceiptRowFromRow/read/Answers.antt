use Rattle.std.proofs.Common.{drop, sym, subst, rules}
use Rattle.store_sql.specs.Stores.{IsReadableRow}
use Rattle.store_sql.proofs.RowLemmas.{five}
use Rattle.store_sql.proofs.from_row.ReceiptRowFromRow.read.Goals as goal

pub returns-clause-found : goal.returns-clause-found
returns-clause-found c =
    let caller = c.in_ok-text_at.ensures.found in
    let id = c.in_ok-text_at-2.ensures.found in
    let origin = c.in_ok-text_at-3.ensures.found in
    let request = c.in_ok-text_at-4.ensures.found in
    let reply = c.in_ok-text_at-5.ensures.found in
    let same = five (drop c.args.first c.args.row.now) _ _ _ _ _ (search rules) caller.1 id.1 origin.1 request.1 reply.1 in
    (same, subst IsReadableRow (sym same) (caller.2, (id.2, (origin.2, (request.2, (reply.2, tt))))))
